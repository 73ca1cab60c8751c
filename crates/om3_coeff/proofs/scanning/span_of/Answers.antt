use Rattle.std.proofs.Common.{arith}
use Rattle.std.proofs.lemmas.Grind.{common_steps}
use Rattle.om3_coeff.proofs.SpanLemmas.{span_of-more}
use Rattle.om3_coeff.proofs.scanning.span_of.Goals as goal

pub loop-slot-preserved : goal.loop-slot-preserved
loop-slot-preserved c = grind (arith, common_steps, span_of-more)
