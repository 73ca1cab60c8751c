use Rattle.std.proofs.Common.{arith}
use Rattle.chart_frames.specs.Format.{number_in}
use Rattle.chart_frames.proofs.Numbers.{number_taken}
use Rattle.chart_frames.proofs.fields.long_at.Goals as goal

pub returns-clause-takes : goal.returns-clause-takes
unfolding number_in
returns-clause-takes c = number_taken 8 _ _ (λ i. omega (arith, c.type_inv.bytes i)) (omega arith) c.read_u64.ensures
