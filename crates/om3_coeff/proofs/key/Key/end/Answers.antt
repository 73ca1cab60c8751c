use Rattle.std.proofs.Common.{arith}
use Rattle.om3_coeff.proofs.KeyLemmas.{level_small}
use Rattle.om3_coeff.proofs.key.Key.end.Goals as goal

pub overflow_shl-result : goal.overflow_shl-result
overflow_shl-result c = omega (arith, level_small c.args.self.index c.args.self.level c.requires)
