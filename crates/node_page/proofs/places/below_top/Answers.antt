use Rattle.std.proofs.Common.{arith}
use Rattle.node_page.proofs.KeyPlaces.{below_sum, below_few}
use Rattle.node_page.proofs.places.below_top.Goals as goal

pub overflow_sub-result : goal.overflow_sub-result
overflow_sub-result c = omega (arith, below_sum c.args.level, c.page_level.ensures.level)

pub returns-clause-few : goal.returns-clause-few
returns-clause-few c = omega (arith, below_sum c.args.level, below_few c.args.level, c.page_level.ensures.level)
