use Rattle.needed_nodes.proofs.PointLaws.{points_in_order, points_placed}
use Rattle.needed_nodes.proofs.laws.points_are_the_samples.Goals as goal

pub returns-clause-order : goal.returns-clause-order
returns-clause-order c = points_in_order

pub returns-clause-places : goal.returns-clause-places
returns-clause-places c = points_placed
