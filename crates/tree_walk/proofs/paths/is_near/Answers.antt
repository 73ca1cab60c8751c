use Rattle.om3_coeff.specs.Keys.{height}
use Rattle.tree_walk.proofs.NearLemmas.{some_node}
use Rattle.tree_walk.proofs.paths.is_near.Goals as goal

pub page_level-requires-2-clause-low : goal.page_level-requires-2-clause-low
page_level-requires-2-clause-low c = (some_node c.args.last c.in-Some.last (height c.args.tree.slots) c.in-Some.is c.requires.last).low
