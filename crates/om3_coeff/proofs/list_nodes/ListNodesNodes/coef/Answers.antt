use Rattle.om3_coeff.specs.Keys.{first_slot, end_slot}
use Rattle.om3_coeff.proofs.WalkLemmas.{key_small, left_small, right_small, node_key}
use Rattle.om3_coeff.proofs.ListLemmas.{list_splits, proper_at}
use Rattle.om3_coeff.proofs.list_nodes.ListNodesNodes.coef.Goals as goal

pub left-requires-clause-fits : goal.left-requires-clause-fits
left-requires-clause-fits c = key_small _ c.args.key (node_key _ c.args.key c.requires.key)

pub right-requires-clause-fits : goal.right-requires-clause-fits
right-requires-clause-fits c = key_small _ c.args.key (node_key _ c.args.key c.requires.key)

pub span-left-requires : goal.span-left-requires
span-left-requires c = left_small _ c.args.key c.left.result (node_key _ c.args.key c.requires.key) c.requires.key.low c.left.ensures

pub span-right-requires : goal.span-right-requires
span-right-requires c = right_small _ c.args.key c.right.result (node_key _ c.args.key c.requires.key) c.requires.key.low c.right.ensures

pub join-requires-clause-left : goal.join-requires-clause-left
join-requires-clause-left c =
    proper_at c.args.self.now.slots.now (first_slot c.left.result)
    (end_slot c.left.result) c.span-left.result c.args.self.now.values c.span-left.ensures

pub join-requires-clause-right : goal.join-requires-clause-right
join-requires-clause-right c =
    proper_at c.args.self.now.slots.now (first_slot c.right.result)
    (end_slot c.right.result) c.span-right.result c.args.self.now.values c.span-right.ensures

pub returns-clause-splits : goal.returns-clause-splits
returns-clause-splits c =
    list_splits c.args.self.now.slots.now c.args.self.now.asked c.args.key c.left.result c.right.result c.args._span c.span-left.result
    c.span-right.result c.join.result.0
    c.args.self.now.values c.requires.fit c.requires.key
    (c.requires.seen tt) c.left.ensures c.right.ensures c.span-left.ensures c.span-right.ensures c.join.ensures.coef
