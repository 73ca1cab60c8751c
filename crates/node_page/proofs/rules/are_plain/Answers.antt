use Rattle.node_page.proofs.Differences.{in_range_all}
use Rattle.node_page.proofs.rules.are_plain.Goals as goal

pub returns-then-are_all_set : goal.returns-then-are_all_set
returns-then-are_all_set c narrow = in_range_all c.args.page.now (c.are_all_narrow.ensures narrow)
    (c.are_all_set.ensures.full c.if-are_all_set.true)
