use Rattle.std.proofs.Common.{refl}
use Rattle.om3_coeff.proofs.WalkLemmas.{at_top}
use Rattle.chart_client.specs.HeldNodes.{seen_of, told_view}
use Rattle.chart_client.proofs.Fronts.{column_searched, column_empty}
use Rattle.chart_client.proofs.failing.first_in_column.Goals as goal

pub returns-then-from-to : goal.returns-then-from-to
returns-then-from-to c =
    column_empty (seen_of c.args.nodes.now) c.args.axis c.args.grid c.args.range.lo c.args.range.hi c.args.column c.slot_range-from.result.0
    c.slot_range-from.result.1 c.args.nodes.now.slots
    c.requires.slots c.slot_range-from.ensures.slots c.if-from-to.true

pub search-first-requires-clause-reached : goal.search-first-requires-clause-reached
search-first-requires-clause-reached c =
    at_top (told_view c.args.nodes.now) c.top_key.result c.args.nodes.now.root c.args.nodes.now.slots refl refl c.requires.fit.proper
    c.top_key.ensures

pub search-last-requires-clause-reached : goal.search-last-requires-clause-reached
search-last-requires-clause-reached c =
    at_top (told_view c.args.nodes.now) c.top_key.result c.args.nodes.now.root c.args.nodes.now.slots refl refl c.requires.fit.proper
    c.top_key.ensures

pub returns : goal.returns
returns c =
    column_searched c.flat_keys_hold_flat_keys.ensures.below
    (seen_of c.args.nodes.now) c.args.axis c.args.grid c.args.range.lo c.args.range.hi c.args.column c.slot_range-from.result.0
    c.slot_range-from.result.1 c.args.nodes.now.slots
    c.top_key.result c.search-first.result c.search-last.result c.failure_of.result c.failure_of-2.result c.earlier.result c.requires.slots
    c.requires.fit.few c.top_key.ensures
    c.slot_range-from.ensures.slots c.search-first.ensures c.search-last.ensures c.failure_of.ensures c.failure_of-2.ensures
    c.earlier.ensures
