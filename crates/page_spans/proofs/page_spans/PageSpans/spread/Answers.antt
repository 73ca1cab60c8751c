use Rattle.std.proofs.Common.{◌≡◌, ◌∙◌, sym, arith, rules}
use Rattle.std.specs.Prelude.{Some}
use Rattle.node_page.specs.Fields.{coef_at}
use Rattle.page_spans.specs.Heaps.{span_at}
use Rattle.page_spans.proofs.Steps.{proper_set}
use Rattle.page_spans.proofs.PageKeys.{place_span, list_heap, list_proper, list_top, leaves_spread}
use Rattle.page_spans.proofs.Layouts.{spread_children}
use Rattle.page_spans.proofs.KnownPlaces.{leaves_known, key_is_bad}
use Rattle.page_spans.proofs.HeapLemmas.{page_tied, spread_heap, spread_joined, spread_same}
use Rattle.page_spans.proofs.page_spans.PageSpans.spread.Goals as goal

pub split_all-requires-clause-proper : goal.split_all-requires-clause-proper
split_all-requires-clause-proper c = proper_set c.self.inside.spans 0 (Some c.args.top) (omega arith) c.self.invariant c.requires.proper

first : (c : goal.After-split_all) → span_at c.split_all.new.spans 0 ≡ Some c.args.top
first c = search (rules, c.split_all.ensures.top)

pub returns-clause-heap : goal.returns-clause-heap
returns-clause-heap c =
    let page = c.args.page.now in
    spread_heap c.split_all.result (span_at c.split_all.new.spans) (coef_at page.bytes.now) c.args.top (page_tied page.bytes.now page.keeps)
    (first c) c.split_all.ensures.splits

pub returns-clause-joined : goal.returns-clause-joined
returns-clause-joined c = λ want heap proper top.
    spread_joined c.split_all.result (λ bad. bad.node) (span_at c.split_all.new.spans) want (coef_at c.args.page.now.bytes.now) heap proper
    (first c ∙ sym top) c.split_all.ensures.bad

pub returns-clause-same : goal.returns-clause-same
returns-clause-same c = λ want heap proper top.
    spread_same c.split_all.result (span_at c.split_all.new.spans) want (coef_at c.args.page.now.bytes.now) heap proper
    (first c ∙ sym top) (returns-clause-joined c want heap proper top) c.split_all.ensures.splits

pub returns-clause-split : goal.returns-clause-split
returns-clause-split c = λ list level index slots low nodes top.
    returns-clause-joined c (place_span list level index) (list_heap list level index c.args.page.now.bytes.now low nodes)
    (list_proper list level index slots)
    (list_top list level index ∙ sym top)

pub returns-clause-leaves : goal.returns-clause-leaves
returns-clause-leaves c = λ list level index slots low nodes top.
    leaves_spread list level index (span_at c.split_all.new.spans) c.args.page.now.bytes.now (Some c.args.top) slots low nodes top
    (returns-clause-same c)

pub returns-clause-children : goal.returns-clause-children
returns-clause-children c = spread_children c.split_all.result (span_at c.split_all.new.spans) c.args.page.now.bytes.now
    (returns-clause-heap c)

pub returns-clause-seen : goal.returns-clause-seen
returns-clause-seen c = λ root told highest level index seen.
    leaves_known c.split_all.result root told highest level index c.args.page.now.bytes.now c.args.top (span_at c.split_all.new.spans) seen
    (first c) c.split_all.ensures.splits

pub returns-clause-bad_key : goal.returns-clause-bad_key
returns-clause-bad_key c = λ root told highest level index seen.
    key_is_bad c.split_all.result (λ bad. bad.node) root told highest level index c.args.page.now.bytes.now c.args.top
    (span_at c.split_all.new.spans) seen (first c)
    c.split_all.ensures.bad
