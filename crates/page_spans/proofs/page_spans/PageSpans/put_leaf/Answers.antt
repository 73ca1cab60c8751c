use Rattle.std.proofs.Common.{◌≡◌, ◌≢◌, ◌+◌, ◌∙◌, ap, slice_set, List, arith}
use Rattle.std.proofs.lemmas.List.{get_or-set_other}
use Rattle.std.specs.Prelude.{Option, None}
use Rattle.om3_coeff.specs.declared.span.Span.{Span}
use Rattle.node_page.specs.Fields.{coef_at}
use Rattle.page_spans.specs.Heaps.{span_at}
use Rattle.page_spans.proofs.Steps.{proper_set, leaf_set}
use Rattle.page_spans.proofs.Layouts.{heap_differences}
use Rattle.page_spans.proofs.PageKeys.{nodes_over, top_over}
use Rattle.page_spans.proofs.page_spans.PageSpans.put_leaf.Goals as goal

pub join_above-requires-clause-proper : goal.join_above-requires-clause-proper
join_above-requires-clause-proper c = proper_set c.self.inside.spans (127 + c.from.result) c.args.leaf_span
    (omega arith) c.self.invariant c.requires.proper

pub join_above-requires-clause-joined : goal.join_above-requires-clause-joined
join_above-requires-clause-joined c =
    let at = 127 + c.from.result in
    let spans = c.self.inside.spans in
    let view : spans ≡ c.args.self.now = c.self.view_is in
    let place : at ≡ 127 + c.args.leaf = omega arith in
    leaf_set (span_at c.args.self.now) (span_at (slice_set spans at c.args.leaf_span)) (coef_at c.args.bytes.now)
    (127 + c.args.leaf) c.requires.heap (omega arith)
    (λ n other.
    let off : n ≢ at = λ e. other (e ∙ place) in
    get_or-set_other spans at n c.args.leaf_span None off ∙ ap (λ (l : List (Option Span)). span_at l n) view)

pub returns-clause-differences : goal.returns-clause-differences
returns-clause-differences c = heap_differences (span_at c.join_above.new.spans) c.join_above.new.bytes
    c.join_above.ensures.heap c.join_above.ensures.proper

pub returns-clause-nodes : goal.returns-clause-nodes
returns-clause-nodes c = λ list level index low leaves.
    nodes_over list level index (span_at c.join_above.new.spans) c.join_above.new.bytes low c.join_above.ensures.heap leaves

pub returns-clause-top : goal.returns-clause-top
returns-clause-top c = λ list level index low leaves.
    top_over list level index (span_at c.join_above.new.spans) (coef_at c.join_above.new.bytes) low c.join_above.ensures.heap leaves
