use Rattle.std.proofs.Common.{◌+◌, ◌∙◌, ap, arith, rules}
use Rattle.std.specs.Prelude.{is_some}
use Rattle.node_page.specs.Fields.{coef_at}
use Rattle.page_spans.specs.Heaps.{span_at}
use Rattle.page_spans.proofs.Layouts.{heap_differences, heap_children}
use Rattle.page_spans.proofs.PageKeys.{nodes_over, top_over, leaves_stay}
use Rattle.page_spans.proofs.page_spans.PageSpans.gather.Goals as goal

pub returns-clause-differences : goal.returns-clause-differences
returns-clause-differences c = heap_differences (span_at c.join_all.new.spans) c.join_all.new.bytes
    c.join_all.ensures.heap c.join_all.ensures.proper

pub returns-clause-children : goal.returns-clause-children
returns-clause-children c = λ child few.
    heap_children (span_at c.join_all.new.spans) c.join_all.new.bytes c.join_all.ensures.heap child few
    ∙ ap is_some (search (rules, c.join_all.ensures.leaves (127 + child) (omega arith)))

pub returns-clause-nodes : goal.returns-clause-nodes
returns-clause-nodes c = λ list level index low leaves.
    nodes_over list level index (span_at c.join_all.new.spans) c.join_all.new.bytes low c.join_all.ensures.heap
    (leaves_stay list level index (span_at c.args.self.now) (span_at c.join_all.new.spans)
    (search (rules, c.join_all.ensures.leaves)) leaves)

pub returns-clause-top : goal.returns-clause-top
returns-clause-top c = λ list level index low leaves.
    top_over list level index (span_at c.join_all.new.spans) (coef_at c.join_all.new.bytes) low c.join_all.ensures.heap
    (leaves_stay list level index (span_at c.args.self.now) (span_at c.join_all.new.spans)
    (search (rules, c.join_all.ensures.leaves)) leaves)
