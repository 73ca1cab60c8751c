use Rattle.std.proofs.Common.{rules}
use Rattle.std.proofs.lemmas.List.Sorted.{answers_always}
use Rattle.m4_groups.specs.declared.row.Row.{Row}
use Rattle.chart_client.proofs.Spanned.{searched}
use Rattle.chart_client.proofs.column_spans.ColumnSpans.place_of.Goals as goal

pub returns : goal.returns
returns c =
    let facts = c.binary_search_by_key.ensures in
    let by_key = facts.position (λ (row : Row). row.column) (answers_always _ _ _ (λ f a r g called. search rules)) in
    rw (← c.self.view_is, ← c.as_slice.ensures) (searched c.as_slice.result.now c.args.x c.binary_search_by_key.result
    (rw c.as_slice.ensures c.self.invariant) facts.bound by_key)
