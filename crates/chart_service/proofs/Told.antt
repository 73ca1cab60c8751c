-- What nodes tell of a series, after some asks.
use Rattle.std.proofs.Common.{◌≡◌, ℕ, ℤ, ◌*◌, ◌^◌, ◌≤◌, ◌∙◌, sym, ap, refl, List, Option, length, arith}
use Rattle.om3_coeff.specs.declared.span.Span.{Span}
use Rattle.om3_coeff.specs.Keys.{height, top_key}
use Rattle.om3_coeff.specs.Spans.{span, span_of, span_over}
use Rattle.om3_coeff.specs.View.{NodesView, Agrees, StaysSame}
use Rattle.om3_coeff.proofs.KeyLemmas.{height_covers}
use Rattle.chart_grid.specs.declared.axis.Axis.{Axis}
use Rattle.plain_chart.specs.declared.value_range.ValueRange.{ValueRange}
use Rattle.plain_chart.specs.Samples.{kept, values_of}
use Rattle.zoom_session.specs.declared.view_spec.ViewSpec.{ViewSpec}
use Rattle.chart_service.specs.Viewing.{ShowsRange}
use Rattle.chart_service.specs.Planning.{TellsOf}

-- the span at the top is that of all slots
top_is : ((list : List (Option ℤ)) (b : ℕ) → length list ≤ b → span_over list 0 b ≡ span_of list) → (list : List (Option ℤ))
    → length list ≤ 2 ^ 35 → span list (top_key (length list)) ≡ span_over list 0 (length list)
top_is all list few =
    let first : 0 * 2 ^ height (length list) ≡ 0 = omega arith in
    ap (λ a. span_over list a (1 * 2 ^ height (length list))) first
    ∙ all list (1 * 2 ^ height (length list)) (omega (arith, height_covers (length list) few)) ∙ sym (all list (length list) (omega arith))

-- what is told of a series that the nodes agree with
pub tells_so : ((list : List (Option ℤ)) (b : ℕ) → length list ≤ b → span_over list 0 b ≡ span_of list)
    → (old new : NodesView) (list : List (Option ℤ)) (axis : Axis) (spec : ViewSpec) (root : Option Span) (range : ValueRange)
    → Agrees old list → StaysSame old new → root ≡ new.root → ShowsRange spec.range (values_of (kept spec.grid axis list)) range
    → TellsOf list axis spec (record { axis = axis; root = root; range = range })
tells_so all old new list axis spec root range agrees same is shown = record {
  axis_is = refl;
  root = is ∙ same.root ∙ agrees.root ∙ top_is all list agrees.few;
  shown = shown;
}
