-- The rows of a view's samples can be drawn, and their picture is that of the samples.
use Rattle.std.proofs.Common.{◌≡◌, ℕ, ℤ, pos, ◌+◌, ◌<◌, List, [], ◌∷◌, Option, All, ap, subst, refl}
use Rattle.std.proofs.lemmas.List.Elements.{All-nil, All-cons, All-head, All-tail}
use Rattle.chart_grid.specs.declared.grid.Grid.{Grid}
use Rattle.chart_grid.specs.declared.axis.Axis.{Axis}
use Rattle.chart_grid.specs.Projection.{HasCanvas}
use Rattle.line_raster.specs.Canvas.{Canvas, Adds}
use Rattle.line_raster.specs.Raster.{InRaster}
use Rattle.line_raster.specs.declared.position.Point.{Point}
use Rattle.plain_chart.specs.declared.sample.Sample.{Sample}
use Rattle.plain_chart.specs.declared.value_range.ValueRange.{ValueRange}
use Rattle.plain_chart.specs.Samples.{kept, IsSlot, sample_points}
use Rattle.whole_number.specs.Range.{IsValue}
use Rattle.plain_chart.specs.Chart.{place, places}
use Rattle.m4_groups.specs.declared.row.Row.{Row}
use Rattle.m4_groups.specs.Points.{AreInOrder, pixels}
use Rattle.m4_groups.specs.Rows.{AreRowsOf}
use Rattle.m4_groups.specs.Heights.{IsDrawable, HaveSameHeights}
use Rattle.m4_groups.proofs.Drawable.{rows-drawable}
use Rattle.row_chart.proofs.Order.{kept_from, first_slot, kept-in_order}

-- the samples hold values of the slots
values_kept : (g : Grid) (axis : Axis) (n : ℕ) (slots : List (Option ℤ)) → All IsSlot slots
    → All (λ p. IsValue p.1) (sample_points (kept_from g axis n slots))
values_kept g axis n [] all = All-nil (λ p. IsValue p.1)
values_kept g axis n (o ∷ slots) all =
    let P : ℤ × ℤ → Type 0 = λ p. IsValue p.1 in
    let rest = values_kept g axis (n + 1) slots (All-tail IsSlot o slots all) in
    first_slot (λ l. All P (sample_points l)) g axis n o slots rest
    (λ v is window. All-cons P _ (sample_points (kept_from g axis (n + 1) slots)) (subst IsSlot is (All-head IsSlot o slots all)) rest)

-- points lie where the samples do
placed : (g : Grid) (range : ValueRange) (samples : List Sample)
    → pixels g range.lo range.hi (sample_points samples) ≡ places g range samples
placed g range [] = refl
placed g range (s ∷ samples) = ap (λ l. place g range s ∷ l) (placed g range samples)

-- the rows of the kept samples can be shown on a canvas of the grid's width
pub kept-drawable : (g : Grid) (axis : Axis) (slots : List (Option ℤ)) (rows : List Row) → 0 < axis.step → All IsSlot slots
    → AreRowsOf g (sample_points (kept g axis slots)) rows → All (IsDrawable g.w) rows
kept-drawable g axis slots rows step all own =
    rows-drawable g (sample_points (kept g axis slots)) rows (kept-in_order g axis 0 slots step) (values_kept g axis 0 slots all) own

-- rows that add the raster of the points whose rows they are add the raster of the samples
pub raster_of_kept : (g : Grid) (range : ValueRange) (axis : Axis) (slots : List (Option ℤ)) (rows : List Row) (old new : Canvas)
    → 0 < axis.step
    → HasCanvas g old.w old.h → AreRowsOf g (sample_points (kept g axis slots)) rows
    → ((k : Grid) (points : List (ℤ × ℤ)) (of : List Row) → HasCanvas k old.w old.h → AreInOrder k points → AreRowsOf k points of
    → HaveSameHeights range.lo range.hi old.h rows of → Adds (λ x y. InRaster (pixels k range.lo range.hi points) x (pos y)) old new)
    → Adds (λ x y. InRaster (places g range (kept g axis slots)) x (pos y)) old new
raster_of_kept g range axis slots rows old new step canvas own raster =
    let A : List Point → Type 0 = λ l. Adds (λ x y. InRaster l x (pos y)) old new in
    subst A (placed g range (kept g axis slots)) (raster g (sample_points (kept g axis slots)) rows canvas
    (kept-in_order g axis 0 slots step) own refl)
