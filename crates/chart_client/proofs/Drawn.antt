-- A blank canvas on which rows are drawn shows the raster of their points.
use Rattle.std.proofs.Common.{◌≡◌, ◌↔◌, ℕ, ℤ, pos, ◌<◌, inl, inr, List, IsTrue, true, false, sym, subst, ◌∙◌, arith}
use Rattle.chart_grid.specs.declared.grid.Grid.{Grid}
use Rattle.chart_grid.specs.Projection.{HasCanvas}
use Rattle.line_raster.specs.declared.position.Point.{Point}
use Rattle.line_raster.specs.Canvas.{Canvas, black_at, Adds, IsBlank}
use Rattle.line_raster.specs.Raster.{InRaster}
use Rattle.plain_chart.specs.declared.sample.Sample.{Sample}
use Rattle.plain_chart.specs.declared.value_range.ValueRange.{ValueRange}
use Rattle.plain_chart.specs.Chart.{places, IsChart}
use Rattle.m4_groups.specs.Points.{pixels}
use Rattle.chart_client.specs.Drawing.{DrawsPoints}

not_black : (c : Canvas) (x y : ℕ) → black_at c x y ≡ false → IsTrue (black_at c x y) → ⊥
not_black c x y white black = let t : false ≡ true = sym white ∙ black in cc

pub points_drawn : (grid : Grid) (lo hi : ℤ) (points : List (ℤ × ℤ)) (blank drawn : Canvas) (w h : ℕ) → HasCanvas grid w h
    → IsBlank w h blank
    → Adds (λ x y. InRaster (pixels grid lo hi points) x (pos y)) blank drawn → DrawsPoints grid lo hi points drawn
points_drawn grid lo hi points blank drawn w h canvas is_blank adds = λ x y column row.
    let inside : x < blank.w = omega (arith, column, is_blank.width, canvas.columns) in
    let below : y < blank.h = omega (arith, row, is_blank.height, canvas.rows) in
    let p = adds.pixels x y inside below in
    let white = is_blank.white x y (omega (arith, column, canvas.columns)) (omega (arith, row, canvas.rows)) in (
      (λ black. elim (p.0 black) [ inl old ↦ absurd (not_black blank x y white old) | inr set ↦ set ]),
      (λ set. p.1 (inr set)),
    )

-- the raster of points that lie where samples do is the samples' chart
pub chart_drawn : (grid : Grid) (range : ValueRange) (samples : List Sample) (points : List (ℤ × ℤ)) (drawn : Canvas) (w h : ℕ)
    → HasCanvas grid w h → drawn.w ≡ w → drawn.h ≡ h
    → pixels grid range.lo range.hi points ≡ places grid range samples → DrawsPoints grid range.lo range.hi points drawn
    → IsChart grid range samples drawn
chart_drawn grid range samples points drawn w h canvas wide high placed draws = record {
  width = wide ∙ sym canvas.columns;
  height = high ∙ sym canvas.rows;
  pixels = λ x y column row.
      let P : List Point → Type 0 = λ l. IsTrue (black_at drawn x y) ↔ InRaster l x (pos y) in
      subst P placed (draws x y column row);
}
