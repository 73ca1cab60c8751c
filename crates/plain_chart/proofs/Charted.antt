-- A blank canvas on which samples are drawn is their chart.
use Rattle.std.proofs.Common.{◌≡◌, ℕ, pos, ◌<◌, inl, inr, List, IsTrue, true, false, sym, ◌∙◌, arith}
use Rattle.chart_grid.specs.declared.grid.Grid.{Grid}
use Rattle.chart_grid.specs.Projection.{HasCanvas}
use Rattle.line_raster.specs.Canvas.{Canvas, black_at, Adds, IsBlank}
use Rattle.line_raster.specs.Raster.{InRaster}
use Rattle.plain_chart.specs.declared.sample.Sample.{Sample}
use Rattle.plain_chart.specs.declared.value_range.ValueRange.{ValueRange}
use Rattle.plain_chart.specs.Chart.{places, IsChart}

not_black : (c : Canvas) (x y : ℕ) → black_at c x y ≡ false → IsTrue (black_at c x y) → ⊥
not_black c x y white black = let t : false ≡ true = sym white ∙ black in cc

pub charted : (g : Grid) (range : ValueRange) (samples : List Sample) (blank drawn : Canvas) (w h : ℕ) → HasCanvas g w h → IsBlank w h blank
    → Adds (λ x y. InRaster (places g range samples) x (pos y)) blank drawn → IsChart g range samples drawn
charted g range samples blank drawn w h canvas is_blank adds = record {
  width = adds.width ∙ is_blank.width ∙ sym canvas.columns;
  height = adds.height ∙ is_blank.height ∙ sym canvas.rows;
  pixels = λ x y column row.
      let inside : x < blank.w = omega (arith, column, is_blank.width, canvas.columns) in
      let below : y < blank.h = omega (arith, row, is_blank.height, canvas.rows) in
      let p = adds.pixels x y inside below in
      let white = is_blank.white x y (omega (arith, column, canvas.columns)) (omega (arith, row, canvas.rows)) in (
        (λ black. elim (p.0 black) [ inl old ↦ absurd (not_black blank x y white old) | inr set ↦ set ]),
        (λ set. p.1 (inr set)),
      );
}
