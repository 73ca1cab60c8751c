-- Laws of drawn rows.
use Rattle.std.specs.Prelude.{ℕ, ℤ, pos, ◌↔◌, List}
use Rattle.chart_grid.specs.declared.grid.Grid.{Grid}
use Rattle.chart_grid.specs.Projection.{HasCanvas}
use Rattle.line_raster.specs.Canvas.{Canvas, Adds}
use Rattle.line_raster.specs.Raster.{InRaster}
use Rattle.m4_groups.specs.Points.{AreInOrder, pixels}
use Rattle.m4_groups.specs.Rows.{AreRowsOf}
use Rattle.m4_groups.specs.Heights.{HaveSameHeights, row_heights}
use Rattle.m4_groups.specs.Drawn.{Drawn}
use Rattle.m4_groups.specs.declared.row.Row.{Row}

-- The pixels drawn by the rows of points are those of the raster through the points.
abbrev pub DrawnRowsAreTheRaster : Type 0
DrawnRowsAreTheRaster =
    (g : Grid) (lo hi : ℤ) (points : List (ℤ × ℤ)) (rows : List Row)
    → AreInOrder g points → AreRowsOf g points rows → (x y : ℕ)
    → Drawn (row_heights lo hi g.h rows) x (pos y) ↔ InRaster (pixels g lo hi points) x (pos y)

-- The raster of every list of points whose rows have these heights is added.
abbrev pub AddsRasters : ℤ → ℤ → List Row → Canvas → Canvas → Type 0
AddsRasters lo hi rows old new =
    (g : Grid) (points : List (ℤ × ℤ)) (of : List Row)
    → HasCanvas g old.w old.h → AreInOrder g points → AreRowsOf g points of → HaveSameHeights lo hi old.h rows of
    → Adds (λ x y. InRaster (pixels g lo hi points) x (pos y)) old new
