-- What is drawn for a view and for a frame of rows.
use Rattle.std.specs.Prelude.{ℕ, ℤ, pos, ◌<◌, ◌↔◌, IsTrue, List}
use Rattle.line_raster.specs.Canvas.{Canvas, black_at}
use Rattle.line_raster.specs.Raster.{InRaster}
use Rattle.chart_grid.specs.declared.grid.Grid.{Grid}
use Rattle.m4_groups.specs.Points.{pixels}

-- the drawing is black just in the raster of the points
abbrev pub DrawsPoints : Grid → ℤ → ℤ → List (ℤ × ℤ) → Canvas → Type 0
DrawsPoints grid lo hi points drawing =
    (x y : ℕ) → x < grid.w → y < grid.h → IsTrue (black_at drawing x y) ↔ InRaster (pixels grid lo hi points) x (pos y)
