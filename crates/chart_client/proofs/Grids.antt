-- Grids of the same window and canvas are one.
use Rattle.std.proofs.Common.{◌≡◌, ◌∙◌, sym}
use Rattle.chart_grid.specs.declared.grid.Grid.{Grid}
use Rattle.chart_frames.specs.declared.frame.ViewFrame.{ViewFrame}
use Rattle.view_keys.proofs.Grids.{grid_same}
use Rattle.chart_client.specs.Agreeing.{IsGridOf}

-- a view has one grid
pub grid_one : (view : ViewFrame) (a b : Grid) → IsGridOf view a → IsGridOf view b → a ≡ b
grid_one view a b x y =
    grid_same a b (x.window.from ∙ sym y.window.from) (x.window.to ∙ sym y.window.to)
    (x.canvas.columns ∙ sym y.canvas.columns) (x.canvas.rows ∙ sym y.canvas.rows)
