-- The series that a view's frame may be of.
use Rattle.std.specs.Prelude.{ℤ, ◌≡◌, List, length, Option, Some}
use Rattle.om3_coeff.specs.declared.key.Key.{Key}
use Rattle.om3_coeff.specs.declared.coef.Coef.{Coef}
use Rattle.om3_coeff.specs.Keys.{top_key}
use Rattle.om3_coeff.specs.Spans.{AreSlots, span}
use Rattle.om3_coeff.specs.Coefs.{coef}
use Rattle.chart_grid.specs.declared.grid.Grid.{Grid}
use Rattle.chart_grid.specs.Projection.{ShowsWindow, HasCanvas}
use Rattle.coefficient_cache.specs.Caches.{Cache}
use Rattle.view_keys.specs.Wanted.{IsWanted}
use Rattle.chart_frames.specs.declared.frame.ViewFrame.{ViewFrame}
use Rattle.chart_client.specs.Holdings.{told_by, root_of, axis_of, seen_by}

-- the grid shows a view's window on its canvas
pub record IsGridOf (view : ViewFrame) (grid : Grid) : Type 0 where
  pub window : ShowsWindow grid view.t0 view.t1
  pub canvas : HasCanvas grid view.w view.h

-- A list of slots agrees with a view's frame and the client's list: it has as many slots as the frame
-- says and their span, and each wanted key whose coefficient the client has is told with the list's.
-- Start and step are the frame's.
pub record Agrees (view : ViewFrame) (cache : Cache) (grid : Grid) (list : List (Option ℤ)) : Type 0 where
  pub values : AreSlots list
  pub slots : view.slots ≡ length list
  pub root : root_of view ≡ span list (top_key (length list))
  pub told : (k : Key) (c : Coef) → IsWanted (seen_by view cache) (axis_of view) grid view.lo view.hi k → told_by view cache k ≡ Some c
      → c ≡ coef list k
