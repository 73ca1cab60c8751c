-- The covers of a view, while its coefficients are taken.
use Rattle.std.specs.Prelude.{ℕ, ℤ, pos, ◌≡◌, ◌<◌, ◌≤◌, ◌↔◌, IsTrue, length, List, Option, Some, IsSome}
use Rattle.line_raster.specs.Canvas.{Canvas, black_at}
use Rattle.chart_grid.specs.declared.grid.Grid.{Grid}
use Rattle.om3_coeff.specs.declared.key.Key.{Key}
use Rattle.om3_coeff.specs.declared.coef.Coef.{Coef}
use Rattle.view_cover.specs.Scene.{Scene}
use Rattle.view_cover.specs.Chart.{InChart}
use Rattle.view_cover.specs.Walk.{IsCoverOf}
use Rattle.chart_frames.specs.declared.frame.ViewFrame.{ViewFrame}
use Rattle.chart_frames.specs.Frames.{FitsView}
use Rattle.chart_client.specs.declared.holding.Holding.{Holding}
use Rattle.chart_client.specs.Holdings.{holding_of, root_of, axis_of, seen_by}
use Rattle.chart_client.specs.Agreeing.{IsGridOf}
use Rattle.chart_client.specs.Failing.{NoneFails}
use Rattle.progressive_view.specs.Used.{AreUsed}

-- a view whose frame is taken bit by bit, with what a client holds of the open sessions
pub record Taking : Type 0 where
  pub view : ViewFrame
  pub holdings : List Holding
  pub taken : ℕ

-- the frame's fields meet their rules, its session is open, and it has the coefficients that are taken
pub record IsUnderWay (view : ViewFrame) (holdings : List Holding) (taken : ℕ) : Type 0 where
  pub fits : FitsView view
  pub is_open : IsSome (holding_of view.session holdings)
  pub few : taken ≤ length view.coefs

-- the view, with what is seen of its series by these coefficients
abbrev pub scene_by : ViewFrame → Grid → (Key → Option Coef) → Scene
scene_by view grid told = record { axis = axis_of view; grid = grid; lo = view.lo; hi = view.hi; root = root_of view; told = told }

-- what is so of a view whose first i coefficients are taken: by its grid, by what is held of its session,
-- and by the coefficients that count
pub record Stage (view : ViewFrame) (holdings : List Holding) (i : ℕ) : Type 0 where
  pub grid : Grid
  pub grid_is : IsGridOf view grid
  pub holding : Holding
  pub holding_is : holding_of view.session holdings ≡ Some holding
  pub told : Key → Option Coef
  pub used : AreUsed view holding grid i told

-- the drawing is the cover of a stage
pub record DrawsCover (s : Taking) (drawing : Canvas) : Type 0 where
  pub stage : Stage s.view s.holdings s.taken
  pub cover : IsCoverOf (scene_by s.view stage.grid stage.told) drawing

-- no wanted key of the view fails, by all that its frame sends and its session holds
abbrev pub IsUsable : ViewFrame → Holding → Grid → Type 0
IsUsable view holding grid = NoneFails (seen_by view holding.cache) (axis_of view) grid view.lo view.hi

-- the picture is the list's chart, and black only where the cover is
pub record IsWithinCover (list : List (Option ℤ)) (scene : Scene) (cover picture : Canvas) : Type 0 where
  pub chart : (x y : ℕ) → x < scene.grid.w → y < scene.grid.h → IsTrue (black_at picture x y) ↔ InChart list scene x (pos y)
  pub within : (x y : ℕ) → x < scene.grid.w → y < scene.grid.h → IsTrue (black_at picture x y) → IsTrue (black_at cover x y)
