-- The laws of covers.
use Rattle.std.specs.Prelude.{ℕ, ℤ, ◌≤◌, List, Option, Some}
use Rattle.line_raster.specs.Canvas.{Canvas}
use Rattle.view_cover.specs.Cover.{InCover}
use Rattle.view_cover.specs.Chart.{HoldsChart}
use Rattle.chart_frames.specs.declared.frame.Frame.TheVariants.{View}
use Rattle.chart_frames.specs.declared.frame.ViewFrame.{ViewFrame}
use Rattle.chart_frames.specs.Frames.{FitsView}
use Rattle.chart_client.specs.declared.holding.Holding.{Holding}
use Rattle.chart_client.specs.Agreeing.{Agrees}
use Rattle.chart_client.specs.Accepting.{Accepts}
use Rattle.progressive_view.specs.Covers.{Taking, Stage, DrawsCover, scene_by, IsUsable, IsWithinCover}

-- A later cover of a view lies within an earlier one.
abbrev pub LaterCoversLieWithin : Type 0
LaterCoversLieWithin =
    (view : ViewFrame) (holdings : List Holding) (i j : ℕ) (early : Stage view holdings i) (late : Stage view holdings j) (x : ℕ) (y : ℤ)
    → FitsView view → i ≤ j → InCover (scene_by view late.grid late.told) x y → InCover (scene_by view early.grid early.told) x y

-- Where no wanted key fails, the cover of each stage holds the chart of each list that agrees with the whole frame.
abbrev pub CoversHoldAgreeingCharts : Type 0
CoversHoldAgreeingCharts =
    (view : ViewFrame) (holdings : List Holding) (i : ℕ) (stage : Stage view holdings i) (list : List (Option ℤ))
    → FitsView view → IsUsable view stage.holding stage.grid → Agrees view stage.holding.cache stage.grid list
    → HoldsChart list (scene_by view stage.grid stage.told)

-- Where the client accepts the view, its picture lies within each cover.
abbrev pub PicturesLieWithinCovers : Type 0
PicturesLieWithinCovers =
    (s : Taking) (cover picture : Canvas) (new : List Holding) (drawn : DrawsCover s cover) (list : List (Option ℤ))
    → FitsView s.view → Accepts (View s.view) (Some picture) s.holdings new → Agrees s.view drawn.stage.holding.cache drawn.stage.grid list
    → IsWithinCover list (scene_by s.view drawn.stage.grid drawn.stage.told) cover picture
