-- The laws of covers.
use Rattle.std.specs.Prelude.{◌≡◌, ◌≤◌, ℕ, ℤ, List, Option, Some, slice_get}
use Rattle.line_raster.specs.Canvas.{Canvas}
use Rattle.chart_frames.specs.declared.frame.Frame.TheVariants.{View}
use Rattle.chart_frames.specs.declared.frame.ViewFrame.{ViewFrame}
use Rattle.chart_frames.specs.Frames.{FitsView}
use Rattle.chart_client.specs.declared.holding.Holding.{Holding}
use Rattle.chart_client.specs.Accepting.{Accepts}
use Rattle.draw_command.specs.Covers.{AreFirstCovers, AgreesWith, LiesWithin}

-- A later cover of a view lies within an earlier one.
abbrev pub CoversNarrow : Type 0
CoversNarrow =
    (every : ℕ) (view : ViewFrame) (holdings : List Holding) (covers : List Canvas) (i j : ℕ) (early late : Canvas)
    → FitsView view → AreFirstCovers every view holdings covers → slice_get covers i ≡ Some early → slice_get covers j ≡ Some late → i ≤ j
    → LiesWithin view late early

-- Where the view is accepted, the picture of a list that agrees with its frame lies within each cover.
abbrev pub CoversHoldThePicture : Type 0
CoversHoldThePicture =
    (every : ℕ) (view : ViewFrame) (holdings new : List Holding) (covers : List Canvas) (i : ℕ) (cover picture : Canvas)
    (list : List (Option ℤ))
    → FitsView view → AreFirstCovers every view holdings covers → slice_get covers i ≡ Some cover
    → Accepts (View view) (Some picture) holdings new
    → AgreesWith view holdings list → LiesWithin view picture cover
