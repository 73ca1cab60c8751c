-- The covers of a view narrow to its picture.
use Rattle.std.proofs.Common.{◌≡◌, ℕ, ℤ, pos, ◌*◌, ◌≤◌, List, Option, Some, arith}
use Rattle.std.proofs.Math.Nat.{mul_comm, mul-le-mul_left}
use Rattle.std.specs.Prelude.{slice_get}
use Rattle.line_raster.specs.Canvas.{Canvas}
use Rattle.view_cover.specs.Cover.{InCover}
use Rattle.chart_frames.specs.declared.frame.Frame.TheVariants.{View}
use Rattle.chart_frames.specs.declared.frame.ViewFrame.{ViewFrame}
use Rattle.chart_frames.specs.Frames.{FitsView}
use Rattle.chart_client.specs.declared.holding.Holding.{Holding}
use Rattle.chart_client.specs.Accepting.{Accepts}
use Rattle.chart_client.specs.Agreeing.{Agrees}
use Rattle.progressive_view.specs.Covers.{Taking, Stage, DrawsCover, scene_by, IsWithinCover}
use Rattle.draw_command.specs.Covers.{AreFirstCovers, AgreesWith, LiesWithin, IsCoverAfter}

-- a later stage's cover lies within an earlier one's
abbrev pub Later : Type 0
Later = (view : ViewFrame) (holdings : List Holding) (i j : ℕ) (early : Stage view holdings i) (late : Stage view holdings j) (x : ℕ)
    (y : ℤ)
    → FitsView view → i ≤ j → InCover (scene_by view late.grid late.told) x y → InCover (scene_by view early.grid early.told) x y

-- and an accepted picture within each of them
abbrev pub Within : Type 0
Within = (s : Taking) (cover picture : Canvas) (new : List Holding) (drawn : DrawsCover s cover) (list : List (Option ℤ))
    → FitsView s.view → Accepts (View s.view) (Some picture) s.holdings new → Agrees s.view drawn.stage.holding.cache drawn.stage.grid list
    → IsWithinCover list (scene_by s.view drawn.stage.grid drawn.stage.told) cover picture

-- multiples of a number rise
multiples : (i j every : ℕ) → i ≤ j → i * every ≤ j * every
multiples i j every less = omega (arith, mul-le-mul_left {m = i} {n = j} every less, mul_comm i every, mul_comm j every)

pub narrow : Later → (every : ℕ) (view : ViewFrame) (holdings : List Holding) (covers : List Canvas) (i j : ℕ) (early late : Canvas)
    → FitsView view → AreFirstCovers every view holdings covers
    → slice_get covers i ≡ Some early → slice_get covers j ≡ Some late → i ≤ j → LiesWithin view late early
narrow later every view holdings covers i j early late fits first there here less = λ x y wide high black.
    let a : IsCoverAfter view holdings (i * every) early = first i early there in
    let b : IsCoverAfter view holdings (j * every) late = first j late here in
    let in_late = (b.draws.cover.pixels x y (omega (arith, wide, b.draws.stage.grid_is.canvas.columns))
    (omega (arith, high, b.draws.stage.grid_is.canvas.rows))).0 black in
    let in_early = later view holdings (i * every) (j * every) a.draws.stage b.draws.stage x (pos y) fits
    (multiples i j every less) in_late in
    (a.draws.cover.pixels x y (omega (arith, wide, a.draws.stage.grid_is.canvas.columns))
    (omega (arith, high, a.draws.stage.grid_is.canvas.rows))).1 in_early

pub hold : Within → (every : ℕ) (view : ViewFrame) (holdings new : List Holding) (covers : List Canvas) (i : ℕ) (cover picture : Canvas)
    (list : List (Option ℤ)) → FitsView view
    → AreFirstCovers every view holdings covers → slice_get covers i ≡ Some cover → Accepts (View view) (Some picture) holdings new
    → AgreesWith view holdings list → LiesWithin view picture cover
hold within every view holdings new covers i cover picture list fits first there accepts agrees = λ x y wide high black.
    let a : IsCoverAfter view holdings (i * every) cover = first i cover there in
    let stage = a.draws.stage in
    let w = within (record { view = view; holdings = holdings; taken = i * every }) cover picture new a.draws list fits accepts
    (agrees stage.holding stage.grid stage.holding_is stage.grid_is) in
    w.within x y (omega (arith, wide, stage.grid_is.canvas.columns)) (omega (arith, high, stage.grid_is.canvas.rows)) black
