-- The page of `cover EVERY`: the frames of the input are drawn, and each picture is sent behind its covers.
use Rattle.std.specs.Prelude.{ℕ, Some}
use Rattle.run_ends.specs.declared.ending.End.{End}
use Rattle.chart_program.specs.Course.{Course}
use Rattle.chart_program.specs.Draw.{Draws}

-- as `draw` does, but that a view's covers are sent before its picture: after 0, `every`, 2 * `every`, .. coefficients
abbrev pub OfCover : ℕ → Course → End → Type 0
OfCover every c end = Draws (Some every) c end
