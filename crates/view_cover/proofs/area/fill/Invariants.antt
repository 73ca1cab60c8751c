use Rattle.std.proofs.Common.{pos, ◌<◌}
use Rattle.line_raster.specs.Canvas.{Adds}
use Rattle.view_cover.specs.Area.{InArea}
use Rattle.view_cover.proofs.area.fill.Given as goal

-- the columns before x are filled
abbrev pub invariant-loop-x : goal.invariant-loop-x
invariant-loop-x l = Adds (λ a b. InArea l.area a (pos b) × (a < l.x)) l.fn.bitmap l.bitmap
