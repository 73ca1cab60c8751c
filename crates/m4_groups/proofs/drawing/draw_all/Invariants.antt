use Rattle.std.proofs.Common.{pos, take}
use Rattle.line_raster.specs.Canvas.{Adds}
use Rattle.m4_groups.specs.Heights.{row_heights}
use Rattle.m4_groups.specs.Drawn.{Drawn}
use Rattle.m4_groups.proofs.drawing.draw_all.Given as goal

abbrev pub invariant-loop-i : goal.invariant-loop-i
invariant-loop-i l = record {
  drawn : Adds (λ x y. Drawn (take l.i (row_heights l.scale.lo l.scale.hi l.scale.h l.rows)) x (pos y))
      l.fn.bitmap l.bitmap;
}
