use Rattle.std.proofs.Common.{ℕ, pos, List, SFits, w64, All, subst, subst₂, sym}
use Rattle.std.proofs.lemmas.Int.{to_z-of_z}
use Rattle.line_raster.specs.Canvas.{Adds}
use Rattle.m4_groups.specs.declared.row.Row.{Row}
use Rattle.m4_groups.specs.Heights.{row_heights, IsDrawable}
use Rattle.m4_groups.specs.Rows.{AreRising}
use Rattle.m4_groups.specs.Drawn.{Drawn}
use Rattle.m4_groups.proofs.Whole.{raster_of_rows}
use Rattle.m4_groups.proofs.drawing.draw_rows.Goals as goal

pub draw_all-requires-clause-rising : goal.draw_all-requires-clause-rising
draw_all-requires-clause-rising c = subst AreRising (sym c.as_slice.ensures) c.requires.rising

pub draw_all-requires-clause-drawable : goal.draw_all-requires-clause-drawable
draw_all-requires-clause-drawable c =
    let P : List Row → Type 0 = λ rows. All (IsDrawable c.args.bitmap.now.w) rows in
    subst P (sym c.as_slice.ensures) c.requires.drawable

pub returns-clause-rows : goal.returns-clause-rows
returns-clause-rows c =
    let low_fits : SFits w64 c.args.lo = c.ranges.lo in
    let high_fits : SFits w64 c.args.hi = c.ranges.hi in
    let P : ℕ → List Row → Type 0 = λ h rows. Adds (λ x y. Drawn (row_heights c.args.lo c.args.hi h rows) x (pos y)) c.args.bitmap.now
    c.draw_all.new.bitmap in
    subst₂ P c.height-h.ensures.value c.as_slice.ensures (simp to_z-of_z at c.draw_all.ensures)

pub returns-clause-raster : goal.returns-clause-raster
returns-clause-raster c g points of canvas order own same =
    raster_of_rows g c.args.lo c.args.hi points c.args.rows.now of c.args.bitmap.now.h c.args.bitmap.now c.draw_all.new.bitmap
    canvas.rows order own same (returns-clause-rows c)
