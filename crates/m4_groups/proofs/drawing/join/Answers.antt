use Rattle.std.proofs.Common.{pos, SFits, w64, rules, subst₂}
use Rattle.std.proofs.lemmas.Int.{to_z-of_z}
use Rattle.line_raster.specs.Canvas.{Adds}
use Rattle.line_raster.specs.Segment.{On}
use Rattle.line_raster.specs.declared.position.Point.{Point}
use Rattle.m4_groups.proofs.drawing.join.Goals as goal

pub returns : goal.returns
returns c =
    let last_fits : SFits w64 c.args.row.now.last = search rules in
    let first_fits : SFits w64 c.args.next.now.first = search rules in
    let P : Point → Point → Type 0 = λ p q. Adds (λ x y. On p q x (pos y)) c.args.bitmap.now c.segment.new.bitmap in
    subst₂ P (simp to_z-of_z at c.place-last.ensures.point) (simp to_z-of_z at c.place-first.ensures.point) c.segment.ensures
