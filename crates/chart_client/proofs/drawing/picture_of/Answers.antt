use Rattle.std.proofs.Common.{SFits, w64, rules, sym, subst, ◌∙◌}
use Rattle.std.proofs.lemmas.Int.{to_z-of_z}
use Rattle.chart_grid.specs.Projection.{HasCanvas}
use Rattle.line_raster.specs.Canvas.{IsBlank}
use Rattle.m4_groups.specs.Heights.{HaveSameHeights}
use Rattle.chart_client.proofs.Drawn.{points_drawn}
use Rattle.chart_client.proofs.drawing.picture_of.Goals as goal

pub returns-clause-draws : goal.returns-clause-draws
returns-clause-draws c = λ grid points of canvas order rows heights.
    let low_fits : SFits w64 c.args.lo = search rules in
    let high_fits : SFits w64 c.args.hi = search rules in
    let blank : IsBlank c.args.w c.args.h c.in_ok-bitmap.bitmap = c.in_ok-bitmap.ensures in
    let same : HasCanvas grid c.in_ok-bitmap.bitmap.w c.in_ok-bitmap.bitmap.h =
    record { columns = canvas.columns ∙ sym blank.width; rows = canvas.rows ∙ sym blank.height } in
    points_drawn grid c.args.lo c.args.hi points c.in_ok-bitmap.bitmap c.draw_rows.new.bitmap c.args.w c.args.h canvas blank
    (simp to_z-of_z at c.draw_rows.ensures.raster grid points of same order rows
    (subst (λ n. HaveSameHeights c.args.lo c.args.hi n c.args.rows.now of) (sym blank.height) heights))
