use Rattle.std.proofs.Common.{SFits, w64, rules, sym}
use Rattle.std.proofs.lemmas.Int.{to_z-of_z}
use Rattle.plain_chart.specs.Samples.{kept}
use Rattle.plain_chart.proofs.Charted.{charted}
use Rattle.row_chart.proofs.Picture.{raster_of_kept}
use Rattle.row_chart.proofs.drawing.chart_of_rows.Goals as goal

pub returns-clause-chart : goal.returns-clause-chart
returns-clause-chart c = λ axis slots step own.
    let low_fits : SFits w64 c.args.range.lo = search rules in
    let high_fits : SFits w64 c.args.range.hi = search rules in
    charted c.args.grid c.args.range (kept c.args.grid axis slots) c.in_ok-bitmap.bitmap c.draw_rows.new.bitmap c.w.result c.h.result
    (record { columns = sym c.w.ensures.value; rows = sym c.h.ensures.value })
    c.in_ok-bitmap.ensures
    (raster_of_kept c.args.grid c.args.range axis slots c.args.rows.now c.in_ok-bitmap.bitmap c.draw_rows.new.bitmap step
    (search rules) own (simp to_z-of_z at c.draw_rows.ensures.raster))
