use Rattle.std.proofs.Common.{pos, subst, sym}
use Rattle.std.specs.Prelude.{Option, Some}
use Rattle.plain_chart.specs.declared.sample.Sample.{Sample}
use Rattle.plain_chart.specs.Chart.{Joins, place}
use Rattle.line_raster.specs.Segment.{On}
use Rattle.line_raster.specs.Canvas.{Adds}
use Rattle.line_raster.proofs.Drawn.{alike}
use Rattle.line_raster.specs.declared.position.Point.{Point}
use Rattle.plain_chart.proofs.drawing.draw_next.Goals as goal

pub returns-clause-drawn : goal.returns-clause-drawn
returns-clause-drawn c =
    let J : Option Sample → Type 0 = λ o. Adds (λ x y. Joins c.args.grid c.args.range c.args.last o x (pos y)) c.args.bitmap.now
    c.segment.new.bitmap in
    let A : Point → Type 0 = λ q. Adds (λ x y. On c.start_of-from.result q x (pos y)) c.args.bitmap.now c.segment.new.bitmap in
    let drawn = subst A c.point_of.ensures.value c.segment.ensures in
    subst J (sym c.in-Some.is) (alike (λ x y. On c.start_of-from.result (place c.args.grid c.args.range c.in-Some.sample) x (pos y))
    (λ x y. Joins c.args.grid c.args.range c.args.last (Some c.in-Some.sample) x (pos y)) c.args.bitmap.now c.segment.new.bitmap drawn
    (λ x y column row. c.start_of-from.ensures.joins x (pos y)))
