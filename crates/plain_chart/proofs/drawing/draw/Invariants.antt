use Rattle.std.proofs.Common.{◌≡◌, pos, take}
use Rattle.std.specs.Prelude.{◌≤ℤ◌}
use Rattle.std.specs.Option.{ForSome}
use Rattle.line_raster.specs.Canvas.{Adds}
use Rattle.line_raster.specs.Raster.{InRaster}
use Rattle.plain_chart.specs.Samples.{kept}
use Rattle.chart_grid.specs.Slots.{slot_time}
use Rattle.plain_chart.specs.Chart.{places, last_of, IsDrawable}
use Rattle.plain_chart.proofs.drawing.draw.Given as goal

-- what the view keeps of the slots so far is drawn
abbrev pub invariant-loop-slot : goal.invariant-loop-slot
invariant-loop-slot l = record {
  drawn : Adds (λ x y. InRaster (places l.grid l.range (kept l.grid l.axis (take l.slot l.slots))) x (pos y)) l.initial.bitmap l.bitmap;
  last : l.last ≡ last_of (kept l.grid l.axis (take l.slot l.slots));
  drawable : ForSome l.last (IsDrawable l.grid);
  earlier : ForSome l.last (λ s. s.time ≤ℤ slot_time l.axis l.slot);
}
