use Rattle.std.proofs.Common.{length, arith}
use Rattle.plain_chart.specs.Samples.{kept}
use Rattle.chart_program.specs.Plotted.{slots_axis}
use Rattle.chart_program.proofs.plot.picture_of.Goals as goal

pub returns-clause-plot : goal.returns-clause-plot
returns-clause-plot c = record {
  grid = c.grid_of-grid.result;
  window = c.grid_of-grid.ensures.window;
  canvas = c.grid_of-grid.ensures.canvas;
  range = c.range_of_rows-range.result;
  spanned = c.range_of_rows-range.ensures.range c.grid_of-grid.result
      (kept c.grid_of-grid.result (slots_axis (length c.args.slots.now)) c.args.slots.now) c.in_ok-rows.ensures.rows;
  drawing = c.in_ok-bitmap.bitmap;
  chart = c.in_ok-bitmap.ensures.chart (slots_axis (length c.args.slots.now)) c.args.slots.now (omega arith) c.in_ok-rows.ensures.rows;
  bytes_are = c.in_ok-pbm.ensures.bytes;
}
