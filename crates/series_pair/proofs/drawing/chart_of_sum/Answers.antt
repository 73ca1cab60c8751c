use Rattle.plain_chart.specs.Samples.{kept}
use Rattle.series_pair.proofs.drawing.chart_of_sum.Goals as goal

pub returns-clause-answer : goal.returns-clause-answer
returns-clause-answer g c = λ total book told stands on.
    let rows = c.in-Ok.ensures.answer total book told stands on in
    record {
      samples = kept c.args.grid rows.axis rows.sums;
      are = rows.are;
      values = rows.values;
      range = c.shown_range-range.result;
      shows = c.shown_range-range.ensures.shows c.args.grid (kept c.args.grid rows.axis rows.sums) rows.rows_are;
      chart = c.in_ok-bitmap.ensures.chart rows.axis rows.sums rows.step rows.rows_are;
    }
