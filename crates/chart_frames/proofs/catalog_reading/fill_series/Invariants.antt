use Rattle.std.proofs.Common.{◌≡◌, length}
use Rattle.chart_frames.proofs.ReportReads.{SeriesRead}
use Rattle.chart_frames.proofs.catalog_reading.fill_series.Given as goal

abbrev pub invariant-loop : goal.invariant-loop
invariant-loop l = record {
  count : length l.series.items ≡ l.counter;
  known : SeriesRead l.count l.bytes l.series.items l.rest;
}
