use Rattle.std.proofs.Common.{◌≡◌, length}
use Rattle.chart_frames.proofs.ReportReads.{ValuesRead}
use Rattle.chart_frames.proofs.values_reading.fill_values.Given as goal

abbrev pub invariant-loop : goal.invariant-loop
invariant-loop l = record {
  count : length l.values.items ≡ l.counter;
  known : ValuesRead l.count l.bytes l.values.items l.rest;
}
