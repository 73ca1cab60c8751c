use Rattle.std.proofs.Common.{◌≡◌, length}
use Rattle.chart_frames.proofs.ReportReads.{RunsRead}
use Rattle.chart_frames.proofs.values_reading.fill_runs.Given as goal

abbrev pub invariant-loop-k : goal.invariant-loop-k
invariant-loop-k l = record {
  count : length l.runs.items ≡ l.k;
  known : RunsRead l.values l.count l.bytes l.room l.runs.items l.rest;
}
