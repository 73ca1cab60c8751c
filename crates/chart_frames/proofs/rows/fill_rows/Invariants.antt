use Rattle.std.proofs.Common.{◌≡◌, ◌≤◌, length}
use Rattle.chart_frames.specs.Frames.{FitRows}
use Rattle.chart_frames.specs.Spelled.{rows_all_before}
use Rattle.chart_frames.proofs.rows.fill_rows.Given as goal

abbrev pub invariant-loop : goal.invariant-loop
invariant-loop l = record {
  fits : FitRows l.w l.rows.items;
  count : length l.rows.items ≡ l.counter;
  room : length l.rows.items ≤ l.count;
  same : rows_all_before l.rows.items l.rest ≡ rows_all_before l.fn.rows.items l.bytes;
}
