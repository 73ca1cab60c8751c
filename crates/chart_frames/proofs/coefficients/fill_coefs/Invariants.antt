use Rattle.std.proofs.Common.{◌≡◌, ◌≤◌, length}
use Rattle.chart_frames.specs.Frames.{FitCoefs}
use Rattle.chart_frames.specs.Spelled.{coefs_before}
use Rattle.chart_frames.proofs.coefficients.fill_coefs.Given as goal

abbrev pub invariant-loop : goal.invariant-loop
invariant-loop l = record {
  fits : FitCoefs l.slots l.coefs.items;
  count : length l.coefs.items ≡ l.counter;
  room : length l.coefs.items ≤ l.count;
  same : coefs_before l.coefs.items l.rest ≡ coefs_before l.fn.coefs.items l.bytes;
}
