use Rattle.std.proofs.Common.{◌≡◌, ℕ, List, ◌++◌, take}
use Rattle.chart_frames.specs.Spelled.{series_before}
use Rattle.chart_frames.proofs.report_encoding.put_series.Given as goal

abbrev pub invariant-loop-s : goal.invariant-loop-s
invariant-loop-s l = (tail : List ℕ) → l.out.items ++ tail ≡ l.fn.out.items ++ series_before (take l.s-index l.series) tail
