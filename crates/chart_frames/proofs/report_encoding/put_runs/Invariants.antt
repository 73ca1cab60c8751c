use Rattle.std.proofs.Common.{◌≡◌, ℕ, List, ◌++◌, take}
use Rattle.chart_frames.specs.Spelled.{runs_before}
use Rattle.chart_frames.proofs.report_encoding.put_runs.Given as goal

abbrev pub invariant-loop-run : goal.invariant-loop-run
invariant-loop-run l = (tail : List ℕ) → l.out.items ++ tail ≡ l.fn.out.items ++ runs_before (take l.run-index l.runs) tail
