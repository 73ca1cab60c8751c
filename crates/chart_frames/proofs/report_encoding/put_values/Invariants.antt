use Rattle.std.proofs.Common.{◌≡◌, ℕ, List, ◌++◌, take}
use Rattle.chart_frames.specs.Spelled.{values_before}
use Rattle.chart_frames.proofs.report_encoding.put_values.Given as goal

abbrev pub invariant-loop-value : goal.invariant-loop-value
invariant-loop-value l = (tail : List ℕ) → l.out.items ++ tail ≡ l.fn.out.items ++ values_before (take l.value-index l.values) tail
