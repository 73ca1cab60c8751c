use Rattle.std.proofs.Common.{◌≡◌, ℕ, List, ◌++◌, take}
use Rattle.chart_frames.specs.Spelled.{rows_all_before}
use Rattle.chart_frames.proofs.encoding.put_all_rows.Given as goal

abbrev pub invariant-loop-row : goal.invariant-loop-row
invariant-loop-row l = (tail : List ℕ) → l.out.items ++ tail ≡ l.fn.out.items ++ rows_all_before (take l.row-index l.rows) tail
