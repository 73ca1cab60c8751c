use Rattle.std.proofs.Common.{take}
use Rattle.row_chart.specs.Ranges.{SpansRows}
use Rattle.row_chart.proofs.range.range_of_rows.Given as goal

-- the range of the rows so far
abbrev pub invariant-loop-row : goal.invariant-loop-row
invariant-loop-row l = SpansRows l.range (take l.row-index l.rows)
