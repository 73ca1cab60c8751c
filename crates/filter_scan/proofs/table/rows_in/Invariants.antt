use Rattle.std.proofs.Common.{◌≡◌, take}
use Rattle.filter_scan.specs.Table.{entries}
use Rattle.filter_scan.proofs.table.rows_in.Given as goal

abbrev pub invariant-loop-entry : goal.invariant-loop-entry
invariant-loop-entry l = l.rows.items ≡ entries (take l.entry-index l.table)
