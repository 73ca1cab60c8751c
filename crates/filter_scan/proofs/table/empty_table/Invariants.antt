use Rattle.std.proofs.Common.{◌≡◌, length, None}
use Rattle.std.specs.Prelude.{All}
use Rattle.filter_scan.proofs.table.empty_table.Given as goal

abbrev pub invariant-loop : goal.invariant-loop
invariant-loop l = record { sized : length l.table.items ≡ l.counter; empty : All (λ entry. entry ≡ None) l.table.items }
