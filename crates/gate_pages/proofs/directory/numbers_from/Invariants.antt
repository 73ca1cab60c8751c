use Rattle.std.proofs.Common.{◌≡◌, length}
use Rattle.gate_pages.specs.Journal.{numbers_in}
use Rattle.gate_pages.proofs.directory.numbers_from.Given as goal

abbrev pub invariant-loop-i : goal.invariant-loop-i
invariant-loop-i l = record { so_far : l.found.items ≡ numbers_in l.block l.i; len : length l.found.items ≡ l.i }
