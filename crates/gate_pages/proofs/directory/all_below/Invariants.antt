use Rattle.std.proofs.Common.{◌≡◌, take, true}
use Rattle.gate_pages.specs.Batch.{all_below}
use Rattle.gate_pages.proofs.directory.all_below.Given as goal

abbrev pub invariant-loop-number : goal.invariant-loop-number
invariant-loop-number l = record { so_far : all_below l.count (take l.number-index l.numbers) ≡ true }
