use Rattle.std.proofs.Common.{◌≡◌, length}
use Rattle.gate_pages.specs.Batch.{is_distinct}
use Rattle.gate_pages.proofs.directory.all_distinct.Given as goal

abbrev pub invariant-loop-rest : goal.invariant-loop-rest
invariant-loop-rest l = record { same : is_distinct l.numbers ≡ is_distinct l.rest }

abbrev pub decreases-loop-rest : goal.decreases-loop-rest
decreases-loop-rest l = length l.rest
