use Rattle.std.proofs.Common.{◌≡◌, length}
use Rattle.gate_pages.proofs.batch_calls.room.Given as goal

abbrev pub invariant-loop : goal.invariant-loop
invariant-loop l = record { many : length l.pages.items ≡ l.counter }
