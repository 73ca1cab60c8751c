use Rattle.std.proofs.Common.{◌≡◌, length}
use Rattle.tree_walk.proofs.trail.buffers.Given as goal

abbrev pub invariant-loop : goal.invariant-loop
invariant-loop l = record { many : length l.pages.items ≡ l.counter }
