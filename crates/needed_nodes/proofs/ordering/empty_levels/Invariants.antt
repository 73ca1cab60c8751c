use Rattle.std.proofs.Common.{◌≡◌, length, []}
use Rattle.needed_nodes.specs.Levels.{joined}
use Rattle.needed_nodes.proofs.ordering.empty_levels.Given as goal

abbrev pub invariant-loop-place : goal.invariant-loop-place
invariant-loop-place l = record { sized : length l.levels.items ≡ l.place; empty : joined l.levels.items ≡ [] }
