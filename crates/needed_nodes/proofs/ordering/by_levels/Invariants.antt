use Rattle.std.proofs.Common.{◌≡◌, length, take}
use Rattle.std.specs.Prelude.{IsPermutation}
use Rattle.needed_nodes.specs.Levels.{joined}
use Rattle.needed_nodes.proofs.ordering.by_levels.Given as goal

abbrev pub invariant-loop-at : goal.invariant-loop-at
invariant-loop-at l = record { sized : length l.levels.items ≡ 256; moved : IsPermutation (take l.at l.keys) (joined l.levels.items) }
