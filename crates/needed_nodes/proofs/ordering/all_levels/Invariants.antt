use Rattle.std.proofs.Common.{◌≡◌, take}
use Rattle.needed_nodes.specs.Levels.{joined}
use Rattle.needed_nodes.proofs.ordering.all_levels.Given as goal

abbrev pub invariant-loop-at : goal.invariant-loop-at
invariant-loop-at l = record { all : l.keys.items ≡ joined (take l.at l.levels) }
