use Rattle.std.proofs.Common.{◌≡◌, length}
use Rattle.needed_nodes.proofs.ordering.count_keys.Given as goal

abbrev pub invariant-loop-at : goal.invariant-loop-at
invariant-loop-at l = record { sized : length l.counts ≡ 256 }
