use Rattle.std.proofs.Common.{◌≡◌, length}
use Rattle.std.specs.Prelude.{IsPermutation}
use Rattle.needed_nodes.specs.Levels.{joined}
use Rattle.needed_nodes.proofs.ordering.sort_levels.Given as goal

abbrev pub invariant-loop-at : goal.invariant-loop-at
invariant-loop-at l = record {
  sized : length l.levels.items ≡ length l.fn.levels.items;
  moved : IsPermutation (joined l.fn.levels.items) (joined l.levels.items);
}
