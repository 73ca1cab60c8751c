use Rattle.std.proofs.Common.{◌≡◌, reverse, take}
use Rattle.coefficient_cache.specs.Puts.{shown}
use Rattle.coefficient_cache.proofs.pair_list.packed.Given as goal

-- the pairs so far are put
abbrev pub invariant-loop-place : goal.invariant-loop-place
invariant-loop-place l = record {
  pairs : l.list.pairs ≡ reverse (shown (take l.place l.puts));
  limit : l.list.capacity ≡ l.capacity;
}
