use Rattle.coefficient_cache.proofs.Found.{AreClosed}
use Rattle.coefficient_cache.proofs.pair_list.close_up.Given as goal

-- the pairs so far are at the first places
abbrev pub invariant-loop-place : goal.invariant-loop-place
invariant-loop-place l = AreClosed l.fn.puts.items l.puts.items l.owners.items l.places.items l.numbers.entries l.count l.place
