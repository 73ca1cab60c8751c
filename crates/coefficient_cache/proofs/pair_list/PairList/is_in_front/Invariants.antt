use Rattle.std.proofs.Common.{◌≡◌, take, drop}
use Rattle.coefficient_cache.specs.Pairs.{in_series}
use Rattle.coefficient_cache.specs.Puts.{shown}
use Rattle.coefficient_cache.proofs.pair_list.PairList.is_in_front.Given as goal

-- the last puts so far are the needed pairs so far
abbrev pub invariant-loop-i : goal.invariant-loop-i
invariant-loop-i l = shown (take l.i (drop l.front l.puts)) ≡ in_series l.series (take l.i l.needed)
