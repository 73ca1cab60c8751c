use Rattle.std.proofs.Common.{take, drop}
use Rattle.coefficient_cache.specs.Puts.{AreAlike, put_in}
use Rattle.coefficient_cache.proofs.pair_list.have_keys.Given as goal

-- the last puts so far are of the needed keys so far
abbrev pub invariant-loop-i : goal.invariant-loop-i
invariant-loop-i l = AreAlike (take l.i (drop l.front l.puts)) (put_in l.series (take l.i l.needed))
