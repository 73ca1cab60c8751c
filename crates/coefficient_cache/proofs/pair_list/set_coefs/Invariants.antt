use Rattle.std.proofs.Common.{◌≡◌, ◌+◌, ◌++◌, length, take, drop}
use Rattle.coefficient_cache.specs.Puts.{put_in}
use Rattle.coefficient_cache.proofs.pair_list.set_coefs.Given as goal

-- the pairs so far are set
abbrev pub invariant-loop-i : goal.invariant-loop-i
invariant-loop-i l = record {
  set : l.puts.items ≡ (take l.front l.fn.puts.items ++ put_in l.series (take l.i l.needed)) ++ drop (l.front + l.i) l.fn.puts.items;
  size : length l.puts.items ≡ length l.fn.puts.items;
}
