use Rattle.std.proofs.Common.{◌≡◌, ◌+◌, ◌++◌, length, take, drop}
use Rattle.coefficient_cache.specs.Puts.{held_of, put_in}
use Rattle.coefficient_cache.proofs.in_line.set_in_line.Given as goal

-- the pairs so far are set
abbrev pub invariant-loop-i : goal.invariant-loop-i
invariant-loop-i l = record {
  set : l.puts.items ≡ (take l.start l.fn.puts.items ++ put_in l.series (take l.count (held_of l.needed l.is_new))) ++ drop
      (l.start + l.count) l.fn.puts.items;
  counted : l.count ≡ length (held_of (take l.i l.needed) (take l.i l.is_new));
  size : length l.puts.items ≡ length l.fn.puts.items;
}
