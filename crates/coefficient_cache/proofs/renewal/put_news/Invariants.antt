use Rattle.std.proofs.Common.{◌≡◌, ◌++◌, reverse, take}
use Rattle.coefficient_cache.specs.Pairs.{in_series}
use Rattle.coefficient_cache.specs.Views.{news}
use Rattle.coefficient_cache.proofs.renewal.put_news.Given as goal

abbrev pub invariant-loop-i : goal.invariant-loop-i
invariant-loop-i l = record {
  topped : l.list.pairs ≡ take l.fn.list.capacity (reverse
      (news l.fn.list.pairs (in_series l.series (take l.i l.needed))) ++ l.fn.list.pairs);
  capacity : l.list.capacity ≡ l.fn.list.capacity;
}
