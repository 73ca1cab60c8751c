use Rattle.std.proofs.Common.{◌≡◌, ◌++◌, reverse, take}
use Rattle.coefficient_cache.specs.Pairs.{in_series}
use Rattle.coefficient_cache.specs.Views.{hits, are_new, others}
use Rattle.coefficient_cache.proofs.renewal.move_hits.Given as goal

abbrev pub invariant-loop-key : goal.invariant-loop-key
invariant-loop-key l = record {
  moved : l.list.pairs ≡ reverse (hits l.initial.list.pairs (in_series l.series (take l.key-index l.needed))) ++ others l.initial.list.pairs
      (in_series l.series (take l.key-index l.needed));
  flags : l.is_new.items ≡ are_new l.initial.list.pairs (in_series l.series (take l.key-index l.needed));
  capacity : l.list.capacity ≡ l.fn.list.capacity;
}
