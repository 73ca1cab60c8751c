use Rattle.std.proofs.Common.{sym, subst}
use Rattle.std.specs.List.{IsDistinct}
use Rattle.std.specs.Map.{keys_of}
use Rattle.coefficient_cache.specs.Pairs.{key_eq}
use Rattle.coefficient_cache.specs.Puts.{shown, located}
use Rattle.coefficient_cache.proofs.Kept.{distinct}
use Rattle.coefficient_cache.proofs.pair_list.PairList.pack.Goals as goal

pub packed-requires-clause-apart : goal.packed-requires-clause-apart
packed-requires-clause-apart c =
    subst (λ l. IsDistinct key_eq (keys_of (shown l))) (sym c.as_slice.ensures.value)
    (distinct c.self.inside.puts.items (located c.self.inside.places.items c.self.inside.numbers.entries) c.self.inside.start
    c.self.inside.capacity c.self.invariant.kept)
