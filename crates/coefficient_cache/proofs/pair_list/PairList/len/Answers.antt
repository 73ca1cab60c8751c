use Rattle.std.proofs.Common.{subst}
use Rattle.coefficient_cache.specs.Caches.{IsValid}
use Rattle.coefficient_cache.specs.Puts.{located}
use Rattle.coefficient_cache.proofs.Kept.{valid}
use Rattle.coefficient_cache.proofs.pair_list.PairList.len.Goals as goal

pub returns-clause-valid : goal.returns-clause-valid
returns-clause-valid c =
    subst IsValid c.self.view_is (valid c.self.inside.puts.items
    (located c.self.inside.places.items c.self.inside.numbers.entries) c.self.inside.start c.self.inside.capacity c.self.invariant.kept)
