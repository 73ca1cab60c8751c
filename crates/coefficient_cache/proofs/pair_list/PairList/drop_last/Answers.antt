use Rattle.std.proofs.Common.{◌-◌, length, take, get_or, None, ap, ◌∙◌}
use Rattle.coefficient_cache.specs.Caches.{Cache}
use Rattle.coefficient_cache.proofs.Kept.{pairs-first}
use Rattle.coefficient_cache.proofs.Found.{stored-first}
use Rattle.coefficient_cache.proofs.pair_list.PairList.drop_last.Goals as goal

pub first_held-requires : goal.first_held-requires
first_held-requires c = λ i less. ap (λ l. get_or l i None) c.as_slice.ensures.value ∙ c.self.invariant.kept.before i less

pub invariant_of-self : goal.invariant_of-self
invariant_of-self c =
    stored-first c.self.inside.puts.items c.as_slice.result.now c.self.inside.owners.items c.self.inside.places.items
    c.self.inside.numbers.entries c.remove.new.self.entries c.self.inside.start c.self.inside.capacity c.in-Some.place c.in-Some.key
    c.remove.result
    c.self.invariant c.as_slice.ensures.value c.in-Some.ensures.first c.remove.ensures.updates.0 c.remove.ensures.value c.remove.ensures.len

pub returns-clause-pairs : goal.returns-clause-pairs
returns-clause-pairs c =
    pairs-first c.self.inside.puts.items c.as_slice.result.now c.in-Some.place c.in-Some.key c.as_slice.ensures.value
    c.in-Some.ensures.first
    ∙ ap (λ (v : Cache). take (length v.pairs - 1) v.pairs) c.self.view_is
