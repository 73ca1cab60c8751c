use Rattle.std.proofs.Common.{◌∙◌, ◌∷◌, ◌<◌, ℕ, List, Option, length, reverse, subst, sym, ap}
use Rattle.std.specs.Map.{lookup}
use Rattle.om3_coeff.specs.declared.coef.Coef.{Coef}
use Rattle.coefficient_cache.specs.declared.series_key.SeriesKey.{SeriesKey}
use Rattle.coefficient_cache.specs.Pairs.{key_eq, has}
use Rattle.coefficient_cache.specs.Caches.{Cache}
use Rattle.coefficient_cache.specs.Puts.{shown}
use Rattle.coefficient_cache.proofs.Kept.{with_coef, pushed}
use Rattle.coefficient_cache.proofs.Found.{none-numbered, anew-stored, stored-by, stored-same, by_result, on_ok}
use Rattle.coefficient_cache.proofs.pair_list.PairList.add.Goals as goal

pub add_last-requires : goal.add_last-requires
add_last-requires c = none-numbered c.self.inside.puts.items c.self.inside.owners.items c.self.inside.places.items
    c.self.inside.numbers.entries c.self.inside.start c.self.inside.capacity c.self.invariant c.args.key
    (ap (λ (v : Cache). has v.pairs c.args.key) c.self.view_is ∙ c.requires.new)

pub invariant_of-self : goal.invariant_of-self
invariant_of-self c =
    let numbers = c.self.inside.numbers.entries in
    let now = c.add_last.new in
    let room = subst (λ (v : Cache). length v.pairs < v.capacity) (sym c.self.view_is) c.requires.room in
    let none = none-numbered c.self.inside.puts.items c.self.inside.owners.items c.self.inside.places.items c.self.inside.numbers.entries
    c.self.inside.start c.self.inside.capacity c.self.invariant c.args.key (ap (λ (v : Cache). has v.pairs c.args.key) c.self.view_is
    ∙ c.requires.new) in
    by_result c.add_last.result c.add_last.ensures.puts c.add_last.ensures.owners c.add_last.ensures.places c.add_last.ensures.numbers
    c.add_last.ensures.count
    c.add_last.ensures.puts_stay c.add_last.ensures.owners_stay c.add_last.ensures.places_stay c.add_last.ensures.numbers_stay
    (λ a b d told count. stored-by _ now.puts.items _ now.owners.items _ now.places.items now.numbers.entries c.self.inside.start
    c.self.inside.capacity
    (anew-stored c.self.inside.puts.items c.self.inside.owners.items c.self.inside.places.items c.self.inside.numbers.entries
    c.add_last.new.numbers.entries c.self.inside.start c.self.inside.capacity c.args.key c.args.coef c.self.invariant none told count
    room) a b d)
    (λ a b d e. stored-same c.self.inside.puts.items now.puts.items c.self.inside.owners.items now.owners.items c.self.inside.places.items
    now.places.items numbers now.numbers.entries c.self.inside.start c.self.inside.capacity
    c.self.invariant a b d (λ q. ap (λ (l : List (SeriesKey × ℕ)). lookup (key_eq q) l) e) (ap length e))

pub returns-clause-pairs : goal.returns-clause-pairs
returns-clause-pairs c =
    on_ok c.add_last.result
    (λ is.
    ap (λ (l : List (Option (SeriesKey × Coef))). reverse (shown l)) is
    ∙ pushed c.self.inside.puts.items (with_coef c.args.key c.args.coef)
    ∙ ap (λ (v : Cache). with_coef c.args.key c.args.coef ∷ v.pairs) c.self.view_is)
    c.add_last.ensures.puts
