use Rattle.std.proofs.Common.{◌≡◌, ◌∙◌, ◌∷◌, List, Option, None, true, false, cond, reverse, is_some, get_or, sym, ap}
use Rattle.std.specs.Map.{remove_entry}
use Rattle.om3_coeff.specs.declared.coef.Coef.{Coef}
use Rattle.coefficient_cache.specs.declared.series_key.SeriesKey.{SeriesKey}
use Rattle.coefficient_cache.specs.Pairs.{key_eq, has}
use Rattle.coefficient_cache.specs.Caches.{Cache}
use Rattle.coefficient_cache.specs.Puts.{shown, located, put_entries}
use Rattle.coefficient_cache.proofs.Kept.{with_coef, found-held, held-within}
use Rattle.coefficient_cache.proofs.Putting.{put-again}
use Rattle.coefficient_cache.proofs.Found.{told-seen, none-held, number-known, again-stored, again-pairs, stored-by}
use Rattle.coefficient_cache.proofs.pair_list.PairList.put_again.Goals as goal

pub place_of-requires : goal.place_of-requires
place_of-requires c = told-seen c.self.inside.puts.items c.as_slice-puts.result.now c.self.inside.owners.items c.self.inside.places.items
    c.as_slice.result.now c.self.inside.numbers.entries c.self.invariant.found c.as_slice-puts.ensures.value c.as_slice.ensures.value
    c.args.key

pub move_last-requires-clause-place : goal.move_last-requires-clause-place
move_last-requires-clause-place c =
    let held = c.in-Some.ensures.held in
    held-within c.self.inside.puts.items c.in-Some.place (with_coef c.args.key held.0)
    (ap (λ (l : List (Option (SeriesKey × Coef))). get_or l c.in-Some.place None) (sym c.as_slice-puts.ensures.value) ∙ held.1)

pub move_last-requires-clause-owners : goal.move_last-requires-clause-owners
move_last-requires-clause-owners c = c.self.invariant.found.long

pub move_last-requires-clause-number : goal.move_last-requires-clause-number
move_last-requires-clause-number c =
    let held = c.in-Some.ensures.held in
    number-known c.self.inside.puts.items c.self.inside.owners.items c.self.inside.places.items c.self.inside.numbers.entries
    c.self.invariant.found c.in-Some.place c.args.key held.0
    (ap (λ (l : List (Option (SeriesKey × Coef))). get_or l c.in-Some.place None) (sym c.as_slice-puts.ensures.value) ∙ held.1)

pub returns-in_default-clause-there : goal.returns-in_default-clause-there
returns-in_default-clause-there c =
    sym (ap (λ (v : Cache). has v.pairs c.args.key) (sym c.self.view_is)
    ∙ ap is_some (none-held c.self.inside.puts.items c.self.inside.owners.items c.self.inside.places.items c.self.inside.numbers.entries
    c.self.inside.start c.self.inside.capacity c.self.invariant c.args.key c.in_default.ensures.none))

pub returns-in_default-clause-pairs : goal.returns-in_default-clause-pairs
returns-in_default-clause-pairs c =
    let pairs = c.args.self.now.pairs in
    let there : false ≡ has pairs c.args.key =
    sym (ap (λ (v : Cache). has v.pairs c.args.key) (sym c.self.view_is)
    ∙ ap is_some (none-held c.self.inside.puts.items c.self.inside.owners.items c.self.inside.places.items c.self.inside.numbers.entries
    c.self.inside.start c.self.inside.capacity c.self.invariant c.args.key c.in_default.ensures.none)) in
    ap (λ b. cond b (put_entries key_eq pairs c.args.self.now.capacity c.args.key c.args.coef) pairs) there

pub invariant_of-self-2 : goal.invariant_of-self-2
invariant_of-self-2 c =
    let was = again-stored c.self.inside.puts.items c.self.inside.owners.items c.self.inside.places.items c.self.inside.numbers.entries
    c.self.inside.start c.self.inside.capacity c.self.invariant c.in-Some.place c.args.key c.in-Some.ensures.held.0 c.args.coef
    (ap (λ (l : List (Option (SeriesKey × Coef))). get_or l c.in-Some.place None) (sym c.as_slice-puts.ensures.value)
    ∙ c.in-Some.ensures.held.1) in
    stored-by _ c.move_last.new.puts.items _ c.move_last.new.owners.items _ c.move_last.new.places.items c.self.inside.numbers.entries
    c.self.inside.start c.self.inside.capacity was
    c.in_ok-move_last.ensures.puts c.in_ok-move_last.ensures.owners c.in_ok-move_last.ensures.places

pub returns-clause-there : goal.returns-clause-there
returns-clause-there c =
    sym (ap (λ (v : Cache). has v.pairs c.args.key) (sym c.self.view_is)
    ∙ ap is_some (found-held c.self.inside.puts.items
    (located c.self.inside.places.items c.self.inside.numbers.entries) c.self.inside.start c.self.inside.capacity c.self.invariant.kept
    c.in-Some.place c.args.key c.in-Some.ensures.held.0
    (ap (λ (l : List (Option (SeriesKey × Coef))). get_or l c.in-Some.place None) (sym c.as_slice-puts.ensures.value)
    ∙ c.in-Some.ensures.held.1)))

pub returns-clause-pairs : goal.returns-clause-pairs
returns-clause-pairs c =
    let pairs = c.args.self.now.pairs in
    let there : has pairs c.args.key ≡ true =
    ap (λ (v : Cache). has v.pairs c.args.key) (sym c.self.view_is)
    ∙ ap is_some (found-held c.self.inside.puts.items
    (located c.self.inside.places.items c.self.inside.numbers.entries) c.self.inside.start c.self.inside.capacity c.self.invariant.kept
    c.in-Some.place c.args.key c.in-Some.ensures.held.0
    (ap (λ (l : List (Option (SeriesKey × Coef))). get_or l c.in-Some.place None) (sym c.as_slice-puts.ensures.value)
    ∙ c.in-Some.ensures.held.1)) in
    ap (λ (l : List (Option (SeriesKey × Coef))). reverse (shown l)) c.in_ok-move_last.ensures.puts
    ∙ again-pairs c.self.inside.puts.items c.self.inside.owners.items c.self.inside.places.items c.self.inside.numbers.entries
    c.self.inside.start c.self.inside.capacity c.self.invariant c.in-Some.place c.args.key c.in-Some.ensures.held.0 c.args.coef
    (ap (λ (l : List (Option (SeriesKey × Coef))). get_or l c.in-Some.place None) (sym c.as_slice-puts.ensures.value)
    ∙ c.in-Some.ensures.held.1)
    ∙ ap (λ (v : Cache). with_coef c.args.key c.args.coef ∷ remove_entry (key_eq c.args.key) v.pairs) c.self.view_is
    ∙ put-again pairs c.args.self.now.capacity c.args.key c.args.coef there
