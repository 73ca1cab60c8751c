use Rattle.std.proofs.Common.{◌≡◌, List, Option, Some, None, get_or, sym, ap, ◌∙◌}
use Rattle.std.specs.Option.{option_map}
use Rattle.om3_coeff.specs.declared.coef.Coef.{Coef}
use Rattle.coefficient_cache.specs.declared.series_key.SeriesKey.{SeriesKey}
use Rattle.coefficient_cache.specs.Pairs.{coefficient_at}
use Rattle.coefficient_cache.specs.Caches.{Cache}
use Rattle.coefficient_cache.specs.Puts.{located}
use Rattle.coefficient_cache.proofs.Kept.{with_coef, found-held}
use Rattle.coefficient_cache.proofs.Found.{told-seen, none-held}
use Rattle.coefficient_cache.proofs.pair_list.PairList.find_near.Goals as goal

pub place_of-requires : goal.place_of-requires
place_of-requires c = told-seen c.self.inside.puts.items c.as_slice-puts.result.now c.self.inside.owners.items c.self.inside.places.items
    c.as_slice.result.now c.self.inside.numbers.entries c.self.invariant.found c.as_slice-puts.ensures.value c.as_slice.ensures.value
    c.args.key

pub returns-in_default : goal.returns-in_default
returns-in_default c =
    sym (none-held c.self.inside.puts.items c.self.inside.owners.items c.self.inside.places.items c.self.inside.numbers.entries
    c.self.inside.start c.self.inside.capacity c.self.invariant c.args.key c.in_default.ensures.none)
    ∙ ap (λ (v : Cache). coefficient_at v.pairs c.args.key) c.self.view_is

pub returns : goal.returns
returns c =
    let place = c.in-Some.place in
    let held = c.in-Some.ensures.held in
    let at : get_or c.self.inside.puts.items place None ≡ Some (with_coef c.args.key held.0) =
    ap (λ (l : List (Option (SeriesKey × Coef))). get_or l place None) (sym c.as_slice-puts.ensures.value) ∙ held.1 in
    c.coef_of.ensures
    ∙ ap (λ (o : Option (SeriesKey × Coef)). option_map (λ e. e.1) o) held.1
    ∙ sym (found-held c.self.inside.puts.items (located c.self.inside.places.items c.self.inside.numbers.entries) c.self.inside.start
    c.self.inside.capacity c.self.invariant.kept place c.args.key held.0 at)
    ∙ ap (λ (v : Cache). coefficient_at v.pairs c.args.key) c.self.view_is
