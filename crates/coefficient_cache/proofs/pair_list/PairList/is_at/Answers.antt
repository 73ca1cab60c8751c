use Rattle.std.proofs.Common.{◌≡◌, List, Option, Some, None, get_or, sym, ap, ◌∙◌}
use Rattle.om3_coeff.specs.declared.coef.Coef.{Coef}
use Rattle.coefficient_cache.specs.declared.series_key.SeriesKey.{SeriesKey}
use Rattle.coefficient_cache.specs.Pairs.{coefficient_at}
use Rattle.coefficient_cache.specs.Caches.{Cache}
use Rattle.coefficient_cache.specs.Puts.{located}
use Rattle.coefficient_cache.proofs.Given.{held-found}
use Rattle.coefficient_cache.proofs.Kept.{with_coef, found-held}
use Rattle.coefficient_cache.proofs.pair_list.PairList.is_at.Goals as goal

pub returns : goal.returns
returns c = λ t.
    let at : get_or c.self.inside.puts.items c.args.place None ≡ Some (with_coef c.args.key c.args.coef) =
    ap (λ (l : List (Option (SeriesKey × Coef))). get_or l c.args.place None) (sym c.as_slice-puts.ensures.value) ∙ c.is_put_at.ensures t in
    held-found c.args.self.now.pairs (with_coef c.args.key c.args.coef)
    (ap (λ (v : Cache). coefficient_at v.pairs c.args.key) (sym c.self.view_is)
    ∙ found-held c.self.inside.puts.items (located c.self.inside.places.items c.self.inside.numbers.entries) c.self.inside.start
    c.self.inside.capacity c.self.invariant.kept c.args.place c.args.key c.args.coef at)
