use Rattle.std.proofs.Common.{◌-◌, ◌++◌, List, Option, length, take, reverse, sym, subst}
use Rattle.om3_coeff.specs.declared.coef.Coef.{Coef}
use Rattle.coefficient_cache.specs.declared.series_key.SeriesKey.{SeriesKey}
use Rattle.coefficient_cache.specs.Caches.{Cache}
use Rattle.coefficient_cache.specs.Views.{RenewsFront}
use Rattle.coefficient_cache.specs.Puts.{shown, AreStored, HasKeys, put_in}
use Rattle.coefficient_cache.proofs.Fronts.{alike-set, renews-front}
use Rattle.coefficient_cache.proofs.Found.{stored-alike}
use Rattle.coefficient_cache.proofs.pair_list.PairList.renew_front.Goals as goal

pub set_coefs-requires : goal.set_coefs-requires
set_coefs-requires c =
    let keys = subst (λ (l : List (Option (SeriesKey × Coef))). HasKeys l c.args.series c.args.needed.now) c.as_slice.ensures.value
    (c.have_keys.ensures c.if-not-have_keys.false) in
    keys.fits

pub invariant_of-self : goal.invariant_of-self
invariant_of-self c =
    let puts = c.self.inside.puts.items in
    let keys = subst (λ (l : List (Option (SeriesKey × Coef))). HasKeys l c.args.series c.args.needed.now) c.as_slice.ensures.value
    (c.have_keys.ensures c.if-not-have_keys.false) in
    subst (λ (l : List (Option (SeriesKey × Coef))).
    AreStored l c.self.inside.owners.items c.self.inside.places.items c.self.inside.numbers.entries c.self.inside.start
    c.self.inside.capacity) (sym c.set_coefs.ensures)
    (stored-alike puts (take (length puts - length c.args.needed.now) puts ++ put_in c.args.series c.args.needed.now)
    c.self.inside.owners.items c.self.inside.places.items c.self.inside.numbers.entries c.self.inside.start c.self.inside.capacity
    c.self.invariant
    (alike-set puts c.args.series c.args.needed.now keys))

pub returns-clause-front : goal.returns-clause-front
returns-clause-front c = λ _.
    let puts = c.self.inside.puts.items in
    let keys = subst (λ (l : List (Option (SeriesKey × Coef))). HasKeys l c.args.series c.args.needed.now) c.as_slice.ensures.value
    (c.have_keys.ensures c.if-not-have_keys.false) in
    subst (λ (v : Cache). RenewsFront v.pairs (reverse (shown c.set_coefs.new.puts.items)) c.args.series c.args.needed.now) c.self.view_is
    (subst (λ (l : List (Option (SeriesKey × Coef))). RenewsFront (reverse (shown puts))
    (reverse (shown l)) c.args.series c.args.needed.now) (sym c.set_coefs.ensures)
    (renews-front puts c.args.series c.args.needed.now keys))
