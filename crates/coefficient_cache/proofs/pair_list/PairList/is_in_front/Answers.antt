use Rattle.std.proofs.Common.{◌-◌, List, Option, length, get_or, reverse, pos, false, refl, ap, subst, arith}
use Rattle.om3_coeff.specs.declared.key.Key.{Key}
use Rattle.om3_coeff.specs.declared.coef.Coef.{Coef}
use Rattle.coefficient_cache.specs.declared.series_key.SeriesKey.{SeriesKey}
use Rattle.coefficient_cache.specs.Caches.{Cache}
use Rattle.coefficient_cache.specs.Views.{IsInFront}
use Rattle.coefficient_cache.specs.Puts.{shown}
use Rattle.coefficient_cache.proofs.Kept.{with_coef}
use Rattle.coefficient_cache.proofs.Putting.{front-more, front-all}
use Rattle.coefficient_cache.proofs.pair_list.PairList.is_in_front.Goals as goal

abbrev none : Key × Coef
none = (record { level = 0; index = 0 }, record { left = false; right = false; dmin = pos 0; dmax = pos 0 })

pub loop-i-preserved : goal.loop-i-preserved
loop-i-preserved c =
    let puts = c.as_slice-puts.result.now in
    let needed : List (Key × Coef) = c.args.needed.now in
    let coef : Coef = (get_or needed c.loop-i.i none).1 in
    front-more puts (length puts - length needed) c.args.series needed c.loop-i.i none (c.new.result, coef) c.loop-i-test.true
    (c.is_put.ensures c.if-not-is_put.false) (ap (λ (k : SeriesKey). with_coef k coef) c.new.ensures) c.loop-i.invariant

pub returns : goal.returns
returns c = λ _.
    let puts = c.as_slice-puts.result.now in
    let needed : List (Key × Coef) = c.args.needed.now in
    subst (λ (v : Cache). IsInFront v.pairs c.args.series needed) c.self.view_is
    (subst (λ (l : List (Option (SeriesKey × Coef))). IsInFront (reverse (shown l)) c.args.series needed) c.as_slice-puts.ensures.value
    (front-all puts (length puts - length needed) c.args.series needed c.loop-i.i refl c.if-puts-needed.false
    (omega (arith, c.loop-i-test.false, c.loop-i.auto.i-end)) c.loop-i.invariant))
