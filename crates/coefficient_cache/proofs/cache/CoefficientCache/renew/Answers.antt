use Rattle.std.proofs.Common.{◌≡◌, List, sym, ap, ◌∙◌, subst, OnOk}
use Rattle.om3_coeff.specs.declared.coef.Coef.{Coef}
use Rattle.coefficient_cache.specs.declared.series_key.SeriesKey.{SeriesKey}
use Rattle.coefficient_cache.specs.Pairs.{in_series}
use Rattle.coefficient_cache.specs.Views.{are_new, renewed}
use Rattle.coefficient_cache.proofs.Steps.{are_new-moved, topped_keys, topped-moved}
use Rattle.coefficient_cache.proofs.Unmoved.{unmoved}
use Rattle.coefficient_cache.proofs.Fronts.{renewed-front}
use Rattle.coefficient_cache.proofs.cache.CoefficientCache.renew.Goals as goal

pub put_news-requires-clause-news : goal.put_news-requires-clause-news
put_news-requires-clause-news c =
    let all = in_series c.args.series c.args.needed.now in
    let hits = c.in_ok-is_new.ensures in
    c.deref.ensures.value ∙ hits.news ∙ sym (are_new-moved c.renew_front.new.self.pairs all) ∙ ap (λ l. are_new l all) (sym hits.hits)

pub returns-clause-renewed : goal.returns-clause-renewed
returns-clause-renewed c =
    let all = in_series c.args.series c.args.needed.now in
    let hits = c.in_ok-is_new.ensures in
    let inside = c.renew_front.new.self in
    let same = c.renew_front.ensures.other c.if-renew_front.false in
    subst (λ (l : List (SeriesKey × Coef)). OnOk c.pack.result (c.pack.new.self.pairs ≡ l))
    (c.in_ok-put_news.ensures.news
    ∙ (λ i. topped_keys (hits.capacity i) (hits.hits i) all)
    ∙ topped-moved inside.capacity inside.pairs all
    ∙ (λ i. renewed (same i).capacity (same i).pairs all)
    ∙ (λ i. renewed (c.self.view_is i).capacity (c.self.view_is i).pairs all))
    c.pack.ensures.pairs

pub returns-then-is_in_front-clause-renewed : goal.returns-then-is_in_front-clause-renewed
returns-then-is_in_front-clause-renewed c =
    let all = in_series c.args.series c.args.needed.now in
    let inside = c.self.inside.list in
    let front = c.is_in_front.ensures c.if-is_in_front.true in
    sym (ap (λ v. v.pairs) c.self.view_is)
    ∙ sym (unmoved inside.capacity inside.pairs all front.rest c.len-length.ensures.valid.distinct c.len-length.ensures.valid.within
    front.is)
    ∙ (λ i. renewed (c.self.view_is i).capacity (c.self.view_is i).pairs all)

pub returns-then-renew_front-clause-renewed : goal.returns-then-renew_front-clause-renewed
returns-then-renew_front-clause-renewed c =
    let all = in_series c.args.series c.args.needed.now in
    let inside = c.self.inside.list in
    let front = c.renew_front.ensures.front c.if-renew_front.true in
    sym (renewed-front inside.capacity inside.pairs c.renew_front.new.self.pairs c.args.series c.args.needed.now
    c.len-length.ensures.valid.distinct c.len-length.ensures.valid.within front)
    ∙ (λ i. renewed (c.self.view_is i).capacity (c.self.view_is i).pairs all)
