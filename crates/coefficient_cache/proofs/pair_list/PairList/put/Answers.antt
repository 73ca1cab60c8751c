use Rattle.std.proofs.Common.{◌-◌, ◌∷◌, ◌∙◌, List, ap, subst, OnOk, ◌≡◌}
use Rattle.om3_coeff.specs.declared.coef.Coef.{Coef}
use Rattle.coefficient_cache.specs.declared.series_key.SeriesKey.{SeriesKey}
use Rattle.coefficient_cache.proofs.Kept.{with_coef}
use Rattle.coefficient_cache.proofs.Putting.{put-anew, new-taken}
use Rattle.coefficient_cache.proofs.pair_list.PairList.put.Goals as goal

pub add-requires-clause-new : goal.add-requires-clause-new
add-requires-clause-new c = new-taken c.args.self.now.pairs c.make_room.new.self.pairs
    (c.args.self.now.capacity - 1) c.args.key c.requires c.make_room.ensures.pairs

pub returns-clause-pairs : goal.returns-clause-pairs
returns-clause-pairs c =
    subst (λ (l : List (SeriesKey × Coef)). OnOk c.add.result (c.add.new.self.pairs ≡ l))
    (ap (λ (l : List (SeriesKey × Coef)). with_coef c.args.key c.args.coef ∷ l) c.make_room.ensures.pairs
    ∙ put-anew c.args.self.now.pairs c.args.self.now.capacity c.args.key c.args.coef c.requires)
    c.add.ensures.pairs
