use Rattle.std.proofs.Common.{◌∷◌, length, List, arith, ap, ◌∙◌}
use Rattle.om3_coeff.specs.declared.coef.Coef.{Coef}
use Rattle.coefficient_cache.specs.declared.series_key.SeriesKey.{SeriesKey}
use Rattle.coefficient_cache.specs.Pairs.{has}
use Rattle.coefficient_cache.specs.Caches.{Cache}
use Rattle.coefficient_cache.proofs.Kept.{with_coef}
use Rattle.coefficient_cache.proofs.Putting.{packed-more, packed-new, packed-room, packed-same}
use Rattle.coefficient_cache.proofs.pair_list.packed.Goals as goal
use Rattle.coefficient_cache.proofs.pair_list.packed.Goals.{in-Some+in_ok-add, in_default}

pub add-requires-clause-new : goal.add-requires-clause-new
add-requires-clause-new c =
    ap (λ (l : List (SeriesKey × Coef)). has l c.in-Some.key) c.loop-place.invariant.pairs
    ∙ packed-new c.args.puts.now c.loop-place.place (with_coef c.in-Some.key c.in-Some.coef) c.requires.apart c.in-Some.is

pub add-requires-clause-room : goal.add-requires-clause-room
add-requires-clause-room c =
    let room = packed-room c.args.puts.now c.loop-place.place c.args.capacity
    (with_coef c.in-Some.key c.in-Some.coef) c.in-Some.is c.requires.within in
    omega (arith, room, ap length c.loop-place.invariant.pairs, c.loop-place.invariant.limit)

pub loop-place-preserved : goal.loop-place-preserved
loop-place-preserved c = elim c.match-puts-place.branch [
  | in-Some+in_ok-add w ↦
      let e = with_coef w.in-Some.key w.in-Some.coef in record {
        pairs = ap (λ (v : Cache). v.pairs) w.list-is ∙ w.in_ok-add.ensures.pairs
            ∙ ap (λ (l : List (SeriesKey × Coef)). e ∷ l) c.loop-place.invariant.pairs
            ∙ packed-more c.args.puts.now c.loop-place.place e w.in-Some.is;
        limit = ap (λ (v : Cache). v.capacity) w.list-is ∙ w.in_ok-add.ensures.capacity ∙ c.loop-place.invariant.limit;
      }
  | in_default w ↦ record {
    pairs = ap (λ (v : Cache). v.pairs) w.list-is ∙ c.loop-place.invariant.pairs
        ∙ packed-same c.args.puts.now c.loop-place.place c.loop-place-test.true w.in_default.is;
    limit = ap (λ (v : Cache). v.capacity) w.list-is ∙ c.loop-place.invariant.limit;
  }
]
