use Rattle.std.proofs.Common.{◌<◌, ◌∙◌, ℕ, List, Option, None, length, take, sym, ap, subst, arith}
use Rattle.om3_coeff.specs.declared.coef.Coef.{Coef}
use Rattle.coefficient_cache.specs.declared.series_key.SeriesKey.{SeriesKey}
use Rattle.coefficient_cache.specs.Puts.{shown, AreFound}
use Rattle.coefficient_cache.proofs.Kept.{with_coef, some_pair}
use Rattle.coefficient_cache.proofs.Found.{indexed, number-known, closed-by, closed-empty, closed-more, cut-found, cut-shown}
use Rattle.coefficient_cache.proofs.pair_list.close_up.Goals as goal
use Rattle.coefficient_cache.proofs.pair_list.close_up.Goals.{in-Some, in_default}

pub move_down-requires-clause-number : goal.move_down-requires-clause-number
move_down-requires-clause-number c =
    let was = c.loop-place.invariant in
    let less : c.loop-place.place < length c.loop-place.puts.items = omega (
      arith,
      c.loop-place-test.true,
      c.len-place-end.ensures,
      c.args.puts.now.ok.0,
      was.size,
    ) in
    number-known c.loop-place.puts.items c.loop-place.owners.items c.loop-place.places.items c.args.numbers.now.entries was.found
    c.loop-place.place c.in-Some.key c.in-Some.coef
    (indexed c.loop-place.puts.items c.loop-place.place c.index.result.now
    (some_pair (with_coef c.in-Some.key c.in-Some.coef)) c.index.ensures less c.in-Some.is)

pub loop-place-preserved : goal.loop-place-preserved
loop-place-preserved c =
    let was = c.loop-place.invariant in
    let less : c.loop-place.place < length c.loop-place.puts.items = omega (
      arith,
      c.loop-place-test.true,
      c.len-place-end.ensures,
      c.args.puts.now.ok.0,
      was.size,
    ) in
    elim c.match-index.branch [
      | in-Some w ↦
          closed-by c.args.puts.now.items _ _ _ _ _ _ c.args.numbers.now.entries _ _ _
          (closed-more c.args.puts.now.items c.loop-place.puts.items c.loop-place.owners.items c.loop-place.places.items
          c.args.numbers.now.entries c.loop-place.count c.loop-place.place was w.in-Some.key w.in-Some.coef
          (indexed c.loop-place.puts.items c.loop-place.place c.index.result.now
          (some_pair (with_coef w.in-Some.key w.in-Some.coef)) c.index.ensures less w.in-Some.is))
          (ap (λ v. v.items) w.puts-is ∙ w.move_down.ensures.puts) (ap (λ v. v.items) w.owners-is
          ∙ w.move_down.ensures.owners) (ap (λ v. v.items) w.places-is ∙ w.move_down.ensures.places) w.count-is
      | in_default w ↦
          closed-by c.args.puts.now.items _ _ _ _ _ _ c.args.numbers.now.entries _ _ _
          (closed-empty c.args.puts.now.items c.loop-place.puts.items c.loop-place.owners.items c.loop-place.places.items
          c.args.numbers.now.entries c.loop-place.count c.loop-place.place was
          (indexed c.loop-place.puts.items c.loop-place.place c.index.result.now None c.index.ensures less w.in_default.is))
          (ap (λ v. v.items) w.puts-is) (ap (λ v. v.items) w.owners-is) (ap (λ v. v.items) w.places-is) w.count-is
    ]

pub returns-clause-found : goal.returns-clause-found
returns-clause-found c =
    let was = c.loop-place.invariant in
    subst (λ (l : List (Option (SeriesKey × Coef))).
    AreFound l c.truncate-2.new.self.items c.loop-place.places.items c.args.numbers.now.entries) (sym c.truncate.ensures.items)
    (subst (λ (l : List ℕ). AreFound (take c.loop-place.count c.loop-place.puts.items) l c.loop-place.places.items
    c.args.numbers.now.entries) (sym c.truncate-2.ensures.items)
    (cut-found c.args.puts.now.items c.loop-place.puts.items c.loop-place.owners.items c.loop-place.places.items c.args.numbers.now.entries
    c.loop-place.count c.loop-place.place was (omega (arith, c.loop-place-test.false, c.len-place-end.ensures, c.args.puts.now.ok.0))))

pub returns-clause-shown : goal.returns-clause-shown
returns-clause-shown c =
    let was = c.loop-place.invariant in
    ap shown c.truncate.ensures.items
    ∙ cut-shown c.args.puts.now.items c.loop-place.puts.items c.loop-place.owners.items c.loop-place.places.items c.args.numbers.now.entries
    c.loop-place.count c.loop-place.place was (omega (arith, c.loop-place-test.false, c.len-place-end.ensures, c.args.puts.now.ok.0))
