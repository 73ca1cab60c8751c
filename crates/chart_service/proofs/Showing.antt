-- The fields of an answered view are those that a frame may have.
use Rattle.std.proofs.Common.{◌≡◌, ℕ, zero, suc, ℤ, ◌^◌, ◌<◌, ◌≤◌, List, [], ◌∷◌, get_or, Option, None, Some, refl, sym, subst, inl, inr}
use Rattle.std.proofs.Common.{arith}
use Rattle.std.specs.Prelude.{AllPairs, IsSome, ◌-ℤ◌}
use Rattle.std.proofs.lemmas.Int.{ints}
use Rattle.std.proofs.lemmas.List.Kept.{AllPairs-cons}
use Rattle.whole_number.specs.Range.{IsValue, IsTime}
use Rattle.om3_coeff.specs.declared.key.Key.{Key}
use Rattle.om3_coeff.specs.declared.coef.Coef.{Coef}
use Rattle.om3_coeff.specs.declared.span.Span.{Span}
use Rattle.om3_coeff.specs.Spans.{IsProperIfAny, hull}
use Rattle.om3_coeff.specs.Coefs.{coef_of}
use Rattle.om3_coeff.proofs.CoefLemmas.{parts_are}
use Rattle.needed_nodes.specs.Answers.{CanSplit}
use Rattle.view_keys.specs.Listed.{ComesBefore, AreInOrder}
use Rattle.chart_grid.specs.declared.grid.Grid.{Grid}
use Rattle.chart_grid.specs.Limits as window
use Rattle.chart_frames.specs.Frames.{IsCoef, Precedes, IsStored, FitsView}
use Rattle.chart_service.specs.Viewing.{has_of, least_of, greatest_of}
use Rattle.chart_service.specs.Planning.{planned_frame}
use Rattle.chart_service.specs.Looking.{IsGoodPlan}
use Rattle.chart_service.specs.declared.shown.Planned.{Planned}

apart_small : (a b : ℤ) → IsValue a → IsValue b → IsTime (a -ℤ b)
apart_small a b x y = grind (arith, ints)

precedes : (a b : Key × Coef) → ComesBefore a.0 b.0 → Precedes a b
precedes a b (inl higher) = inl higher
precedes a b (inr before) = inr (sym before.0, before.1)

-- the coefficient of two halves, one of which has a stored value
halves_fit : (l r : Option Span) → IsProperIfAny l → IsProperIfAny r → IsSome (hull l r) → IsCoef (coef_of l r)
halves_fit None None lp rp some = absurd (let h = some in cc)
halves_fit (Some l) None lp rp some = record {
  some = refl;
  least = omega arith;
  greatest = omega arith;
  single_least = λ h. refl;
  single_greatest = λ h. refl;
}
halves_fit None (Some r) lp rp some = record {
  some = refl;
  least = omega arith;
  greatest = omega arith;
  single_least = λ h. refl;
  single_greatest = λ h. refl;
}
halves_fit (Some l) (Some r) lp rp some = record {
  some = refl;
  least = apart_small l.min r.min lp.low rp.low;
  greatest = apart_small l.max r.max lp.high rp.high;
  single_least = λ h. cc;
  single_greatest = λ h. cc;
}

-- a coefficient that splits some span
split_fits : (c : Coef) → CanSplit c → IsCoef c
split_fits c can =
    let are = parts_are can.span c can.halves.0 can.halves.1 can.split in
    let P : Option Span → Type 0 = λ s. IsSome s in
    subst IsCoef are.coef (halves_fit can.halves.0 can.halves.1 are.left_proper are.right_proper (subst P (sym are.whole) refl))

ordered : (es : List (Key × Coef)) → AreInOrder es → AllPairs Precedes es
ordered [] order = λ i j d less below. absurd (omega (arith, below))
ordered (e ∷ es) order = AllPairs-cons Precedes e es (λ k d below. precedes e (get_or es k d) (order.0 k d below)) (ordered es order.1)

-- the span of all slots, as a frame tells it
pub stored_fits : (slots : ℕ) (root : Option Span) → (slots ≡ 0 → root ≡ None) → IsProperIfAny root
    → IsStored slots (has_of root) (least_of root) (greatest_of root)
stored_fits slots None none proper = record {
  flag = omega arith;
  somewhere = λ h. absurd (omega (arith, h));
  range = record { low = omega arith; high = omega arith; ordered = omega arith };
  none_least = λ h. refl;
  none_greatest = λ h. refl;
}
stored_fits slots (Some s) none proper = record {
  flag = omega arith;
  somewhere = λ h. some_slots slots s none;
  range = record { low = proper.low; high = proper.high; ordered = proper.ordered };
  none_least = λ h. absurd (omega (arith, h));
  none_greatest = λ h. absurd (omega (arith, h));
}
  where
    some_slots : (slots : ℕ) (s : Span) → (slots ≡ 0 → Some s ≡ None) → 1 ≤ slots
    some_slots zero s none = let clash : Some s ≡ None = none refl in cc
    some_slots (suc n) s none = omega arith

-- all fields of a view that is planned
pub plan_fits : (number id : ℕ) (grid : Grid) (p : Planned) → IsGoodPlan p → 1 ≤ number → number < 2 ^ 32 → id < 512
    → window.IsWindow grid.t0 grid.t1 → window.IsSide grid.w → window.IsSide grid.h
    → FitsView (planned_frame number id grid p.told p.plan.send)
plan_fits number id grid p good low high few shown wide tall = record {
  head = record {
    place = record {
      named = record { low = low; high = high };
      known = few;
      width = record { low = omega (arith, wide.some); high = omega (arith, wide.most) };
      height = record { low = omega (arith, tall.some); high = omega (arith, tall.most) };
      window = record { from = shown.from_size; to = shown.to_size; forward = shown.rising };
    };
    source = record { range = good.frame.range; axis = good.axis; stored = good.stored };
    most = good.bounds.fewer;
  };
  count = refl;
  coefs = record {
    each = λ k d below. let e = good.entries.send k d below in record { key = e.node; coef = split_fits _ e.good };
    order = ordered p.plan.send good.entries.send_order;
  };
}
