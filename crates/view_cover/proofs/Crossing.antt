-- The test of a key that lies across the end of a column.
use Rattle.std.proofs.Common.{ℕ, ap₂, subst, ◌≡◌, ◌-◌, ◌<◌, ◌≤◌, ◌⊎◌, ◌↔◌, inl, inr, Bool, true, false, IsTrue, refl, sym, ap, ◌∙◌, arith}
use Rattle.std.specs.Prelude.{not, ◌==◌, nat_lt}
use Rattle.std.proofs.lemmas.Bool.{cases_lt, cases_eq}
use Rattle.std.proofs.lemmas.Bool.Decides.{nat_tests}
use Rattle.chart_grid.specs.Projection.{column}
use Rattle.chart_grid.specs.Slots.{slot_time, IsInColumn}
use Rattle.om3_coeff.specs.declared.key.Key.{Key}
use Rattle.om3_coeff.specs.Keys.{first_slot, end_slot}
use Rattle.view_keys.proofs.Ranging.{first-in_range, last-in_range}
use Rattle.view_cover.specs.declared.scope.Scope.{Scope}
use Rattle.view_cover.specs.Across.{IsAcross, is_across}
use Rattle.view_cover.proofs.Drawn.{slot-shown, shown-slot, columns-rise}

before-not : (w : Scope) (k : Key) → end_slot k ≤ w.from → is_across w k ≡ false
unfolding is_across
before-not w k h = grind (arith, nat_tests, h)

behind-not : (w : Scope) (k : Key) → w.end ≤ first_slot k → is_across w k ≡ false
unfolding is_across
behind-not w k h = grind (arith, nat_tests, h)

left-is : (w : Scope) (k : Key) → w.from < end_slot k → first_slot k < w.end → first_slot k < w.from → w.from < w.end → is_across w k ≡ true
unfolding is_across
left-is w k a b c d = grind (arith, nat_tests, a, b, c, d)

left-not : (w : Scope) (k : Key) → w.from < end_slot k → first_slot k < w.end → first_slot k < w.from → w.end ≤ w.from
    → is_across w k ≡ false
unfolding is_across
left-not w k a b c d = grind (arith, nat_tests, a, b, c, d)

right-is : (w : Scope) (k : Key) → w.from < end_slot k → first_slot k < w.end → w.end < end_slot k → w.from < w.end → is_across w k ≡ true
unfolding is_across
right-is w k a b c d = grind (arith, nat_tests, a, b, c, d)

inner-one : (w : Scope) (k : Key) → w.from < end_slot k → first_slot k < w.end → w.from ≤ first_slot k → end_slot k ≤ w.end
    → column w.grid (slot_time w.axis (first_slot k)) ≡ column w.grid (slot_time w.axis (end_slot k - 1)) → is_across w k ≡ false
unfolding is_across
inner-one w k a b c d e = grind (arith, nat_tests, a, b, c, d, e)

inner-two : (w : Scope) (k : Key) → w.from < end_slot k → first_slot k < w.end → w.from ≤ first_slot k → end_slot k ≤ w.end
    → (column w.grid (slot_time w.axis (first_slot k)) ≡ column w.grid (slot_time w.axis (end_slot k - 1)) → ⊥) → is_across w k ≡ true
unfolding is_across
inner-two w k a b c d e = grind (arith, nat_tests, a, b, c, d, e)

drawn-at : (w : Scope) (i : ℕ) → w.from ≤ i → i < w.end → IsInColumn w.axis w.grid (column w.grid (slot_time w.axis i)) i
drawn-at w i from to = record { slot = omega (arith, to, w.stop.within); shown = slot-shown w i from to; place = refl }

left-across : (w : Scope) (k : Key) → w.from < end_slot k → first_slot k < w.from → w.from < w.end → IsAcross w.axis w.grid k
left-across w k a b c = record {
  column = column w.grid (slot_time w.axis w.from);
  cut = record {
    slot = w.from;
    in_range = record { from = omega (arith, b); to = a };
    in_column = drawn-at w w.from (omega arith) c;
    other = first_slot k;
    other_in_range = first-in_range k;
    outside = λ h. absurd (omega (arith, b, (shown-slot w (column w.grid (slot_time w.axis w.from)) (first_slot k) h).0));
  };
}

right-across : (w : Scope) (k : Key) → w.from ≤ first_slot k → first_slot k < w.end → w.end < end_slot k → IsAcross w.axis w.grid k
right-across w k a b c = record {
  column = column w.grid (slot_time w.axis (first_slot k));
  cut = record {
    slot = first_slot k;
    in_range = first-in_range k;
    in_column = drawn-at w (first_slot k) a b;
    other = end_slot k - 1;
    other_in_range = last-in_range k;
    outside = λ h. absurd (omega (arith, c, (shown-slot w (column w.grid (slot_time w.axis (first_slot k))) (end_slot k - 1) h).1));
  };
}

inner-across : (w : Scope) (k : Key) → w.from ≤ first_slot k → end_slot k ≤ w.end
    → (column w.grid (slot_time w.axis (first_slot k)) ≡ column w.grid (slot_time w.axis (end_slot k - 1)) → ⊥) → IsAcross w.axis w.grid k
inner-across w k a b apart = record {
  column = column w.grid (slot_time w.axis (first_slot k));
  cut = record {
    slot = first_slot k;
    in_range = first-in_range k;
    in_column = drawn-at w (first_slot k) a (omega (arith, b, (first-in_range k).to));
    other = end_slot k - 1;
    other_in_range = last-in_range k;
    outside = λ h. apart (sym h.place);
  };
}

-- of a range with one column at both ends no slot is elsewhere
one-column : (w : Scope) (k : Key) → w.from ≤ first_slot k → end_slot k ≤ w.end
    → column w.grid (slot_time w.axis (first_slot k)) ≡ column w.grid (slot_time w.axis (end_slot k - 1)) → IsAcross w.axis w.grid k → ⊥
one-column w k a b same across =
    let cut = across.cut in
    let first = drawn-at w (first_slot k) a (omega (arith, b, (first-in_range k).to)) in
    let last = drawn-at w (end_slot k - 1) (omega (arith, a, (last-in_range k).from)) (omega (arith, b, (last-in_range k).to)) in
    let other = drawn-at w cut.other (omega (arith, a, cut.other_in_range.from)) (omega (arith, b, cut.other_in_range.to)) in
    let c1 = columns-rise w (first_slot k) cut.slot _ _ cut.in_range.from first cut.in_column in
    let c2 = columns-rise w cut.slot (end_slot k - 1) _ _ (omega (arith, cut.in_range.to)) cut.in_column last in
    let o1 = columns-rise w (first_slot k) cut.other _ _ cut.other_in_range.from first other in
    let o2 = columns-rise w cut.other (end_slot k - 1) _ _ (omega (arith, cut.other_in_range.to)) other last in
    cut.outside (record { slot = other.slot; shown = other.shown; place = omega (arith, c1, c2, o1, o2, same) })

-- a key either lies across such an end, and the test says so, or doesn't, and it says that
pub decided : (w : Scope) (k : Key) → ((is_across w k ≡ true) × IsAcross w.axis w.grid k)
    ⊎ ((is_across w k ≡ false) × (IsAcross w.axis w.grid k → ⊥))
decided w k =
    elim (cases_lt w.from (end_slot k)) [
      | inr before ↦ inr (
        before-not w k before,
        λ h. absurd
            (omega (arith, before, h.cut.in_range.to, (shown-slot w h.column h.cut.slot h.cut.in_column).0)),
      )
      | inl a ↦ elim (cases_lt (first_slot k) w.end) [
        | inr behind ↦ inr (
          behind-not w k behind,
          λ h. absurd
              (omega (arith, behind, h.cut.in_range.from, (shown-slot w h.column h.cut.slot h.cut.in_column).1)),
        )
        | inl b ↦ elim (cases_lt (first_slot k) w.from) [
          | inl left ↦ elim (cases_lt w.from w.end) [
            | inl some ↦ inl (left-is w k a b left some, left-across w k a left some)
            | inr none ↦ inr (
              left-not w k a b left none,
              λ h. absurd (omega (
                arith,
                none,
                (shown-slot w h.column h.cut.slot h.cut.in_column).0,
                (shown-slot w h.column h.cut.slot h.cut.in_column).1,
              )),
            )
          ]
          | inr from ↦ elim (cases_lt w.end (end_slot k)) [
            | inl right ↦ inl (right-is w k a b right (omega (arith, from, b)), right-across w k from b right)
            | inr to ↦ elim (cases_eq (column w.grid (slot_time w.axis (first_slot k))) (column w.grid (slot_time w.axis (end_slot k - 1)))) [
              | inl same ↦ inr (inner-one w k a b from to same, one-column w k from to same)
              | inr apart ↦ inl (inner-two w k a b from to apart, inner-across w k from to apart)
            ]
          ]
        ]
      ]
    ]

true-false : (b : Bool) → b ≡ false → IsTrue b → ⊥
true-false b off on = let t : false ≡ true = sym off ∙ on in cc

pub across-law : (w : Scope) (k : Key) → IsTrue (is_across w k) ↔ IsAcross w.axis w.grid k
across-law w k =
    elim (decided w k) [
      | inl is ↦ (λ h. is.1, λ h. is.0)
      | inr other ↦ (λ h. absurd (true-false (is_across w k) other.0 h), λ h. absurd (other.1 h))
    ]

pub across-by : (w : Scope) (k : Key) (b : Bool) → b ≡ is_across w k → IsTrue b ↔ IsAcross w.axis w.grid k
across-by w k b is = subst (λ (t : Bool). IsTrue t ↔ IsAcross w.axis w.grid k) (sym is) (across-law w k)

pub before-test : (w : Scope) (k : Key) (e : ℕ) → e ≡ end_slot k → e ≤ w.from → false ≡ is_across w k
before-test w k e is low = sym (before-not w k (omega (arith, is, low)))

pub behind-test : (w : Scope) (k : Key) (f : ℕ) → f ≡ first_slot k → w.end ≤ f → false ≡ is_across w k
behind-test w k f is high = sym (behind-not w k (omega (arith, is, high)))

left-says : (w : Scope) (k : Key) → w.from < end_slot k → first_slot k < w.end → first_slot k < w.from → nat_lt w.from w.end ≡ is_across w k
unfolding is_across
left-says w k a b c = grind (arith, nat_tests, a, b, c)

pub left-test : (w : Scope) (k : Key) (f e : ℕ) → f ≡ first_slot k → e ≡ end_slot k → w.from < e → f < w.end → f < w.from
    → nat_lt w.from w.end ≡ is_across w k
left-test w k f e f_is e_is a b c = left-says w k (omega (arith, e_is, a)) (omega (arith, f_is, b)) (omega (arith, f_is, c))

pub right-test : (w : Scope) (k : Key) (f e : ℕ) → f ≡ first_slot k → e ≡ end_slot k → w.from < e → f < w.end → w.from ≤ f → w.end < e
    → true ≡ is_across w k
right-test w k f e f_is e_is a b c d = sym (right-is w k (omega (arith, e_is, a)) (omega (arith, f_is, b)) (omega (arith, e_is, d))
    (omega (arith, b, c)))

inner-says : (w : Scope) (k : Key) → w.from < end_slot k → first_slot k < w.end → w.from ≤ first_slot k → end_slot k ≤ w.end
    → not (column w.grid (slot_time w.axis (first_slot k)) == column w.grid (slot_time w.axis (end_slot k - 1))) ≡ is_across w k
unfolding is_across
inner-says w k a b c d = grind (arith, nat_tests, a, b, c, d)

pub inner-test : (w : Scope) (k : Key) (f e p q : ℕ) → f ≡ first_slot k → e ≡ end_slot k → w.from < e → f < w.end → w.from ≤ f → e ≤ w.end
    → column w.grid (slot_time w.axis f) ≡ p → column w.grid (slot_time w.axis (e - 1)) ≡ q → not (p == q) ≡ is_across w k
inner-test w k f e p q f_is e_is a b c d first last =
    ap₂ (λ (m n : ℕ). not (m == n)) (sym first ∙ ap (λ (i : ℕ). column w.grid (slot_time w.axis i)) f_is) (sym last
    ∙ ap (λ (i : ℕ). column w.grid (slot_time w.axis (i - 1))) e_is)
    ∙ inner-says w k (omega (arith, e_is, a)) (omega (arith, f_is, b)) (omega (arith, f_is, c)) (omega (arith, e_is, d))
