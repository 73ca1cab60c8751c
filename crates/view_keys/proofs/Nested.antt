-- What is seen below a flat key is flat.
use Rattle.std.proofs.Common.{ℕ, ℤ, zero, suc, ◌≡◌, ◌+◌, ◌-◌, ◌/◌, ◌^◌, ◌<◌, ◌≤◌, ◌≤ℤ◌, inl, inr, Option, Some, sym, ap, ◌∙◌, subst, arith}
use Rattle.std.proofs.lemmas.Bool.{cases_lt}
use Rattle.std.proofs.lemmas.Int.{ints}
use Rattle.chart_grid.specs.Projection.{height}
use Rattle.om3_coeff.specs.declared.key.Key.{Key}
use Rattle.om3_coeff.specs.declared.span.Span.{Span}
use Rattle.om3_coeff.specs.declared.coef.Coef.{Coef}
use Rattle.om3_coeff.specs.Keys.{first_slot, parent_of, IsAtOrAbove}
use Rattle.om3_coeff.specs.Known.{known, known_below}
use Rattle.view_keys.specs.Flat.{IsFlat}
use Rattle.view_keys.proofs.Ranging.{above-in_range, shared-above, key-same, parent-above, first-in_range}
use Rattle.view_keys.proofs.Flatness.{HeightsRise, PartsJoin, PartsProper, inside-flat, parent-seen, squeeze}

-- each value of a flat span has one height
pub flat-value : HeightsRise → (lo hi v : ℤ) (h : ℕ) (s : Span) → IsFlat lo hi h s → s.min ≤ℤ v → v ≤ℤ s.max
    → height v lo hi h ≡ height s.min lo hi h
flat-value rise lo hi v h s flat low high =
    sym (squeeze (height s.min lo hi h) (height s.min lo hi h) (height v lo hi h) (height s.max lo hi h)
    (rise s.min s.min lo hi h (omega (arith, ints))) (rise s.min v lo hi h low) (rise v s.max lo hi h high) flat)

-- what the law rests on
pub record Splits : Type 0 where
  pub heights : HeightsRise
  pub join : PartsJoin
  pub proper : PartsProper
  pub below : (root : Option Span) (told : Key → Option Coef) (top : ℕ) (k : Key) → k.level < top
      → known root told top k ≡ known_below k.index (known root told top (parent_of k)) (told (parent_of k))

level-same : (w k : Key) → IsAtOrAbove w k → w.level ≤ k.level → k ≡ w
level-same w k above low =
    let none : w.level - k.level ≡ 0 = omega (arith, low) in
    let whole : k.index / 2 ^ (w.level - k.level) ≡ k.index = ap (λ n. k.index / 2 ^ n) none ∙ omega arith in
    key-same k w (omega (arith, low, above.higher)) (sym whole ∙ above.holds)

one-span : {s t : Span} → ◌≡◌ {A = Option (Option Span)} (Some (Some s)) (Some (Some t)) → t ≡ s
one-span h = cc

flat-same : (root : Option Span) (told : Key → Option Coef) (top : ℕ) (w k : Key) (lo hi : ℤ) (h : ℕ) (s t : Span)
    → k ≡ w → known root told top w ≡ Some (Some t) → known root told top k ≡ Some (Some s) → IsFlat lo hi h t → IsFlat lo hi h s
flat-same root told top w k lo hi h s t same w_is k_is flat =
    subst (λ (o : Span). IsFlat lo hi h o) (one-span (sym k_is ∙ ap (λ (b : Key). known root told top b) same ∙ w_is)) flat

flat-down : Splits → (root : Option Span) (told : Key → Option Coef) (top : ℕ) (w : Key) (lo hi : ℤ) (h : ℕ) (t : Span) → w.level ≤ top
    → known root told top w ≡ Some (Some t) → IsFlat lo hi h t → (fuel : ℕ) (k : Key) (s : Span) → w.level ≤ k.level + fuel
    → IsAtOrAbove w k
    → known root told top k ≡ Some (Some s) → IsFlat lo hi h s
flat-down by root told top w lo hi h t high w_is flat zero k s few above k_is =
    flat-same root told top w k lo hi h s t (level-same w k above (omega (arith, few))) w_is k_is flat
flat-down by root told top w lo hi h t high w_is flat (suc fuel) k s few above k_is =
    elim (cases_lt k.level w.level) [
      | inr same ↦ flat-same root told top w k lo hi h s t (level-same w k above same) w_is k_is flat
      | inl low ↦
          (let p = parent-seen by.join by.proper k.index (known root told top (parent_of k)) (told (parent_of k)) s
          (sym (by.below root told top k (omega (arith, low, high))) ∙ k_is) in
          let p_above : IsAtOrAbove w (parent_of k) = shared-above w (parent_of k) (first_slot k) (omega (arith, low))
          (above-in_range w k (first_slot k) above (first-in_range k))
          (above-in_range (parent_of k) k (first_slot k) (parent-above k) (first-in_range k)) in
          inside-flat by.heights lo hi h s p.0 p.2
          (flat-down by root told top w lo hi h t high w_is flat fuel (parent_of k) p.0 (omega (arith, few)) p_above p.1))
    ]

pub flat-below : Splits → (root : Option Span) (told : Key → Option Coef) (top : ℕ) (w k : Key) (lo hi : ℤ) (h : ℕ) (s t : Span)
    → w.level ≤ top
    → IsAtOrAbove w k → known root told top w ≡ Some (Some t) → known root told top k ≡ Some (Some s) → IsFlat lo hi h t → IsFlat lo hi h s
flat-below by root told top w k lo hi h s t high above w_is k_is flat =
    flat-down by root told top w lo hi h t high w_is flat w.level k s (omega arith) above k_is
