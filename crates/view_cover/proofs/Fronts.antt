-- The lowest seen keys: above each key that is seen by more, and below each that is seen.
use Rattle.std.proofs.Common.{ℕ, zero, suc, ◌≡◌, ◌+◌, ◌-◌, ◌*◌, ◌/◌, ◌^◌, ◌<◌, ◌≤◌, ◌⊎◌, inl, inr, Option, None, Some, refl, sym, ap, ◌∙◌}
use Rattle.std.proofs.Common.{subst, arith}
use Rattle.std.specs.Option.{option_map}
use Rattle.std.proofs.lemmas.Bool.{cases_lt}
use Rattle.om3_coeff.specs.declared.key.Key.{Key}
use Rattle.om3_coeff.specs.declared.span.Span.{Span}
use Rattle.om3_coeff.specs.declared.coef.Coef.{Coef}
use Rattle.om3_coeff.specs.Keys.{first_slot, end_slot, left_of, right_of, parent_of, IsAtOrAbove}
use Rattle.om3_coeff.specs.Coefs.{parts}
use Rattle.om3_coeff.specs.Spans.{hull}
use Rattle.om3_coeff.specs.Known.{half, known_below}
use Rattle.view_keys.specs.Ranges.{IsInRange}
use Rattle.view_keys.proofs.Ranging.{shared-above, parent-above}
use Rattle.view_cover.specs.Scene.{Scene, with_told, IsToldBy, known_in, IsSeen}
use Rattle.view_cover.specs.Front.{IsLowest}
use Rattle.view_cover.proofs.Spans.{Basis, IsPart, part-same, part-trans, known-top, not-known, left-half, right-half}
use Rattle.view_cover.proofs.Trees.{peak, above-trans, above-same, above-both, level-same, left-key, right-key, left-parent, right-parent}
use Rattle.view_cover.proofs.Trees.{left-above, right-above, known-under, seen-more, seen-parent, seen-above, ranges-apart}

-- a seen key whose coefficient shows nothing is one of them
untold : (index : ℕ) (s t : Span) → known_below index (Some (Some s)) None ≡ Some (Some t) → ⊥
untold index s t is = not-known is

unsplit : (index : ℕ) (s t : Span) (c : Coef) → parts s c ≡ None → known_below index (Some (Some s)) (Some c) ≡ Some (Some t) → ⊥
unsplit index s t c bad is = not-known (sym (ap (option_map (half index)) bad) ∙ is)

pub lowest-untold : Basis → (scene : Scene) (k : Key) (s : Span) → IsSeen scene k s → scene.told k ≡ None → IsLowest scene k s
lowest-untold by scene k s seen is = record {
  seen = seen;
  no_half = λ part t up part_seen. untold part.index s t
      (subst (λ (c : Option Coef). known_below part.index (Some (Some s)) c ≡ Some (Some t)) is
      (sym (known-under by scene part k (Some (Some s)) up seen.key.high seen.span) ∙ part_seen.span));
}

pub lowest-unsplit : Basis → (scene : Scene) (k : Key) (s : Span) (c : Coef) → IsSeen scene k s → scene.told k ≡ Some c → parts s c ≡ None
    → IsLowest scene k s
lowest-unsplit by scene k s c seen is bad = record {
  seen = seen;
  no_half = λ part t up part_seen. unsplit part.index s t c bad
      (subst (λ (e : Option Coef). known_below part.index (Some (Some s)) e ≡ Some (Some t)) is
      (sym (known-under by scene part k (Some (Some s)) up seen.key.high seen.span) ∙ part_seen.span));
}

pub lowest-slot : (scene : Scene) (k : Key) (s : Span) → IsSeen scene k s → k.level ≡ 0 → IsLowest scene k s
lowest-slot scene k s seen low = record {
  seen = seen;
  no_half = λ part t up part_seen. absurd (omega (arith, low, ap (λ (b : Key). b.level) up));
}

-- A key that is seen by more coefficients is seen, or lies below a lowest seen one.
Reached : Scene → Key → Span → Type 0
Reached scene k s = IsSeen scene k s ⊎ ((w : Key) × (t : Span) × IsLowest scene w t × IsAtOrAbove w k × IsPart s t)

reach-below : Basis → (scene : Scene) (more : Key → Option Coef) → IsToldBy scene.told more → (k : Key) (s t : Span) → k.level < peak scene
    → IsSeen (with_told scene more) k s → IsPart s t → IsSeen scene (parent_of k) t → (c : Option Coef) → scene.told (parent_of k) ≡ c
    → Reached scene k s
unfolding Reached
reach-below by scene more tells k s t low seen part up None is =
    inr (parent_of k, t, lowest-untold by scene (parent_of k) t up is, parent-above k, part)
reach-below by scene more tells k s t low seen part up (Some c) is =
    let both = seen-more scene more tells (parent_of k) t up in
    let of_more : known_in (with_told scene more) k ≡ known_below k.index (Some (Some t)) (Some c) =
    known-under by (with_told scene more) k (parent_of k) (Some (Some t)) refl low both.span
    ∙ ap (λ (e : Option Coef). known_below k.index (Some (Some t)) e) (tells (parent_of k) c is) in
    let of_less : known_in scene k ≡ known_below k.index (Some (Some t)) (Some c) =
    known-under by scene k (parent_of k) (Some (Some t)) refl low up.span
    ∙ ap (λ (e : Option Coef). known_below k.index (Some (Some t)) e) is in
    inl (record { key = seen.key; span = of_less ∙ sym of_more ∙ seen.span })

reach-on : Basis → (scene : Scene) (more : Key → Option Coef) → IsToldBy scene.told more → (k : Key) (s t : Span) → k.level < peak scene
    → IsSeen (with_told scene more) k s → IsPart s t → Reached scene (parent_of k) t → Reached scene k s
unfolding Reached
reach-on by scene more tells k s t low seen part (inl up) = reach-below by scene more tells k s t low seen part up
    (scene.told (parent_of k)) refl
reach-on by scene more tells k s t low seen part (inr found) =
    inr (found.0, found.1, found.2, above-trans found.0 (parent_of k) k found.3 (parent-above k), part-trans s t found.1 part found.4)

reach : Basis → (scene : Scene) (more : Key → Option Coef) → IsToldBy scene.told more → (fuel : ℕ) (k : Key) (s : Span)
    → peak scene ≤ k.level + fuel
    → IsSeen (with_told scene more) k s → Reached scene k s
unfolding Reached
reach by scene more tells zero k s few seen =
    inl (record {
      key = seen.key;
      span = known-top scene.root scene.told (peak scene) k (omega (arith, few))
          ∙ sym (known-top scene.root more (peak scene) k (omega (arith, few))) ∙ seen.span;
    })
reach by scene more tells (suc fuel) k s few seen =
    elim (cases_lt k.level (peak scene)) [
      | inr high ↦ inl (record {
        key = seen.key;
        span = known-top scene.root scene.told (peak scene) k high
            ∙ sym (known-top scene.root more (peak scene) k high) ∙ seen.span;
      })
      | inl low ↦
          (let p = seen-parent by (with_told scene more) k s low seen in
          reach-on by scene more tells k s p.0 low seen p.2 (reach by scene more tells fuel (parent_of k) p.0 (omega (arith, few)) p.1))
    ]

reached-lowest : (scene : Scene) (more : Key → Option Coef) → IsToldBy scene.told more → (k : Key) (s : Span)
    → IsLowest (with_told scene more) k s → Reached scene k s
    → (w : Key) × (t : Span) × IsLowest scene w t × IsAtOrAbove w k × IsPart s t
unfolding Reached
reached-lowest scene more tells k s low (inl seen) = (
  k,
  s,
  record { seen = seen; no_half = λ part t up is. low.no_half part t up (seen-more scene more tells part t is) },
  above-same k,
  part-same s,
)
reached-lowest scene more tells k s low (inr found) = found

-- above each lowest key that is seen by more there is a lowest one
pub lowest-above : Basis → (scene : Scene) (more : Key → Option Coef) → IsToldBy scene.told more → (k : Key) (s : Span)
    → IsLowest (with_told scene more) k s
    → (w : Key) × (t : Span) × IsLowest scene w t × IsAtOrAbove w k × IsPart s t
lowest-above by scene more tells k s low =
    reached-lowest scene more tells k s low (reach by scene more tells (peak scene) k s (omega arith) low.seen)

-- nothing is seen below a lowest key
pub lowest-ends : Basis → (scene : Scene) (w v : Key) (t u : Span) → IsLowest scene w t → IsSeen scene v u → IsAtOrAbove w v
    → v.level < w.level → ⊥
lowest-ends by scene w v t u low seen above under =
    let part : Key = record { level = w.level - 1; index = v.index / 2 ^ (w.level - 1 - v.level) } in
    let over : IsAtOrAbove part v = record { higher = omega (arith, under); holds = refl } in
    let found = seen-above by scene part v u (omega (arith, low.seen.key.high)) over seen in
    let up : IsAtOrAbove w (parent_of part) = above-both w (parent_of part) v above
    (above-trans (parent_of part) part v (parent-above part) over) (omega (arith, under)) in
    low.no_half part found.0 (sym (level-same w (parent_of part) up (omega (arith, under)))) found.1

-- two lowest keys are one, or their ranges are apart
share-lowest : Basis → (scene : Scene) (w v : Key) (t u : Span) → IsLowest scene w t → IsLowest scene v u → (i : ℕ) → IsInRange w i
    → IsInRange v i → w ≡ v
share-lowest by scene w v t u a b i in_w in_v =
    elim (cases_lt v.level w.level) [
      | inl low ↦ absurd (lowest-ends by scene w v t u a b.seen (shared-above w v i (omega (arith, low)) in_w in_v) low)
      | inr high ↦ elim (cases_lt w.level v.level) [
        | inl low ↦ absurd (lowest-ends by scene v w u t b a.seen (shared-above v w i high in_v in_w) low)
        | inr same ↦ level-same w v (shared-above w v i same in_w in_v) high
      ]
    ]

pub lowest-apart : Basis → (scene : Scene) (w v : Key) (t u : Span) → IsLowest scene w t → IsLowest scene v u
    → (w ≡ v) ⊎ ((end_slot w ≤ first_slot v) ⊎ (end_slot v ≤ first_slot w))
lowest-apart by scene w v t u a b =
    elim (ranges-apart w v) [
      | inl shared ↦ inl (share-lowest by scene w v t u a b shared.0 shared.1 shared.2)
      | inr apart ↦ inr apart
    ]

-- what holds of a span holds of that of one of its halves
abbrev pub IsInherited : (Span → Type 0) → Type 0
IsInherited P = (l r : Option Span) (s : Span) → hull l r ≡ Some s → P s
    → ((a : Span) × (l ≡ Some a) × P a) ⊎ ((b : Span) × (r ≡ Some b) × P b)

-- the halves by a coefficient that splits the span
pub seen-left : Basis → (scene : Scene) (k : Key) (s : Span) (c : Coef) (l r : Option Span) (a : Span) → 1 ≤ k.level → IsSeen scene k s
    → scene.told k ≡ Some c
    → parts s c ≡ Some (l, r) → l ≡ Some a → IsSeen scene (left_of k) a
seen-left by scene k s c l r a low seen is split l_is = record {
  key = left-key (peak scene) k seen.key low;
  span = known-under by scene (left_of k) k (Some (Some s)) (left-parent k low) seen.key.high seen.span
      ∙ ap (λ (e : Option Coef). known_below (2 * k.index) (Some (Some s)) e) is
      ∙ ap (option_map (half (2 * k.index))) split
      ∙ ap (λ (o : Option Span). Some o) (left-half (2 * k.index) l r (omega arith) ∙ l_is);
}

pub seen-right : Basis → (scene : Scene) (k : Key) (s : Span) (c : Coef) (l r : Option Span) (b : Span) → 1 ≤ k.level → IsSeen scene k s
    → scene.told k ≡ Some c
    → parts s c ≡ Some (l, r) → r ≡ Some b → IsSeen scene (right_of k) b
seen-right by scene k s c l r b low seen is split r_is = record {
  key = right-key (peak scene) k seen.key low;
  span = known-under by scene (right_of k) k (Some (Some s)) (right-parent k low) seen.key.high seen.span
      ∙ ap (λ (e : Option Coef). known_below (2 * k.index + 1) (Some (Some s)) e) is
      ∙ ap (option_map (half (2 * k.index + 1))) split
      ∙ ap (λ (o : Option Span). Some o) (right-half (2 * k.index + 1) l r (omega arith) ∙ r_is);
}

-- there is a lowest key at or below
LowestBelow : Scene → (Span → Type 0) → Key → Type 0
LowestBelow scene P k = (m : Key) × (u : Span) × IsLowest scene m u × IsAtOrAbove k m × P u

below-under : (scene : Scene) (P : Span → Type 0) (k w : Key) → IsAtOrAbove k w → LowestBelow scene P w → LowestBelow scene P k
unfolding LowestBelow
below-under scene P k w above found = (found.0, found.1, found.2, above-trans k w found.0 above found.3, found.4)

below-itself : (scene : Scene) (P : Span → Type 0) (k : Key) (s : Span) → IsLowest scene k s → P s → LowestBelow scene P k
unfolding LowestBelow
below-itself scene P k s low p = (k, s, low, above-same k, p)

abbrev Deeper : Scene → (Span → Type 0) → ℕ → Type 0
Deeper scene P n = (w : Key) (a : Span) → w.level ≤ n → IsSeen scene w a → P a → LowestBelow scene P w

below-split : Basis → (scene : Scene) (P : Span → Type 0) → IsInherited P → (n : ℕ) → Deeper scene P n → (k : Key) (s : Span)
    → k.level ≤ suc n → 1 ≤ k.level → IsSeen scene k s → P s
    → (c : Coef) → scene.told k ≡ Some c → (o : Option (Option Span × Option Span)) → parts s c ≡ o → LowestBelow scene P k
below-split by scene P down n deeper k s few low seen p c is None split = below-itself scene P k s
    (lowest-unsplit by scene k s c seen is split) p
below-split by scene P down n deeper k s few low seen p c is (Some (l, r)) split =
    elim (down l r s (by.join s c l r split) p) [
      | inl a ↦ below-under scene P k (left_of k) (left-above k low)
          (deeper (left_of k) a.0 (omega (arith, few, low)) (seen-left by scene k s c l r a.0 low seen is split a.1) a.2)
      | inr b ↦ below-under scene P k (right_of k) (right-above k low)
          (deeper (right_of k) b.0 (omega (arith, few, low)) (seen-right by scene k s c l r b.0 low seen is split b.1) b.2)
    ]

below-told : Basis → (scene : Scene) (P : Span → Type 0) → IsInherited P → (n : ℕ) → Deeper scene P n → (k : Key) (s : Span)
    → k.level ≤ suc n → 1 ≤ k.level → IsSeen scene k s → P s
    → (c : Option Coef) → scene.told k ≡ c → LowestBelow scene P k
below-told by scene P down n deeper k s few low seen p None is = below-itself scene P k s (lowest-untold by scene k s seen is) p
below-told by scene P down n deeper k s few low seen p (Some c) is = below-split by scene P down n deeper k s few low seen p c is
    (parts s c) refl

lowest-down : Basis → (scene : Scene) (P : Span → Type 0) → IsInherited P → (n : ℕ) → Deeper scene P n
lowest-down by scene P down zero k s few seen p = below-itself scene P k s (lowest-slot scene k s seen (omega (arith, few))) p
lowest-down by scene P down (suc n) k s few seen p =
    elim (cases_lt k.level 1) [
      | inl none ↦ below-itself scene P k s (lowest-slot scene k s seen (omega (arith, none))) p
      | inr low ↦ below-told by scene P down n (lowest-down by scene P down n) k s few low seen p (scene.told k) refl
    ]

-- at or below each seen key there is a lowest one that has what is inherited
pub lowest-below : Basis → (scene : Scene) (P : Span → Type 0) → IsInherited P → (k : Key) (s : Span) → IsSeen scene k s → P s
    → (m : Key) × (u : Span) × IsLowest scene m u × IsAtOrAbove k m × P u
unfolding LowestBelow
lowest-below by scene P down k s seen p = lowest-down by scene P down k.level k s (omega arith) seen p
