-- Keys that are seen, and those above and below them.
use Rattle.std.proofs.Common.{ℕ, zero, suc, ◌≡◌, ◌+◌, ◌-◌, ◌*◌, ◌/◌, ◌^◌, ◌<◌, ◌≤◌, ◌⊎◌, inl, inr, Option, Some, refl, sym, ap, ◌∙◌, subst}
use Rattle.std.proofs.Common.{arith}
use Rattle.std.proofs.lemmas.Bool.{cases_lt}
use Rattle.std.proofs.lemmas.Nat.{pow-add}
use Rattle.om3_coeff.specs.declared.key.Key.{Key}
use Rattle.om3_coeff.specs.declared.span.Span.{Span}
use Rattle.om3_coeff.specs.declared.coef.Coef.{Coef}
use Rattle.om3_coeff.specs.Keys.{first_slot, end_slot, left_of, right_of, parent_of, height, IsKey, IsAtOrAbove}
use Rattle.om3_coeff.specs.Known.{known_below}
use Rattle.view_keys.specs.Ranges.{IsInRange}
use Rattle.view_keys.proofs.Ranging.{above-in_range, shared-above, key-same, parent-above, first-in_range}
use Rattle.view_cover.specs.Scene.{Scene, with_told, IsToldBy, known_in, IsSeen}
use Rattle.view_cover.proofs.Spans.{Basis, IsPart, part-same, part-trans, parent-seen, known-more, one-span}

-- the highest level of the tree
abbrev pub peak : Scene → ℕ
peak scene = height scene.axis.slots

-- of keys above one another the upper one lies above the lower one
pub above-trans : (w p k : Key) → IsAtOrAbove w p → IsAtOrAbove p k → IsAtOrAbove w k
above-trans w p k a b =
    shared-above w k (first_slot k) (omega (arith, a.higher, b.higher))
    (above-in_range w p (first_slot k) a (above-in_range p k (first_slot k) b (first-in_range k))) (first-in_range k)

pub above-same : (k : Key) → IsAtOrAbove k k
above-same k = shared-above k k (first_slot k) (omega arith) (first-in_range k) (first-in_range k)

-- of two keys above a third one the higher one lies above the other
pub above-both : (w p k : Key) → IsAtOrAbove w k → IsAtOrAbove p k → p.level ≤ w.level → IsAtOrAbove w p
above-both w p k a b low =
    shared-above w p (first_slot k) low (above-in_range w k (first_slot k) a (first-in_range k))
    (above-in_range p k (first_slot k) b (first-in_range k))

pub level-same : (w k : Key) → IsAtOrAbove w k → w.level ≤ k.level → w ≡ k
level-same w k above low =
    let none : w.level - k.level ≡ 0 = omega (arith, low) in
    let whole : k.index / 2 ^ (w.level - k.level) ≡ k.index = ap (λ n. k.index / 2 ^ n) none ∙ omega arith in
    key-same w k (omega (arith, low, above.higher)) (sym above.holds ∙ whole)

halve : (i P : ℕ) → i < P * 2 → i / 2 < P
halve i P h = omega (arith, h)

double : (n : ℕ) → 2 ^ suc n ≡ 2 ^ n * 2
double n = ap (λ m. 2 ^ m) (omega arith) ∙ pow-add 2 n 1

-- the key above one of a tree, and the halves
pub parent-key : (top : ℕ) (k : Key) → IsKey top k → k.level < top → IsKey top (parent_of k)
parent-key top k key low =
    let e : top - k.level ≡ suc (top - suc k.level) = omega (arith, low) in
    record {
      high = low;
      within = halve k.index (2 ^ (top - suc k.level))
          (subst (λ n. k.index < n) (ap (λ n. 2 ^ n) e ∙ double (top - suc k.level)) key.within);
    }

part-key : (top n : ℕ) (k part : Key) → IsKey top k → k.level ≡ suc n → part.level ≡ n → part.index < (k.index + 1) * 2 → IsKey top part
part-key top n k part key low level below =
    let e : top - part.level ≡ suc (top - k.level) = omega (arith, low, level, key.high) in
    let two : 2 ^ (top - part.level) ≡ 2 ^ (top - k.level) * 2 = ap (λ m. 2 ^ m) e ∙ double (top - k.level) in
    record {
      high = omega (arith, low, level, key.high);
      within = omega (arith, two, below, key.within);
    }

pub left-key : (top : ℕ) (k : Key) → IsKey top k → 1 ≤ k.level → IsKey top (left_of k)
left-key top k key low = part-key top (k.level - 1) k (left_of k) key (omega (arith, low)) refl (omega arith)

pub right-key : (top : ℕ) (k : Key) → IsKey top k → 1 ≤ k.level → IsKey top (right_of k)
right-key top k key low = part-key top (k.level - 1) k (right_of k) key (omega (arith, low)) refl (omega arith)

pub left-parent : (k : Key) → 1 ≤ k.level → parent_of (left_of k) ≡ k
left-parent k low = key-same (parent_of (left_of k)) k (omega (arith, low)) (omega arith)

pub right-parent : (k : Key) → 1 ≤ k.level → parent_of (right_of k) ≡ k
right-parent k low = key-same (parent_of (right_of k)) k (omega (arith, low)) (omega arith)

pub left-above : (k : Key) → 1 ≤ k.level → IsAtOrAbove k (left_of k)
left-above k low = subst (λ (w : Key). IsAtOrAbove w (left_of k)) (left-parent k low) (parent-above (left_of k))

pub right-above : (k : Key) → 1 ≤ k.level → IsAtOrAbove k (right_of k)
right-above k low = subst (λ (w : Key). IsAtOrAbove w (right_of k)) (right-parent k low) (parent-above (right_of k))

-- what is known of a key below a known one
pub known-under : Basis → (scene : Scene) (k p : Key) (o : Option (Option Span)) → parent_of k ≡ p → p.level ≤ peak scene
    → known_in scene p ≡ o
    → known_in scene k ≡ known_below k.index o (scene.told p)
known-under by scene k p o up high is =
    by.below scene.root scene.told (peak scene) k (omega (arith, high, ap (λ (b : Key). b.level) up))
    ∙ ap (λ (b : Key). known_below k.index (known_in scene b) (scene.told b)) up
    ∙ ap (λ (r : Option (Option Span)). known_below k.index r (scene.told p)) is

-- more coefficients show no less
pub seen-more : (scene : Scene) (more : Key → Option Coef) → IsToldBy scene.told more → (k : Key) (s : Span) → IsSeen scene k s
    → IsSeen (with_told scene more) k s
seen-more scene more tells k s seen = record {
  key = seen.key;
  span = known-more scene.root scene.told more tells (peak scene) k (Some s) seen.span;
}

-- the key above a seen one is seen, with a span that holds the other
pub seen-parent : Basis → (scene : Scene) (k : Key) (s : Span) → k.level < peak scene → IsSeen scene k s
    → (t : Span) × IsSeen scene (parent_of k) t × IsPart s t
seen-parent by scene k s low seen =
    let up = parent-seen by.join by.proper k.index (known_in scene (parent_of k)) (scene.told (parent_of k)) s
    (sym (by.below scene.root scene.told (peak scene) k low) ∙ seen.span) in
    (up.0, record { key = parent-key (peak scene) k seen.key low; span = up.1 }, up.2)

-- so are all keys above it
above-seen : Basis → (scene : Scene) (w : Key) → w.level ≤ peak scene → (fuel : ℕ) (k : Key) (s : Span) → w.level ≤ k.level + fuel
    → IsAtOrAbove w k
    → IsSeen scene k s → (t : Span) × IsSeen scene w t × IsPart s t
above-seen by scene w high zero k s few above seen =
    let same : k ≡ w = sym (level-same w k above (omega (arith, few))) in
    (s, subst (λ (b : Key). IsSeen scene b s) same seen, part-same s)
above-seen by scene w high (suc fuel) k s few above seen =
    elim (cases_lt k.level w.level) [
      | inr same ↦
          (let e : k ≡ w = sym (level-same w k above same) in
          (s, subst (λ (b : Key). IsSeen scene b s) e seen, part-same s))
      | inl low ↦
          (let p = seen-parent by scene k s (omega (arith, low, high)) seen in
          let r = above-seen by scene w high fuel (parent_of k) p.0 (omega (arith, few))
          (above-both w (parent_of k) k above (parent-above k) low) p.1 in
          (r.0, r.1, part-trans s p.0 r.0 p.2 r.2))
    ]

pub seen-above : Basis → (scene : Scene) (w k : Key) (s : Span) → w.level ≤ peak scene → IsAtOrAbove w k → IsSeen scene k s
    → (t : Span) × IsSeen scene w t × IsPart s t
seen-above by scene w k s high above seen = above-seen by scene w high w.level k s (omega arith) above seen

-- a key has one span
pub seen-one : (scene : Scene) (k : Key) (s t : Span) → IsSeen scene k s → IsSeen scene k t → s ≡ t
seen-one scene k s t a b = one-span (sym a.span ∙ b.span)

-- the ranges of two keys are apart, or they share a slot
pub ranges-apart : (w v : Key) → ((i : ℕ) × IsInRange w i × IsInRange v i) ⊎ ((end_slot w ≤ first_slot v) ⊎ (end_slot v ≤ first_slot w))
ranges-apart w v =
    elim (cases_lt (first_slot v) (end_slot w)) [
      | inr apart ↦ inr (inl apart)
      | inl a ↦ elim (cases_lt (first_slot w) (end_slot v)) [
        | inr apart ↦ inr (inr apart)
        | inl b ↦ elim (cases_lt (first_slot w) (first_slot v)) [
          | inl low ↦ inl (first_slot v, record { from = omega (arith, low); to = a }, first-in_range v)
          | inr low ↦ inl (first_slot w, first-in_range w, record { from = low; to = b })
        ]
      ]
    ]
