-- Below a key that is seen, and whose coefficient can't be used, nothing is known.
use Rattle.std.proofs.Common.{ℕ, zero, suc, ◌≡◌, ◌+◌, ◌-◌, ◌/◌, ◌^◌, ◌<◌, inl, inr, sym, ◌∙◌, ap, ap₂, arith}
use Rattle.std.proofs.lemmas.Bool.{cases_lt}
use Rattle.std.proofs.lemmas.Nat.{shr-shr}
use Rattle.std.specs.Prelude.{Option, Some, None}
use Rattle.std.specs.Option.{option_map}
use Rattle.om3_coeff.specs.declared.key.Key.{Key}
use Rattle.om3_coeff.specs.declared.span.Span.{Span}
use Rattle.om3_coeff.specs.declared.coef.Coef.{Coef}
use Rattle.om3_coeff.specs.Keys.{parent_of, height, IsAtOrAbove}
use Rattle.om3_coeff.specs.Known.{half, known_below, known}
use Rattle.om3_coeff.proofs.KeyLemmas.{same_key}
use Rattle.om3_coeff.proofs.KnownLemmas.{known_step}
use Rattle.view_keys.specs.Ranges.{IsInRange}
use Rattle.view_keys.specs.Wanted.{Seen}
use Rattle.view_keys.proofs.Ranging.{slot_key, slot_key-in_range, shared-above, in_range-index}
use Rattle.chart_client.specs.Searching.{IsFailing, IsClearAt}

-- what the root and the told coefficients show of a key
abbrev pub shown : Seen → ℕ → Key → Option (Option Span)
shown seen slots k = known seen.root seen.told (height slots) k

below_fails : (seen : Seen) (slots : ℕ) (f : Key) → IsFailing seen slots f → (index : ℕ)
    → known_below index (shown seen slots f) (seen.told f) ≡ None
below_fails seen slots f h index = elim h.fails [
  | inl missing ↦ ap₂ (λ (a : Option (Option Span)) (b : Option Coef). known_below index a b) h.known_so missing
  | inr m ↦ ap₂ (λ (a : Option (Option Span)) (b : Option Coef). known_below index a b) m.known_so m.told
      ∙ ap (λ (p : Option (Option Span × Option Span)). option_map (half index) p) m.splits_not
]

unknown_from : (seen : Seen) (slots : ℕ) (f : Key) → IsFailing seen slots f → (gap : ℕ) (k : Key)
    → f.level ≡ k.level + suc gap → k.index / 2 ^ suc gap ≡ f.index → shown seen slots k ≡ None
unknown_from seen slots f h zero k levels place =
    let low : k.level < height slots = omega (arith, levels, h.node.high) in
    let above : parent_of k ≡ f = same_key (parent_of k) f (omega (arith, levels)) place in
    known_step seen.root seen.told (height slots) k low
    ∙ ap (λ (p : Key). known_below k.index (shown seen slots p) (seen.told p)) above
    ∙ below_fails seen slots f h k.index
unknown_from seen slots f h (suc gap) k levels place =
    let low : k.level < height slots = omega (arith, levels, h.node.high) in
    let widths : k.index / 2 / 2 ^ suc gap ≡ k.index / 2 ^ suc (suc gap) =
    shr-shr k.index 1 (suc gap) ∙ ap (λ n. k.index / 2 ^ n) (omega arith) in
    let rest : shown seen slots (parent_of k) ≡ None =
    unknown_from seen slots f h gap (parent_of k) (omega (arith, levels)) (widths ∙ place) in
    known_step seen.root seen.told (height slots) k low
    ∙ ap (λ (p : Option (Option Span)). known_below k.index p (seen.told (parent_of k))) rest

-- nothing is known of a key below one that fails
pub unknown_below : (seen : Seen) (slots : ℕ) (f k : Key) → IsFailing seen slots f → k.level < f.level → IsAtOrAbove f k
    → shown seen slots k ≡ None
unknown_below seen slots f k h lower above =
    let gap : f.level - k.level ≡ suc (f.level - k.level - 1) = omega (arith, lower) in
    unknown_from seen slots f h (f.level - k.level - 1) k (omega (arith, lower)) (ap (λ n. k.index / 2 ^ n) (sym gap) ∙ above.holds)

-- nor of a slot in its range
pub unknown_slot : (seen : Seen) (slots : ℕ) (f : Key) (i : ℕ) → IsFailing seen slots f → IsInRange f i
    → shown seen slots (slot_key i) ≡ None
unknown_slot seen slots f i h r =
    unknown_below seen slots f (slot_key i) h (omega (arith, h.node.low))
    (shared-above f (slot_key i) i (omega arith) r (slot_key-in_range i))

pub not_clear : (seen : Seen) (slots : ℕ) (f : Key) (i : ℕ) → IsFailing seen slots f → IsInRange f i → IsClearAt seen slots i → ⊥
not_clear seen slots f i h r clear =
    let e : ◌≡◌ {A = Option (Option Span)} None (Some None) = sym (unknown_slot seen slots f i h r) ∙ clear in cc

unseen : (s : Span) → ◌≡◌ {A = Option (Option Span)} None (Some (Some s)) → ⊥
unseen s e = cc

pub not_known : (seen : Seen) (slots : ℕ) (f : Key) (i : ℕ) (s : Span) → IsFailing seen slots f → IsInRange f i
    → shown seen slots (slot_key i) ≡ Some (Some s) → ⊥
not_known seen slots f i s h r is = unseen s (sym (unknown_slot seen slots f i h r) ∙ is)

not_lower : (seen : Seen) (slots : ℕ) (f k : Key) (i : ℕ) → IsFailing seen slots f → IsFailing seen slots k → IsInRange f i → IsInRange k i
    → k.level < f.level → ⊥
not_lower seen slots f k i hf hk rf rk lower =
    unseen hk.span (sym (unknown_below seen slots f k hf lower (shared-above f k i (omega (arith, lower)) rf rk)) ∙ hk.known_so)

-- two keys that fail and share a slot are the same
pub same_failing : (seen : Seen) (slots : ℕ) (f k : Key) (i : ℕ) → IsFailing seen slots f → IsFailing seen slots k → IsInRange f i
    → IsInRange k i → f ≡ k
same_failing seen slots f k i hf hk rf rk =
    elim (cases_lt k.level f.level) [
      | inl lower ↦ absurd (not_lower seen slots f k i hf hk rf rk lower)
      | inr high ↦ elim (cases_lt f.level k.level) [
        | inl lower ↦ absurd (not_lower seen slots k f i hk hf rk rf lower)
        | inr low ↦
            (let levels : f.level ≡ k.level = omega (arith, high, low) in
            same_key f k levels (sym (in_range-index f i rf) ∙ ap (λ n. i / 2 ^ n) levels ∙ in_range-index k i rk))
      ]
    ]
