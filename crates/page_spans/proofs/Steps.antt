-- The spans of a page after one step.
use Rattle.std.proofs.Common.{ℕ, zero, suc, ◌≡◌, ◌≢◌, ◌+◌, ◌-◌, ◌*◌, ◌/◌, ◌%◌, ◌<◌, ◌≤◌, ◌⊎◌, inl, inr, List, length, slice_set, replicate}
use Rattle.std.proofs.Common.{sym, ◌∙◌, ap₂, subst, refl, arith}
use Rattle.std.proofs.lemmas.Bool.{cases_lt, cases_eq}
use Rattle.std.proofs.lemmas.List.{get_or-set_other}
use Rattle.std.proofs.lemmas.Grind.{get_or-set_at}
use Rattle.std.specs.Prelude.{Option, None}
use Rattle.om3_coeff.specs.declared.span.Span.{Span}
use Rattle.om3_coeff.specs.declared.coef.Coef.{Coef}
use Rattle.om3_coeff.specs.Spans.{IsProperIfAny, hull}
use Rattle.om3_coeff.specs.Coefs.{coef_of}
use Rattle.page_spans.specs.Heaps.{span_at, AreProper, HasHalves, IsSplit, IsJoined, IsHeap, AllButAbove, IsKept}
use Rattle.page_spans.specs.Failing.{IsUnsplit, IsFirstBad}

-- no span at any place
pub none_at : (m n : ℕ) → span_at (replicate m None) n ≡ None
none_at zero n = refl
none_at (suc m) zero = refl
none_at (suc m) (suc n) = none_at m n

-- a span that was set is proper, as all others are
pub proper_set : (spans : List (Option Span)) (i : ℕ) (s : Option Span) → i < length spans → AreProper (span_at spans) → IsProperIfAny s
    → AreProper (span_at (slice_set spans i s))
proper_set spans i s within all one = λ n few.
    elim (cases_eq n i) [
      | inl same ↦ subst IsProperIfAny (sym (get_or-set_at spans i n s None same within)) one
      | inr other ↦ subst IsProperIfAny (sym (get_or-set_other spans i n s None other)) (all n few)
    ]

-- all spans but those of a node's halves are the same
abbrev pub OthersStay : (ℕ → Option Span) → (ℕ → Option Span) → ℕ → Type 0
OthersStay old new i = (n : ℕ) → n ≢ 2 * i + 1 → n ≢ 2 * i + 2 → new n ≡ old n

halves_same : (s s' l l' r r' : Option Span) (c c' : Coef) → s' ≡ s → l' ≡ l → r' ≡ r → c ≡ c' → HasHalves s c l r → HasHalves s' c' l' r'
halves_same s s' l l' r r' c c' es el er ec h =
    let P : Option Span → Type 0 = λ x. HasHalves x c' l' r' in
    let Q : Option Span → Type 0 = λ x. HasHalves s c' x r' in
    let R : Option Span → Type 0 = λ x. HasHalves s c' l x in
    let S : Coef → Type 0 = λ x. HasHalves s x l r in
    subst P (sym es) (subst Q (sym el) (subst R (sym er) (subst S ec h)))

split_stays : (old new : ℕ → Option Span) (coefs : ℕ → Coef) (i n : ℕ) → n < i → OthersStay old new i → IsSplit old coefs n
    → IsSplit new coefs n
split_stays old new coefs i n less others h =
    halves_same (old n) (new n) (old (2 * n + 1)) (new (2 * n + 1)) (old (2 * n + 2)) (new (2 * n + 2)) (coefs n) (coefs n)
    (others n (omega arith) (omega arith)) (others (2 * n + 1) (omega arith) (omega arith))
    (others (2 * n + 2) (omega arith) (omega arith)) refl h

split_here : (old new : ℕ → Option Span) (coefs : ℕ → Coef) (c : Coef) (i : ℕ) → OthersStay old new i → c ≡ coefs i
    → HasHalves (old i) c (new (2 * i + 1)) (new (2 * i + 2)) → IsSplit new coefs i
split_here old new coefs c i others is h =
    halves_same (old i) (new i) (new (2 * i + 1)) (new (2 * i + 1)) (new (2 * i + 2)) (new (2 * i + 2)) c (coefs i)
    (others i (omega arith) (omega arith)) refl refl is h

-- one node more is split
pub splits_more : (old new : ℕ → Option Span) (coefs : ℕ → Coef) (c : Coef) (i : ℕ) → ((n : ℕ) → n < i → IsSplit old coefs n)
    → OthersStay old new i → c ≡ coefs i
    → HasHalves (old i) c (new (2 * i + 1)) (new (2 * i + 2)) → (n : ℕ) → n < i + 1 → IsSplit new coefs n
splits_more old new coefs c i before others is h = λ n few.
    elim (cases_lt n i) [
      | inl less ↦ split_stays old new coefs i n less others (before n less)
      | inr more ↦
          let same : n ≡ i = omega arith in
          subst (IsSplit new coefs) (sym same) (split_here old new coefs c i others is h)
    ]

-- the node is the first one that can't be split
pub first_bad : (old new : ℕ → Option Span) (coefs : ℕ → Coef) (c : Coef) (i : ℕ) → i < 127 → ((n : ℕ) → n < i → IsSplit old coefs n)
    → OthersStay old new i → c ≡ coefs i
    → IsUnsplit (old i) c → IsFirstBad new coefs i
first_bad old new coefs c i few before others is none =
    let P : Option Span → Type 0 = λ s. IsUnsplit s (coefs i) in
    let Q : Coef → Type 0 = λ c. IsUnsplit (old i) c in
    record {
      within = few;
      above = λ n less. split_stays old new coefs i n less others (before n less);
      none = subst P (sym (others i (omega arith) (omega arith))) (subst Q is none);
    }

-- one node more is joined
pub joins_more : (old new : ℕ → Option Span) (before after : ℕ → Coef) (i : ℕ) → ((n : ℕ) → i + 1 ≤ n → n < 127 → IsJoined old before n)
    → new i ≡ hull (old (2 * i + 1)) (old (2 * i + 2)) → after i ≡ coef_of (old (2 * i + 1)) (old (2 * i + 2))
    → ((n : ℕ) → n ≢ i → new n ≡ old n) → ((n : ℕ) → n < 127 → n ≢ i → after n ≡ before n)
    → (n : ℕ) → i ≤ n → n < 127 → IsJoined new after n
joins_more old new before after i lower span coef others coefs = λ n from few.
    let left : new (2 * n + 1) ≡ old (2 * n + 1) = others (2 * n + 1) (omega arith) in
    let right : new (2 * n + 2) ≡ old (2 * n + 2) = others (2 * n + 2) (omega arith) in
    elim (cases_eq n i) [
      | inl same ↦
          let s : new n ≡ hull (old (2 * n + 1)) (old (2 * n + 2)) =
          subst (λ (n : ℕ). new n ≡ hull (old (2 * n + 1)) (old (2 * n + 2))) (sym same) span in
          let c : after n ≡ coef_of (old (2 * n + 1)) (old (2 * n + 2)) =
          subst (λ (n : ℕ). after n ≡ coef_of (old (2 * n + 1)) (old (2 * n + 2))) (sym same) coef in
          record { span = s ∙ sym (ap₂ hull left right); coef = c ∙ sym (ap₂ coef_of left right) }
      | inr other ↦
          let h : IsJoined old before n = lower n (omega (arith, from, other)) few in
          record {
            span = others n other ∙ h.span ∙ sym (ap₂ hull left right);
            coef = coefs n few other ∙ h.coef ∙ sym (ap₂ coef_of left right);
          }
    ]

-- a place is the left or the right half of the one above it
pub halved : (n : ℕ) → 0 < n → (n ≡ 2 * ((n - 1) / 2) + 1) ⊎ (n ≡ 2 * ((n - 1) / 2) + 2)
halved n some = elim (cases_eq (n % 2) 0) [ inl even ↦ inr (omega (arith, even, some)) | inr odd ↦ inl (omega (arith, odd, some)) ]

one_above : (place n i : ℕ) → (place ≡ 2 * n + 1) ⊎ (place ≡ 2 * n + 2) → (place ≡ 2 * i + 1) ⊎ (place ≡ 2 * i + 2) → n ≡ i
one_above place n i a b = omega (arith, a, b)

-- a node was joined: now all are but the one above it
pub joins_above : (old new : ℕ → Option Span) (before after : ℕ → Coef) (place i : ℕ) → AllButAbove old before place
    → (place ≡ 2 * i + 1) ⊎ (place ≡ 2 * i + 2)
    → new i ≡ hull (old (2 * i + 1)) (old (2 * i + 2)) → after i ≡ coef_of (old (2 * i + 1)) (old (2 * i + 2))
    → ((n : ℕ) → n ≢ i → new n ≡ old n) → ((n : ℕ) → n < 127 → n ≢ i → after n ≡ before n) → AllButAbove new after i
joins_above old new before after place i rest half span coef others coefs = λ n few no_left no_right.
    let left : new (2 * n + 1) ≡ old (2 * n + 1) = others (2 * n + 1) (λ e. no_left (sym e)) in
    let right : new (2 * n + 2) ≡ old (2 * n + 2) = others (2 * n + 2) (λ e. no_right (sym e)) in
    elim (cases_eq n i) [
      | inl same ↦
          let s : new n ≡ hull (old (2 * n + 1)) (old (2 * n + 2)) =
          subst (λ (n : ℕ). new n ≡ hull (old (2 * n + 1)) (old (2 * n + 2))) (sym same) span in
          let c : after n ≡ coef_of (old (2 * n + 1)) (old (2 * n + 2)) =
          subst (λ (n : ℕ). after n ≡ coef_of (old (2 * n + 1)) (old (2 * n + 2))) (sym same) coef in
          record { span = s ∙ sym (ap₂ hull left right); coef = c ∙ sym (ap₂ coef_of left right) }
      | inr other ↦
          let h : IsJoined old before n = rest n few (λ e. other (one_above place n i (inl e) half))
          (λ e. other (one_above place n i (inr e) half)) in
          record {
            span = others n other ∙ h.span ∙ sym (ap₂ hull left right);
            coef = coefs n few other ∙ h.coef ∙ sym (ap₂ coef_of left right);
          }
    ]

-- a leaf was set: all nodes are joined but the one above it
pub leaf_set : (old new : ℕ → Option Span) (coefs : ℕ → Coef) (leaf : ℕ) → IsHeap old coefs → 127 ≤ leaf
    → ((n : ℕ) → n ≢ leaf → new n ≡ old n) → AllButAbove new coefs leaf
leaf_set old new coefs leaf heap low others = λ n few no_left no_right.
    let left : new (2 * n + 1) ≡ old (2 * n + 1) = others (2 * n + 1) (λ e. no_left (sym e)) in
    let right : new (2 * n + 2) ≡ old (2 * n + 2) = others (2 * n + 2) (λ e. no_right (sym e)) in
    let h : IsJoined old coefs n = heap n few in
    record { span = others n (omega arith) ∙ h.span ∙ sym (ap₂ hull left right); coef = h.coef ∙ sym (ap₂ coef_of left right) }

pub kept_on : (a b c : List ℕ) → IsKept a b → IsKept b c → IsKept a c
kept_on a b c first next = record {
  children = λ n few. next.children n few ∙ first.children n few;
  spare = λ b from to. next.spare b from to ∙ first.spare b from to;
  rest = λ k off. next.rest k off ∙ first.rest k off;
}
