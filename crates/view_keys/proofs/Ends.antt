-- Stored slots: which key's range has one, and the first and the last of a kind.
use Rattle.std.proofs.Common.{ℕ, ℤ, zero, suc, ◌≡◌, ◌<◌, ◌≤◌, ◌⊎◌, inl, inr, List, length, Option, None, Some, IsSome, slice_get, refl, sym}
use Rattle.std.proofs.Common.{◌∙◌, subst, arith}
use Rattle.std.proofs.lemmas.Bool.{cases_lt, cases_eq}
use Rattle.std.proofs.lemmas.Option.{slice_get_within}
use Rattle.om3_coeff.specs.declared.key.Key.{Key}
use Rattle.om3_coeff.specs.declared.span.Span.{Span}
use Rattle.om3_coeff.specs.Keys.{first_slot, end_slot}
use Rattle.om3_coeff.specs.Spans.{Holds, IsSpanOf, span_over, span}
use Rattle.view_keys.specs.Ranges.{IsInRange}

-- slot i holds a value
abbrev pub IsStoredAt : List (Option ℤ) → ℕ → Type 0
IsStoredAt list i = (v : ℤ) × Holds list i v

stored-by : (list : List (Option ℤ)) (i : ℕ) (slot : Option (Option ℤ)) → slice_get list i ≡ slot
    → IsStoredAt list i ⊎ (IsStoredAt list i → ⊥)
stored-by list i (Some (Some v)) is = inl (v, is)
stored-by list i (Some None) is = inr (λ (h : IsStoredAt list i). absurd (other (sym is ∙ h.1)))
  where
    other : {v : ℤ} → Some None ≡ Some (Some v) → ⊥
    other h = cc
stored-by list i None is = inr (λ (h : IsStoredAt list i). absurd (none (sym is ∙ h.1)))
  where
    none : {v : ℤ} → None ≡ Some (Some v) → ⊥
    none h = cc

pub stored-cases : (list : List (Option ℤ)) (i : ℕ) → IsStoredAt list i ⊎ (IsStoredAt list i → ⊥)
stored-cases list i = stored-by list i (slice_get list i) refl

-- the span of a key is there where a slot of its range is stored
abbrev pub Extremes : List (Option ℤ) → Type 0
Extremes list = (a b : ℕ) → IsSpanOf list a b (span_over list a b)

some-by : (list : List (Option ℤ)) (a b i : ℕ) (s : Option Span) → IsSpanOf list a b s → a ≤ i → i < b → IsStoredAt list i → IsSome s
some-by list a b i None is low high h = absurd (is i h.0 low high h.1)
some-by list a b i (Some s) is low high h = refl

pub stored-some : (list : List (Option ℤ)) (k : Key) (i : ℕ) → Extremes list → IsInRange k i → IsStoredAt list i → IsSome (span list k)
stored-some list k i extremes r h =
    some-by list (first_slot k) (end_slot k) i (span list k) (extremes (first_slot k) (end_slot k)) r.from r.to h

stored-in : (list : List (Option ℤ)) (k : Key) (s : Option Span) → IsSpanOf list (first_slot k) (end_slot k) s → IsSome s
    → (i : ℕ) × IsInRange k i × IsStoredAt list i
stored-in list k None is some = absurd (grind (arith, some))
stored-in list k (Some s) is some =
    (is.least.slot, record { from = is.least.low; to = is.least.high }, (s.min, is.least.holds))

pub some-stored : (list : List (Option ℤ)) (k : Key) → Extremes list → IsSome (span list k) → (i : ℕ) × IsInRange k i × IsStoredAt list i
some-stored list k extremes some = stored-in list k (span list k) (extremes (first_slot k) (end_slot k)) some

below-suc : (i n : ℕ) → i < suc n → (i ≡ n → ⊥) → i < n
below-suc i n h other = elim (cases_lt i n) [
  | inl low ↦ low
  | inr high ↦ absurd (other (omega (arith, h, high)))
]

-- the least number of a kind below n, or none
abbrev pub IsLeast : (ℕ → Type 0) → ℕ → Type 0
IsLeast P i = P i × ((j : ℕ) → j < i → P j → ⊥)

pub least : (P : ℕ → Type 0) → ((i : ℕ) → P i ⊎ (P i → ⊥)) → (n : ℕ)
    → ((i : ℕ) × (i < n) × IsLeast P i) ⊎ ((i : ℕ) → i < n → P i → ⊥)
least P cases zero = inr (λ i h p. absurd (omega (arith, h)))
least P cases (suc n) =
    elim (least P cases n) [
      | inl found ↦ inl (found.0, omega (arith, found.1), found.2)
      | inr none ↦ elim (cases n) [
        | inl here ↦ inl (n, omega arith, (here, none))
        | inr not ↦ inr (λ i h p. elim (cases_eq i n) [
          | inl same ↦ not (subst P same p)
          | inr other ↦ none i (below-suc i n h other) p
        ])
      ]
    ]

-- the greatest number of a kind below n, or none
abbrev pub IsGreatest : (ℕ → Type 0) → ℕ → ℕ → Type 0
IsGreatest P n i = P i × ((j : ℕ) → i < j → j < n → P j → ⊥)

pub greatest : (P : ℕ → Type 0) → ((i : ℕ) → P i ⊎ (P i → ⊥)) → (n : ℕ)
    → ((i : ℕ) × (i < n) × IsGreatest P n i) ⊎ ((i : ℕ) → i < n → P i → ⊥)
greatest P cases zero = inr (λ i h p. absurd (omega (arith, h)))
greatest P cases (suc n) =
    elim (cases n) [
      | inl here ↦ inl (n, omega arith, (here, λ j low high p. absurd (omega (arith, low, high))))
      | inr not ↦ elim (greatest P cases n) [
        | inl found ↦ inl (
          found.0,
          omega (arith, found.1),
          (
            found.2.0,
            λ j low high p. elim (cases_eq j n) [
              | inl same ↦ not (subst P same p)
              | inr other ↦ found.2.1 j low (below-suc j n high other) p
            ],
          ),
        )
        | inr none ↦ inr (λ i h p. elim (cases_eq i n) [
          | inl same ↦ not (subst P same p)
          | inr other ↦ none i (below-suc i n h other) p
        ])
      ]
    ]

-- a stored slot lies below the list's end
pub stored-within : (list : List (Option ℤ)) (i : ℕ) → IsStoredAt list i → i < length list
stored-within list i h = slice_get_within list i (Some h.0) h.1
