-- The first and the last stored slot of a range.
use Rattle.std.proofs.Common.{ℕ, ℤ, ◌+◌, ◌<◌, ◌≤◌, ◌⊎◌, inl, inr, List, arith}
use Rattle.std.specs.Prelude.{Option}
use Rattle.om3_coeff.specs.Spans.{Holds, IsClear}
use Rattle.om3_coeff.proofs.KeyLemmas.{by_lt}
use Rattle.view_keys.proofs.Ends.{stored-cases, least, greatest}

-- slot i lies at or behind slot a, and is stored
record IsStoredFrom (list : List (Option ℤ)) (a i : ℕ) : Type 0 where
  from : a ≤ i
  value : ℤ
  holds : Holds list i value

stored_cases : (list : List (Option ℤ)) (a i : ℕ) → IsStoredFrom list a i ⊎ (IsStoredFrom list a i → ⊥)
stored_cases list a i =
    by_lt i a
    (λ less. inr (λ h. absurd (omega (arith, h.from, less))))
    (λ from. elim (stored-cases list i) [
      | inl h ↦ inl (record { from = from; value = h.0; holds = h.1 })
      | inr none ↦ inr (λ h. none (h.value, h.holds))
    ])

pub record FirstStored (list : List (Option ℤ)) (a b : ℕ) : Type 0 where
  pub slot : ℕ
  pub from : a ≤ slot
  pub to : slot < b
  pub value : ℤ
  pub holds : Holds list slot value
  pub clear : IsClear list a slot

pub record LastStored (list : List (Option ℤ)) (a b : ℕ) : Type 0 where
  pub slot : ℕ
  pub from : a ≤ slot
  pub to : slot < b
  pub value : ℤ
  pub holds : Holds list slot value
  pub clear : IsClear list (slot + 1) b

-- a range with a stored slot has a first one, and a last one
pub first_stored : (list : List (Option ℤ)) (a b i : ℕ) (v : ℤ) → a ≤ i → i < b → Holds list i v → FirstStored list a b
first_stored list a b i v from to holds =
    elim (least (IsStoredFrom list a) (stored_cases list a) b) [
      | inl found ↦ record {
        slot = found.0;
        from = found.2.0.from;
        to = found.1;
        value = found.2.0.value;
        holds = found.2.0.holds;
        clear = λ j x low high there. found.2.1 j high (record { from = low; value = x; holds = there });
      }
      | inr none ↦ absurd (none i to (record { from = from; value = v; holds = holds }))
    ]

pub last_stored : (list : List (Option ℤ)) (a b i : ℕ) (v : ℤ) → a ≤ i → i < b → Holds list i v → LastStored list a b
last_stored list a b i v from to holds =
    elim (greatest (IsStoredFrom list a) (stored_cases list a) b) [
      | inl found ↦ record {
        slot = found.0;
        from = found.2.0.from;
        to = found.1;
        value = found.2.0.value;
        holds = found.2.0.holds;
        clear = λ j x low high there.
            found.2.1 j (omega (arith, low)) high (record { from = omega (arith, low, found.2.0.from); value = x; holds = there });
      }
      | inr none ↦ absurd (none i to (record { from = from; value = v; holds = holds }))
    ]
