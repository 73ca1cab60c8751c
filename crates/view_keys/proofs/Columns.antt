-- The slots of a column lie next to one another, so a key's range is within them or cut.
use Rattle.std.proofs.Common.{ℕ, ℤ, ◌-◌, ◌≤◌, ◌≤ℤ◌, ◌<ℤ◌, ◌⊎◌, inl, inr, arith}
use Rattle.std.proofs.lemmas.Int.{ints, by_lt_z}
use Rattle.std.proofs.lemmas.Bool.{cases_lt, cases_eq}
use Rattle.std.proofs.Math.Nat.{mul-le-mul_right}
use Rattle.chart_grid.specs.declared.axis.Axis.{Axis}
use Rattle.chart_grid.specs.declared.grid.Grid.{Grid}
use Rattle.chart_grid.specs.Projection.{InWindow, column}
use Rattle.chart_grid.specs.Slots.{slot_time, IsInColumn}
use Rattle.om3_coeff.specs.declared.key.Key.{Key}
use Rattle.om3_coeff.specs.Keys.{first_slot, end_slot}
use Rattle.view_keys.specs.Ranges.{IsInRange, IsWithin, IsCut}

-- a later time of the window has no lower column
abbrev pub Rise : Type 0
Rise = (g : Grid) (s t : ℤ) → InWindow g s → InWindow g t → s ≤ℤ t → column g s ≤ column g t

-- one number isn't above another, or is
int_cases : (a b : ℤ) → (a ≤ℤ b) ⊎ (b <ℤ a)
int_cases a b = by_lt_z b a inr inl

pub time-rises : (axis : Axis) (i j : ℕ) → i ≤ j → slot_time axis i ≤ℤ slot_time axis j
time-rises axis i j low = omega (arith, ints, mul-le-mul_right axis.step low)

-- a slot is a slot of the column, or isn't
pub in_column-cases : (axis : Axis) (grid : Grid) (c i : ℕ) → IsInColumn axis grid c i ⊎ (IsInColumn axis grid c i → ⊥)
in_column-cases axis grid c i =
    elim (cases_lt i axis.slots) [
      | inr past ↦ inr (λ (h : IsInColumn axis grid c i). absurd (omega (arith, past, h.slot)))
      | inl slot ↦ elim (int_cases grid.t0 (slot_time axis i)) [
        | inr early ↦ inr (λ (h : IsInColumn axis grid c i). absurd (omega (arith, ints, early, h.shown.from)))
        | inl from ↦ elim (int_cases grid.t1 (slot_time axis i)) [
          | inl late ↦ inr (λ (h : IsInColumn axis grid c i). absurd (omega (arith, ints, late, h.shown.to)))
          | inr to ↦ elim (cases_eq (column grid (slot_time axis i)) c) [
            | inl place ↦ inl (record { slot = slot; shown = record { from = from; to = to }; place = place })
            | inr other ↦ inr (λ (h : IsInColumn axis grid c i). other h.place)
          ]
        ]
      ]
    ]

-- what lies between two slots of a column is one
pub between : Rise → (axis : Axis) (grid : Grid) (c a i b : ℕ) → a ≤ i → i ≤ b
    → IsInColumn axis grid c a → IsInColumn axis grid c b → IsInColumn axis grid c i
between rise axis grid c a i b low high from to =
    let early : slot_time axis a ≤ℤ slot_time axis i = time-rises axis a i low in
    let late : slot_time axis i ≤ℤ slot_time axis b = time-rises axis i b high in
    let shown : InWindow grid (slot_time axis i) = record {
      from = omega (arith, ints, early, from.shown.from);
      to = omega (arith, ints, late, to.shown.to);
    } in
    record {
      slot = omega (arith, high, to.slot);
      shown = shown;
      place = omega (
        arith,
        rise grid (slot_time axis a) (slot_time axis i) from.shown shown early,
        rise grid (slot_time axis i) (slot_time axis b) shown to.shown late,
        from.place,
        to.place,
      );
    }

-- a key whose range has a slot of a column is within the column's slots, or is cut
pub within-or-cut : Rise → (axis : Axis) (grid : Grid) (c : ℕ) (k : Key) (i : ℕ) → IsInRange k i → IsInColumn axis grid c i
    → IsWithin axis grid c k ⊎ IsCut axis grid c k
within-or-cut rise axis grid c k i r here =
    let first : IsInRange k (first_slot k) = record { from = omega arith; to = omega (arith, r.from, r.to) } in
    let last : IsInRange k (end_slot k - 1) = record { from = omega (arith, r.from, r.to); to = omega (arith, r.from, r.to) } in
    elim (in_column-cases axis grid c (first_slot k)) [
      | inr out ↦ inr (record { slot = i; in_range = r; in_column = here; other = first_slot k; other_in_range = first; outside = out })
      | inl from ↦ elim (in_column-cases axis grid c (end_slot k - 1)) [
        | inr out ↦ inr (record { slot = i; in_range = r; in_column = here; other = end_slot k - 1; other_in_range = last; outside = out })
        | inl to ↦ inl (λ j h. between rise axis grid c (first_slot k) j (end_slot k - 1) h.from (omega (arith, h.to)) from to)
      ]
    ]
