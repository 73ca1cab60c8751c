-- What an edit makes of the slots of a series is what a change makes of those of its tree.
use Rattle.std.proofs.Common.{◌≡◌, ℕ, ℤ, zero, suc, ◌+◌, ◌-◌, ◌<◌, ◌≤◌, ◌⊎◌, max, min, List, [], ◌∷◌, ◌++◌, length, take, drop, replicate}
use Rattle.std.proofs.Common.{set, slice_get, get_or, Option, None, Some, All, IsSome, false, unsigned_abs, refl, sym, ap, subst, ◌∙◌}
use Rattle.std.proofs.Common.{arith, inl, inr}
use Rattle.std.proofs.lemmas.Bool.{cases_lt, ltb-false}
use Rattle.std.proofs.lemmas.List.{places, take_all, drop_all, take-append-drop, append-nil, get_or_past, length-append, length-take}
use Rattle.std.proofs.lemmas.List.{length-drop, length-replicate}
use Rattle.std.proofs.lemmas.Option.{slice_get_within, slice_get-get_or, get_or_from_slice_get}
use Rattle.om3_coeff.specs.Spans.{AreSlots}
use Rattle.path_repair.specs.Changes.{value_of, slot_at, given, IsEdited}
use Rattle.path_repair.proofs.StayLemmas.{slot_before, slot_behind, slot_in}
use Rattle.whole_number.specs.declared.limits.TheConstants.{GREATEST_VALUE}
use Rattle.series_book.specs.declared.one_series.Series.{Series}
use Rattle.series_book.specs.Edits.{is_too_large, overwritten, cleared, with_slots}
use Rattle.series_book.proofs.LawLemmas.{overwritten_values, cleared_values}
use Rattle.series_book.proofs.SlotLemmas.{length-overwritten}

slot_get : (list : List (Option ℤ)) (i : ℕ) → slot_at list i ≡ get_or list i None
unfolding slot_at
slot_get [] i = refl
slot_get (x ∷ list) zero = by_value x
  where
    by_value : (x : Option ℤ) → value_of (Some x) ≡ x
    by_value x = refl
slot_get (x ∷ list) (suc i) = slot_get list i

-- values that aren't too large are values of slots
pub are_values : (list : List (Option ℤ)) → All (λ value. is_too_large value ≡ false) list → AreSlots list
are_values list fit i v holds =
    let P : Option ℤ → Type 0 = λ value. is_too_large value ≡ false in
    let here : is_too_large (Some v) ≡ false = subst P (get_or_from_slice_get list i (Some v) None holds)
    (fit i None (slice_get_within list i (Some v) holds)) in
    ltb-false GREATEST_VALUE (unsigned_abs v) here

overwritten_front : (slots run : List (Option ℤ)) (place i : ℕ) → i < place
    → get_or (overwritten slots place run) i None ≡ get_or slots i None
unfolding overwritten
overwritten_front slots run place i before = grind (arith, places)

overwritten_within : (slots run : List (Option ℤ)) (place i : ℕ) → place ≤ i → i < place + length run
    → get_or (overwritten slots place run) i None ≡ get_or run (i - place) None
unfolding overwritten
overwritten_within slots run place i from to = grind (arith, places)

overwritten_behind : (slots run : List (Option ℤ)) (place i : ℕ) → place + length run ≤ i
    → get_or (overwritten slots place run) i None ≡ get_or slots i None
unfolding overwritten
overwritten_behind slots run place i behind = grind (arith, places)

-- a value that is there is written, and a missing one leaves nothing where nothing was
written : (value old : Option ℤ) → (value ≡ None → old ≡ None) → given (Some value) old ≡ value
written None old none = none refl
written (Some v) old none = refl

some_is : (value : Option ℤ) → IsSome value → value ≡ None → ⊥
some_is None is none = cc
some_is (Some v) is none = cc

pub overwritten_edited : (slots run : List (Option ℤ)) (place : ℕ) → All (λ value. is_too_large value ≡ false) slots
    → All (λ value. is_too_large value ≡ false) run → ((place ≡ length slots) ⊎ All (λ value. IsSome value) run)
    → IsEdited place (place + length run) (max (length slots) (place + length run)) run slots (overwritten slots place run)
overwritten_edited slots run place old new whole =
    let list : List (Option ℤ) = overwritten slots place run in
    let held : (i : ℕ) → place ≤ i → i < place + length run → get_or run (i - place) None ≡ None → slot_at slots i ≡ None =
    λ i from to none. elim whole [
      | inl end ↦ slot_get slots i ∙ get_or_past slots i None (omega (arith, end, from))
      | inr some ↦ absurd (some_is (get_or run (i - place) None) (some (i - place) None (omega (arith, from, to))) none)
    ] in
    record {
      old_values = are_values slots old;
      new_values = are_values list (overwritten_values slots run place old new);
      length_is = length-overwritten slots run place;
      slots_are = λ i. slot_get list i ∙ elim (cases_lt i place) [
        | inl before ↦ overwritten_front slots run place i before ∙ sym (slot_get slots i)
            ∙ sym (slot_before place (place + length run) run i (slot_at slots i) before)
        | inr from ↦ elim (cases_lt i (place + length run)) [
          | inl to ↦
              overwritten_within slots run place i from to
              ∙ sym (written (get_or run (i - place) None) (slot_at slots i) (held i from to))
              ∙ ap (λ (x : Option (Option ℤ)). given x (slot_at slots i))
              (sym (slice_get-get_or run (i - place) None (omega (arith, from, to))))
              ∙ sym (slot_in place (place + length run) run i (slot_at slots i) from to)
          | inr behind ↦ overwritten_behind slots run place i behind ∙ sym (slot_get slots i)
              ∙ sym (slot_behind place (place + length run) run i (slot_at slots i) from behind)
        ]
      ];
    }

cleared_front : (slots : List (Option ℤ)) (place count i : ℕ) → place + count ≤ length slots → i < place
    → get_or (cleared slots place count) i None ≡ get_or slots i None
unfolding cleared
cleared_front slots place count i room before = grind (arith, places)

cleared_within : (slots : List (Option ℤ)) (place count i : ℕ) → place + count ≤ length slots → place ≤ i → i < place + count
    → get_or (cleared slots place count) i None ≡ None
unfolding cleared
cleared_within slots place count i room from to = grind (arith, places)

cleared_behind : (slots : List (Option ℤ)) (place count i : ℕ) → place + count ≤ length slots → place + count ≤ i
    → get_or (cleared slots place count) i None ≡ get_or slots i None
unfolding cleared
cleared_behind slots place count i room behind = grind (arith, places)

pub length-cleared : (slots : List (Option ℤ)) (place count : ℕ) → place + count ≤ length slots
    → length (cleared slots place count) ≡ length slots
unfolding cleared
length-cleared slots place count room = omega (
  arith,
  room,
  length-append {A = Option ℤ},
  length-take {A = Option ℤ},
  length-drop {A = Option ℤ},
  length-replicate {A = Option ℤ},
)

pub cleared_edited : (slots : List (Option ℤ)) (place count : ℕ) → All (λ value. is_too_large value ≡ false) slots
    → place + count ≤ length slots → IsEdited place (place + count) (length slots) [] slots (cleared slots place count)
cleared_edited slots place count old room =
    let list : List (Option ℤ) = cleared slots place count in
    record {
      old_values = are_values slots old;
      new_values = are_values list (cleared_values slots place count old);
      length_is = length-cleared slots place count room;
      slots_are = λ i. slot_get list i ∙ elim (cases_lt i place) [
        | inl before ↦ cleared_front slots place count i room before ∙ sym (slot_get slots i)
            ∙ sym (slot_before place (place + count) [] i (slot_at slots i) before)
        | inr from ↦ elim (cases_lt i (place + count)) [
          | inl to ↦ cleared_within slots place count i room from to ∙ sym (slot_in place (place + count) [] i (slot_at slots i) from to)
          | inr behind ↦ cleared_behind slots place count i room behind ∙ sym (slot_get slots i)
              ∙ sym (slot_behind place (place + count) [] i (slot_at slots i) from behind)
        ]
      ];
    }

-- only slots that are there are cleared
pub cleared_there : (slots : List (Option ℤ)) (place count : ℕ) → place < length slots
    → cleared slots place count ≡ cleared slots place (min (place + count) (length slots) - place)
unfolding cleared
cleared_there slots place count within =
    let end : place + (min (place + count) (length slots) - place) ≡ min (place + count) (length slots) = omega (arith, within) in
    let same : min (min (place + count) (length slots)) (length slots) ≡ min (place + count) (length slots) = omega arith in
    rw (end, same) (ap (λ xs. take place slots ++ replicate (min (place + count) (length slots) - place) None ++ xs)
    (behind slots (place + count)))
  where
    behind : (slots : List (Option ℤ)) (n : ℕ) → drop n slots ≡ drop (min n (length slots)) slots
    behind slots n = elim (cases_lt n (length slots)) [
      | inl low ↦ let is : min n (length slots) ≡ n = omega (arith, low) in ap (λ k. drop k slots) (sym is)
      | inr high ↦ drop_all n slots high ∙ sym (drop_all (min n (length slots)) slots (omega (arith, high)))
    ]

-- and where none is, nothing is
pub cleared_nothing : (slots : List (Option ℤ)) (place count : ℕ) → (length slots ≤ place) ⊎ (count ≡ 0) → cleared slots place count ≡ slots
unfolding cleared
cleared_nothing slots place count why =
    let none : min (place + count) (length slots) - place ≡ 0 = elim why
    [ inl past ↦ omega (arith, past) | inr nothing ↦ omega (arith, nothing) ] in
    rw none (ap (λ xs. xs ++ drop (place + count) slots) (append-nil (take place slots)) ∙ elim why [
      | inl past ↦ ap (λ xs. take place slots ++ xs) (drop_all (place + count) slots (omega (arith, past))) ∙ append-nil (take place slots)
          ∙ take_all place slots past
      | inr nothing ↦ let same : place + count ≡ place = omega (arith, nothing) in
          ap (λ n. take place slots ++ drop n slots) same ∙ take-append-drop place slots
    ])

-- the same slots in a series
set_itself : {X : Type 0} (xs : List X) (i : ℕ) (x : X) → slice_get xs i ≡ Some x → set xs i x ≡ xs
set_itself {X} [] i x there = refl
set_itself {X} (y ∷ xs) zero x there = let same : y ≡ x = cc in ap (λ z. z ∷ xs) (sym same)
set_itself {X} (y ∷ xs) (suc i) x there = ap (λ zs. y ∷ zs) (set_itself xs i x there)

pub same_slots : (book : List Series) (id : ℕ) (series : Series) (slots : List (Option ℤ)) → slice_get book id ≡ Some series
    → slots ≡ series.slots → with_slots book id series slots ≡ book
same_slots book id series slots there same =
    let P : List (Option ℤ) → Type 0 = λ list. with_slots book id series list ≡ book in
    subst P (sym same) (set_itself book id series there)
