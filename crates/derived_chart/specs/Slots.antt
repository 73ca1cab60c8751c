-- Slots that are read into an array.
use Rattle.std.specs.Prelude.{ℕ, ℤ, pos, ◌≡◌, ◌≢◌, ◌+◌, ◌<◌, ◌≤ℤ◌, ◌<ℤ◌, ◌+ℤ◌, ◌*ℤ◌, ◌↔◌, ◌⊎◌, List, slice_index_or, Option, None, Some}
use Rattle.std.specs.Prelude.{IfSome}
use Rattle.whole_number.specs.Range.{IsValue}
use Rattle.om3_coeff.specs.declared.key.Key.{Key}
use Rattle.om3_coeff.specs.Keys.{first_slot, end_slot}
use Rattle.om3_coeff.specs.Spans.{Holds}
use Rattle.derived_chart.specs.declared.searches.Best.{Best}
use Rattle.derived_chart.specs.declared.sum.Sum.{Sum}
use Rattle.derived_chart.specs.Searches.{Beats}
use Rattle.derived_chart.specs.Sums.{HoldsAt}

-- what an array has at a place
abbrev pub entry : List (Option ℤ) → ℕ → Option ℤ
entry slots i = slice_index_or slots i None

-- the list's slot at `base + i` lies below `to` and holds the value v, and i lies below `count`
pub record IsReadAt (list : List (Option ℤ)) (base : ℤ) (count to i : ℕ) (v : ℤ) : Type 0 where
  pub within : i < count
  pub slot : ℕ
  pub here : pos slot ≡ base +ℤ pos i
  pub below : slot < to
  pub holds : Holds list slot v

-- the array has at its first `count` places what the list's slots from `base` on hold, as far as they lie below `to`
abbrev pub AreReadBelow : List (Option ℤ) → ℤ → ℕ → ℕ → List (Option ℤ) → Type 0
AreReadBelow list base count to slots = (i : ℕ) (v : ℤ) → (entry slots i ≡ Some v) ↔ IsReadAt list base count to i v

-- as far as they lie before the key's range, or before its end
abbrev pub AreReadBefore : List (Option ℤ) → ℤ → ℕ → Key → List (Option ℤ) → Type 0
AreReadBefore list base count k slots = AreReadBelow list base count (first_slot k) slots

abbrev pub AreReadThrough : List (Option ℤ) → ℤ → ℕ → Key → List (Option ℤ) → Type 0
AreReadThrough list base count k slots = AreReadBelow list base count (end_slot k) slots

-- the array has at its first `count` places what the list's slots from `base` on hold, and nothing else
abbrev pub AreRead : List (Option ℤ) → ℤ → ℕ → List (Option ℤ) → Type 0
AreRead list base count slots = (i : ℕ) (v : ℤ) → (entry slots i ≡ Some v) ↔ ((i < count) × HoldsAt list (base +ℤ pos i) v)

-- the array has values that a slot can hold
abbrev pub HasValues : List (Option ℤ) → Type 0
HasValues slots = (i : ℕ) (v : ℤ) → entry slots i ≡ Some v → IsValue v

-- it has none
abbrev pub IsEmpty : List (Option ℤ) → Type 0
IsEmpty slots = (i : ℕ) → entry slots i ≡ None

-- the key's range has none of the `count` slots from `base` on
abbrev pub IsApart : Key → ℤ → ℕ → Type 0
IsApart k base count = (pos (end_slot k) ≤ℤ base) ⊎ ((base +ℤ pos count) ≤ℤ pos (first_slot k))

-- it has some of them
abbrev pub Meets : Key → ℤ → ℕ → Type 0
Meets k base count = (base <ℤ pos (end_slot k)) × (pos (first_slot k) <ℤ (base +ℤ pos count))

-- the value is put to the place of this slot
pub record IsPut (base : ℤ) (slot : ℕ) (v : ℤ) (old new : List (Option ℤ)) : Type 0 where
  pub place : ℕ
  pub here : pos slot ≡ base +ℤ pos place
  pub set : entry new place ≡ Some v
  pub others : (i : ℕ) → i ≢ place → entry new i ≡ entry old i

-- the sum of two slots, where both hold a value
abbrev pub sum_of_slots : Sum → Option ℤ → Option ℤ → Option ℤ
sum_of_slots sum None y = None
sum_of_slots sum (Some x) None = None
sum_of_slots sum (Some x) (Some y) = Some (sum.a *ℤ x +ℤ sum.b *ℤ y)

-- the better one of two numbers, or the one that is there
abbrev pub IsBetterOf : Best → Option ℤ → Option ℤ → Option ℤ → Type 0
IsBetterOf best found None r = r ≡ found
IsBetterOf best found (Some v) None = ⊥
IsBetterOf best found (Some v) (Some m) = ((found ≡ Some m) ⊎ (v ≡ m)) × IfSome found (λ b. Beats best m b) × Beats best m v

-- the sums of the `count` slots from p on are those of the two arrays
abbrev pub AreArraySums : Sum → List (Option ℤ) → List (Option ℤ) → ℕ → ℕ → List (Option ℤ) → Type 0
AreArraySums sum xs ys count p sums = (i : ℕ) (v : ℤ) → i < count
    → Holds sums (p + i) v ↔ (sum_of_slots sum (entry xs i) (entry ys i) ≡ Some v)
