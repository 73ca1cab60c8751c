-- What a change makes of a list of slots.
use Rattle.std.specs.Prelude.{ℕ, ℤ, ◌≡◌, ◌-◌, ◌<◌, ◌≤◌, ◌&&◌, nat_le, nat_lt, if◌then◌else◌, List, length, slice_get, Option, None, Some}
use Rattle.om3_coeff.specs.Spans.{AreSlots}

-- the value of a slot; slots past the list's end hold nothing
abbrev pub value_of : Option (Option ℤ) → Option ℤ
value_of None = None
value_of (Some value) = value

unfoldable pub slot_at : List (Option ℤ) → ℕ → Option ℤ
slot_at list i = value_of (slice_get list i)

-- what a slot holds after it is given this: nothing clears it, a missing value leaves it
abbrev pub given : Option (Option ℤ) → Option ℤ → Option ℤ
given None old = None
given (Some None) old = old
given (Some (Some value)) old = Some value

-- what slot i holds where the slots from first on and below end are given these values, and are cleared where
-- there are none for them
unfoldable pub new_slot : ℕ → ℕ → List (Option ℤ) → ℕ → Option ℤ → Option ℤ
new_slot first end values i old = if nat_le first i && nat_lt i end then given (slice_get values (i - first)) old else old

-- each slot of the one list is what the change makes of that of the other
abbrev pub IsChanged : ℕ → ℕ → List (Option ℤ) → List (Option ℤ) → List (Option ℤ) → Type 0
IsChanged first end values list list' = (i : ℕ) → slot_at list' i ≡ new_slot first end values i (slot_at list i)

-- a list becomes one of so many slots, of which those from first on and below end are given values
pub record IsEdited (first end slots : ℕ) (values list list' : List (Option ℤ)) : Type 0 where
  pub old_values : AreSlots list
  pub new_values : AreSlots list'
  pub length_is : length list' ≡ slots
  pub slots_are : IsChanged first end values list list'

-- the lists hold the same in the slots from a on and below b
abbrev pub AreSame : List (Option ℤ) → List (Option ℤ) → ℕ → ℕ → Type 0
AreSame list list' a b = (i : ℕ) → a ≤ i → i < b → slot_at list' i ≡ slot_at list i

-- a slot from a on and below b is given a value
pub record HasNew (first end : ℕ) (values : List (Option ℤ)) (a b : ℕ) : Type 0 where
  pub slot : ℕ
  pub low : a ≤ slot
  pub high : slot < b
  pub from : first ≤ slot
  pub to : slot < end
  pub value : ℤ
  pub is : slice_get values (slot - first) ≡ Some (Some value)
