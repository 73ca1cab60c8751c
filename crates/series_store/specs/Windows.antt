-- The stored values of a window of slots: as runs of slots that all hold one, and as a list.
use Rattle.std.specs.Prelude.{ℕ, zero, suc, ℤ, ◌≡◌, ◌+◌, ◌-◌, ◌*◌, ◌≤◌, ◌/◌, ◌==◌, ◌&&◌, nat_lt, min, if◌then◌else◌, Bool, List, [], ◌∷◌}
use Rattle.std.specs.Prelude.{length, All, Option, None, Some}
use Rattle.whole_number.specs.Range.{IsValue}
use Rattle.om3_coeff.specs.Keys.{first_slot, end_slot}
use Rattle.path_repair.specs.Changes.{slot_at}
use Rattle.path_repair.specs.TreePages.{count_where}
use Rattle.tree_walk.specs.Trees.{top_of_page}
use Rattle.series_store.specs.declared.slot_run.SlotRun.{SlotRun}
use Rattle.series_store.specs.declared.window_values.WindowValues.{WindowValues}

-- so many slots of a list from this one on; a slot past the list's end holds nothing
unfoldable pub slots_from : List (Option ℤ) → ℕ → ℕ → List (Option ℤ)
slots_from list first zero = []
slots_from list first (suc more) = slot_at list first ∷ slots_from list (suc first) more

-- the slots from `from` on and below `to`
abbrev pub window : List (Option ℤ) → ℕ → ℕ → List (Option ℤ)
window list from to = slots_from list from (to - from)

-- the values that slots hold, in order
unfoldable pub stored : List (Option ℤ) → List ℤ
stored [] = []
stored (None ∷ slots) = stored slots
stored (Some value ∷ slots) = value ∷ stored slots

-- the run of one slot
abbrev pub run_of : ℕ → SlotRun
run_of slot = record { first = slot; end = suc slot }

-- a slot in front of runs: it begins the first of them where that began right behind it
abbrev pub before_runs : ℕ → List SlotRun → List SlotRun
before_runs slot [] = run_of slot ∷ []
before_runs slot (run ∷ runs) = if run.first == suc slot then record run { first = slot } ∷ runs else run_of slot ∷ run ∷ runs

-- the runs of the slots that hold a value, none of which could be longer; the first slot has this number
unfoldable pub runs_from : ℕ → List (Option ℤ) → List SlotRun
runs_from first [] = []
runs_from first (None ∷ slots) = runs_from (suc first) slots
runs_from first (Some value ∷ slots) = before_runs first (runs_from (suc first) slots)

-- the runs and the values of these slots, the first of which has this number
pub record AreOf (first : ℕ) (slots : List (Option ℤ)) (values : WindowValues) : Type 0 where
  pub runs : values.runs.items ≡ runs_from first slots
  pub values_are : values.stored.items ≡ stored slots

-- a piece of a window ends where it does, or at the next multiple of 4,096 slots
abbrev pub piece_end : ℕ → ℕ → ℕ
piece_end from to = min to (4096 * (from / 4096) + 4096)

-- the slots from `from` on and below `to` lie among 4,096 that begin at a multiple of 4,096
abbrev pub IsPiece : ℕ → ℕ → Type 0
IsPiece from to = to ≤ 4096 * (from / 4096) + 4096

-- the range of the page of this page level and index has a slot from `from` on and below `to`
abbrev pub meets : ℕ → ℕ → ℕ → ℕ → Bool
meets from to level index = nat_lt (first_slot (top_of_page level index)) to && nat_lt from (end_slot (top_of_page level index))

-- so many pages the tree below a page of this page level and index has that meet the window
abbrev pub pages_met : ℕ → ℕ → ℕ → ℕ → ℕ
pages_met from to level index = count_where (meets from to) level index

-- so many of the window's slots lie below this one
abbrev pub reach : ℕ → ℕ → ℕ → ℕ
reach from to slot = min slot to - from

-- the runs and values of those of a list
abbrev pub AreBelow : List (Option ℤ) → ℕ → ℕ → ℕ → WindowValues → Type 0
AreBelow list from to slot values = AreOf from (slots_from list from (reach from to slot)) values

-- the runs and values of so many slots from this one on, whatever they hold
pub record AreOfSome (first count : ℕ) (values : WindowValues) : Type 0 where
  pub slots : List (Option ℤ)
  pub long : length slots ≡ count
  pub are : AreOf first slots values
  pub in_range : All IsValue values.stored.items

-- there are none yet
pub record AreNone (values : WindowValues) : Type 0 where
  pub runs : values.runs.items ≡ []
  pub values_are : values.stored.items ≡ []
