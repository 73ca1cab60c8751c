-- What is exported of a series: its stored values as lines, in rising time.
use Rattle.std.specs.Prelude.{ℕ, ℤ, pos, ◌*◌, ◌-◌, ◌+ℤ◌, Bool, true, ◌&&◌, int_le, int_lt, if◌then◌else◌, List, [], ◌∷◌, ◌++◌, take}
use Rattle.std.specs.Prelude.{flat_map, codes, Option, None, Some}
use Rattle.std.specs.List.{filter}
use Rattle.reading_lines.specs.Lines.{reading_line}
use Rattle.series_book.specs.declared.one_series.Series.{Series}
use Rattle.series_store.specs.Sending.{pages_said}
use Rattle.series_export.specs.declared.window.Window.{Window}

-- a stored value, and the time of its slot
pub record Stored : Type 0 where
  pub time : ℤ
  pub value : ℤ

-- the values that slots hold, of which the first stands at this time and each other a step behind the one before it
unfoldable pub stored_from : ℕ → ℤ → List (Option ℤ) → List Stored
stored_from step time [] = []
stored_from step time (None ∷ slots) = stored_from step (time +ℤ pos step) slots
stored_from step time (Some value ∷ slots) = record { time = time; value = value } ∷ stored_from step (time +ℤ pos step) slots

-- the stored values of a series
abbrev pub stored_values : Series → List Stored
stored_values series = stored_from series.step series.start series.slots

-- the time is in the window, if there is one; the window's end isn't in it
abbrev pub is_within : Option Window → ℤ → Bool
is_within None time = true
is_within (Some window) time = int_le window.from time && int_lt time window.to

-- a time from the first on and up to the last may be in it
abbrev pub may_meet : Option Window → ℤ → ℤ → Bool
may_meet None first last = true
may_meet (Some window) first last = int_lt first window.to && int_le window.from last

-- those of the values whose times are in the window
abbrev pub asked : Option Window → List Stored → List Stored
asked window values = filter (λ one. is_within window one.time) values

-- the line of each value
abbrev pub lines_of : ℕ → List Stored → List ℕ
lines_of scale values = flat_map (λ one. reading_line scale one.time one.value) values

-- the names of the columns
abbrev pub header : List ℕ
header = codes "time,value\n"

-- the header, and the lines of the stored values of a series in a window
unfoldable pub export_text : Series → Option Window → List ℕ
export_text series window = header ++ lines_of series.scale (asked window (stored_values series))

-- the time of a slot
abbrev pub slot_time : ℤ → ℕ → ℕ → ℤ
slot_time start step slot = start +ℤ pos (slot * step)

-- the line of the value of a slot, where the slot's time is in the window
abbrev pub line_at : ℤ → ℕ → ℕ → Option Window → ℕ → ℤ → List ℕ
line_at start step scale window slot value = if is_within window (slot_time start step slot) then reading_line scale
    (slot_time start step slot) value else []

-- a time of the slots from first on and below end may be in the window
abbrev pub may_be_in : ℤ → ℕ → Option Window → ℕ → ℕ → Bool
may_be_in start step window first end = may_meet window (slot_time start step first) (slot_time start step (end - 1))

-- how many pages the tree of a series has in whose range a slot holds a value, and a time may be in the window
abbrev pub window_pages : Series → Option Window → ℕ
window_pages series window = pages_said (may_be_in series.start series.step window) series.slots

-- the same series with its first so many slots alone
abbrev pub first_slots : Series → ℕ → Series
first_slots series n = record series { slots = take n series.slots }
