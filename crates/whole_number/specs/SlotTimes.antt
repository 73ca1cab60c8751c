-- The times of the slots of a series.
use Rattle.std.specs.Prelude.{ℕ, ℤ, pos, ◌-◌, ◌*◌, ◌+ℤ◌, ◌≤ℤ◌, Bool, ◌||◌, ◌==◌, int_le, IsTrue}
use Rattle.whole_number.specs.declared.limits.TheConstants.{GREATEST_TIME}

-- the slot stands no later than 2 * 10^18
abbrev pub IsEarly : ℤ → ℕ → ℕ → Type 0
IsEarly start step slot = (start +ℤ pos (slot * step)) ≤ℤ pos GREATEST_TIME

-- whether the last of so many slots does
unfoldable pub ends_in_time : ℤ → ℕ → ℕ → Bool
ends_in_time start step slots = slots == 0 || int_le (start +ℤ pos ((slots - 1) * step)) (pos GREATEST_TIME)

abbrev pub EndsInTime : ℤ → ℕ → ℕ → Type 0
EndsInTime start step slots = IsTrue (ends_in_time start step slots)
