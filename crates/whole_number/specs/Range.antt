-- The range of the values of series, and that of times.
use Rattle.std.specs.Prelude.{ℤ, ◌≤◌, Bool, nat_le, unsigned_abs}
use Rattle.whole_number.specs.declared.limits.TheConstants.{GREATEST_VALUE, GREATEST_TIME}

-- a value that a series can hold, or a time at which one can start: at most 10^18 in size
abbrev pub IsValue : ℤ → Type 0
IsValue v = unsigned_abs v ≤ GREATEST_VALUE

-- whether a number is such a value
abbrev pub is_value : ℤ → Bool
is_value v = nat_le (unsigned_abs v) GREATEST_VALUE

-- an end of a window of time, or the difference of two values: at most 2 * 10^18 in size
abbrev pub IsTime : ℤ → Type 0
IsTime t = unsigned_abs t ≤ GREATEST_TIME

-- whether a number is such a time
abbrev pub is_time : ℤ → Bool
is_time t = nat_le (unsigned_abs t) GREATEST_TIME
