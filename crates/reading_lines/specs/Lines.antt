-- How readings and series are spelled as lines.
use Rattle.std.specs.Prelude.{ℕ, zero, suc, ℤ, pos, negsuc, ◌+◌, ◌/◌, ◌%◌, ◌^◌, List, [], ◌∷◌, ◌++◌, codes, ◌≤◌, unsigned_abs, IsTrue}
use Rattle.std.specs.Fmt.{decimal, signed_decimal}
use Rattle.csv_load.specs.Decimals.{point_and}
use Rattle.series_book.specs.declared.axis.Axis.{Axis}
use Rattle.series_book.specs.declared.limits.TheConstants.{GREATEST_START, GREATEST_STEP, GREATEST_SCALE, MOST_SLOTS}
use Rattle.series_book.specs.Names.{is_name}

-- the last digits of a number, so many; in front of a number that has fewer, zeros
unfoldable pub last_digits : ℕ → ℕ → List ℕ
last_digits zero n = []
last_digits (suc count) n = last_digits count (n / 10) ++ (48 + n % 10) ∷ []

-- n / 10^scale with exactly `scale` decimals; a point only where there are any
abbrev pub size_text : ℕ → ℕ → List ℕ
size_text scale n = decimal (n / 10 ^ scale) ++ point_and (last_digits scale n)

-- the same of a value, with a `-` in front of one below 0
abbrev pub decimal_text : ℕ → ℤ → List ℕ
decimal_text scale (pos n) = size_text scale n
decimal_text scale (negsuc n) = codes "-" ++ size_text scale (suc n)

-- a reading: its time, a comma and its value
abbrev pub reading_row : ℕ → ℤ → ℤ → List ℕ
reading_row scale time value = signed_decimal time ++ (codes "," ++ decimal_text scale value)

-- the line of a reading
abbrev pub reading_line : ℕ → ℤ → ℤ → List ℕ
reading_line scale time value = reading_row scale time value ++ codes "\n"

-- a series' start, step, scale and number of slots
abbrev pub axis_row : Axis → ℕ → List ℕ
axis_row axis scale =
    signed_decimal axis.start ++ (codes " " ++ (decimal axis.step ++ (codes " " ++ (decimal scale ++ (codes " " ++ decimal axis.slots)))))

-- a series: its name, and these behind it
abbrev pub series_row : List ℕ → Axis → ℕ → List ℕ
series_row name axis scale = name ++ (codes " " ++ axis_row axis scale)

-- the line of a series
abbrev pub series_line : List ℕ → Axis → ℕ → List ℕ
series_line name axis scale = series_row name axis scale ++ codes "\n"

-- a name and numbers that a series may have
pub record IsTold (name : List ℕ) (axis : Axis) (scale : ℕ) : Type 0 where
  pub named : IsTrue (is_name name)
  pub start_in_range : unsigned_abs axis.start ≤ GREATEST_START
  pub step_in_range : axis.step ≤ GREATEST_STEP
  pub scale_in_range : scale ≤ GREATEST_SCALE
  pub slots_in_range : axis.slots ≤ MOST_SLOTS
