-- A table of rows, one place for each column.
use Rattle.std.specs.Prelude.{ℕ, ◌≡◌, ◌≤ℤ◌, List, [], ◌∷◌, slice_set, slice_index_or, Option, None, Some}
use Rattle.std.specs.Int.{int_min, int_max}
use Rattle.whole_number.specs.Range.{IsValue}
use Rattle.m4_groups.specs.declared.row.Row.{Row}

-- the row of a column, where it has one
abbrev pub entry : List (Option Row) → ℕ → Option Row
entry table c = slice_index_or table c None

-- the row of two ranges of a column, one behind the other
abbrev pub joined : Option Row → Row → Row
joined None s = s
joined (Some r) s = record {
  column = s.column;
  first = r.first;
  least = int_min r.least s.least;
  greatest = int_max r.greatest s.greatest;
  last = s.last;
}

-- the table with a row behind that of its column
abbrev pub with_row : List (Option Row) → Row → List (Option Row)
with_row table row = slice_set table row.column (Some (joined (entry table row.column) row))

-- the rows of the columns that have one
abbrev pub entries : List (Option Row) → List Row
entries [] = []
entries (None ∷ table) = entries table
entries (Some row ∷ table) = row ∷ entries table

-- a row of column c of values that a slot can hold, whose first and last value lie from the least to the
-- greatest
pub record IsColumnRow (c : ℕ) (r : Row) : Type 0 where
  pub column : r.column ≡ c
  pub least : IsValue r.least
  pub greatest : IsValue r.greatest
  pub first_low : r.least ≤ℤ r.first
  pub first_high : r.first ≤ℤ r.greatest
  pub last_low : r.least ≤ℤ r.last
  pub last_high : r.last ≤ℤ r.greatest

-- each column that has a row has such a one
pub record AreShown (table : List (Option Row)) : Type 0 where
  pub each : (c : ℕ) (r : Row) → entry table c ≡ Some r → IsColumnRow c r
