-- The range of values that rows show.
use Rattle.std.specs.Prelude.{ℤ, ◌≡◌, List, [], map, Option, None, Some}
use Rattle.plain_chart.specs.declared.value_range.ValueRange.{ValueRange}
use Rattle.m4_groups.specs.declared.row.Row.{Row}
use Rattle.std.specs.Prelude.{◌≤ℤ◌, All, Contains}

-- the values of points
abbrev pub values_at : List (ℤ × ℤ) → List ℤ
values_at points = map (λ p. p.1) points

-- lo is the least of the rows' least values, and hi the greatest of their greatest ones
pub record SpanRows (rows : List Row) (range : ValueRange) : Type 0 where
  pub least : Contains (map (λ r. r.least) rows) range.lo
  pub none_below : All (λ r. range.lo ≤ℤ r.least) rows
  pub greatest : Contains (map (λ r. r.greatest) rows) range.hi
  pub none_above : All (λ r. r.greatest ≤ℤ range.hi) rows

-- the same so far, and nothing where there is no row yet
abbrev pub SpansRows : Option ValueRange → List Row → Type 0
SpansRows None rows = rows ≡ []
SpansRows (Some range) rows = SpanRows rows range
