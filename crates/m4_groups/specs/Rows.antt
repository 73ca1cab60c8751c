use Rattle.std.specs.Prelude.{ℕ, ℤ, ◌≡◌, ◌-◌, ◌<◌, ◌≤ℤ◌, List, map, length, slice_get, Some, All, AllPairs, Contains}
use Rattle.chart_grid.specs.declared.grid.Grid.{Grid}
use Rattle.line_raster.specs.declared.position.Point.{Point}
use Rattle.m4_groups.specs.declared.row.Row.{Row}
use Rattle.m4_groups.specs.Points.{spots, values_in}

-- v is one of the values, and none is less
pub record IsLeast (v : ℤ) (values : List ℤ) : Type 0 where
  pub among : Contains values v
  pub least : All (λ u. v ≤ℤ u) values

-- v is one of the values, and none is greater
pub record IsGreatest (v : ℤ) (values : List ℤ) : Type 0 where
  pub among : Contains values v
  pub greatest : All (λ u. u ≤ℤ v) values

-- r has the first, the least, the greatest and the last of the values
pub record Sums (r : Row) (values : List ℤ) : Type 0 where
  pub first : slice_get values 0 ≡ Some r.first
  pub least : IsLeast r.least values
  pub greatest : IsGreatest r.greatest values
  pub last : slice_get values (length values - 1) ≡ Some r.last

-- the columns of the rows
abbrev pub columns_of : List Row → List ℕ
columns_of rows = map (λ r. r.column) rows

-- each row is in a lower column than the next
abbrev pub AreRising : List Row → Type 0
AreRising rows = AllPairs (λ r s. r.column < s.column) rows

-- There is one row for each column that has a point, in rising order of columns. It has the first,
-- the least, the greatest and the last value of the column's points.
pub record AreRows (xs : List Point) (rows : List Row) : Type 0 where
  pub rising : AreRising rows
  pub each : All (λ r. Sums r (values_in r.column xs)) rows
  pub every : All (λ s. Contains (columns_of rows) s.x) xs

-- the rows of a list of points, each a time and a value, on the grid
abbrev pub AreRowsOf : Grid → List (ℤ × ℤ) → List Row → Type 0
AreRowsOf g points rows = AreRows (spots g points) rows
