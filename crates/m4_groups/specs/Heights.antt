use Rattle.std.specs.Prelude.{ℕ, ℤ, ◌≡◌, ◌<◌, ◌≤ℤ◌, List, map}
use Rattle.whole_number.specs.Range.{IsValue}
use Rattle.chart_grid.specs.Projection.{height}
use Rattle.m4_groups.specs.declared.row.Row.{Row}

-- the row with a number for each value
abbrev pub row_with : (ℤ → ℤ) → Row → Row
row_with f r = record { column = r.column; first = f r.first; least = f r.least; greatest = f r.greatest; last = f r.last }

-- the row with the height of each value, over the range lo to hi on h rows of pixels
abbrev pub row_height : ℤ → ℤ → ℕ → Row → Row
row_height lo hi h r = row_with (λ v. height v lo hi h) r

abbrev pub row_heights : ℤ → ℤ → ℕ → List Row → List Row
row_heights lo hi h rows = map (row_height lo hi h) rows

-- the rows have the same columns, and field by field the same heights
abbrev pub HaveSameHeights : ℤ → ℤ → ℕ → List Row → List Row → Type 0
HaveSameHeights lo hi h a b = row_heights lo hi h a ≡ row_heights lo hi h b

-- a row that a canvas of w columns can show
pub record IsDrawable (w : ℕ) (r : Row) : Type 0 where
  pub column : r.column < w
  pub order : r.least ≤ℤ r.greatest
  pub first : IsValue r.first
  pub least : IsValue r.least
  pub greatest : IsValue r.greatest
  pub last : IsValue r.last
