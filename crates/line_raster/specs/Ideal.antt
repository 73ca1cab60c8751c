use Rattle.std.specs.Prelude.{◌≡◌, ℕ, ℤ, pos, ◌≤◌, ◌-ℤ◌, ◌*ℤ◌, unsigned_abs}
use Rattle.line_raster.specs.declared.position.Point.{Point}
use Rattle.line_raster.specs.Segment.{columns}

-- How far the pixel lies above or below the straight line from p to q, in parts of a row: `columns p q` of them are one row.
abbrev pub row_distance : Point → Point → ℕ → ℤ → ℕ
row_distance p q x y = unsigned_abs ((y -ℤ p.y) *ℤ pos (columns p q) -ℤ (pos x -ℤ pos p.x) *ℤ (q.y -ℤ p.y))

-- No row of the column is nearer to the straight line, and of two that are equally near this is the farther from the start.
pub record IsNearestRow (p q : Point) (x : ℕ) (y : ℤ) : Type 0 where
  pub nearest : (z : ℤ) → row_distance p q x y ≤ row_distance p q x z
  pub tie : (z : ℤ) → row_distance p q x z ≡ row_distance p q x y → unsigned_abs (z -ℤ p.y) ≤ unsigned_abs (y -ℤ p.y)

-- How far the pixel lies left or right of the straight line, in parts of a column: `rows p q` of them are one column.
abbrev pub column_distance : Point → Point → ℤ → ℤ → ℕ
column_distance p q x y = unsigned_abs ((x -ℤ pos p.x) *ℤ (q.y -ℤ p.y) -ℤ (y -ℤ p.y) *ℤ pos (columns p q))

-- No column of the row is nearer to the straight line, and of two that are equally near this is the farther from the start.
pub record IsNearestColumn (p q : Point) (x : ℕ) (y : ℤ) : Type 0 where
  pub nearest : (z : ℤ) → column_distance p q (pos x) y ≤ column_distance p q z y
  pub tie : (z : ℤ) → column_distance p q z y ≡ column_distance p q (pos x) y
      → unsigned_abs (z -ℤ pos p.x) ≤ unsigned_abs (pos x -ℤ pos p.x)
