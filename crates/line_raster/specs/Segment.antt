use Rattle.std.specs.Prelude.{◌≡◌, ℕ, ℤ, pos, ◌+◌, ◌-◌, ◌*◌, ◌/◌, ◌<◌, ◌≤◌, ◌+ℤ◌, ◌-ℤ◌, ◌≤ℤ◌, ◌⊎◌, if◌then◌else◌, int_lt, unsigned_abs}
use Rattle.line_raster.specs.declared.position.Point.{Point}

-- how many columns the segment from p to q goes to the right
abbrev pub columns : Point → Point → ℕ
columns p q = q.x - p.x

-- how many rows it goes up or down
abbrev pub rows : Point → Point → ℕ
rows p q = unsigned_abs (q.y -ℤ p.y)

-- n steps' share of a distance that takes m steps, rounded to the nearest, and a half away from the start
abbrev pub share : ℕ → ℕ → ℕ → ℕ
share m distance n = (2 * n * distance + m) / (2 * m)

-- n rows from the first height towards the second
abbrev pub towards : ℤ → ℤ → ℕ → ℤ
towards y1 y2 n = if int_lt y2 y1 then y1 -ℤ pos n else y1 +ℤ pos n

-- both ends are one pixel, and this is it
pub record IsDot (p q : Point) (x : ℕ) (y : ℤ) : Type 0 where
  pub no_columns : columns p q ≡ 0
  pub no_rows : rows p q ≡ 0
  pub column : x ≡ p.x
  pub row : y ≡ p.y

-- A segment that isn't higher than wide has one pixel in each of its columns. This is the one n columns from its start.
pub record InColumn (p q : Point) (x : ℕ) (y : ℤ) : Type 0 where
  pub wide : rows p q ≤ columns p q
  pub some : 0 < columns p q
  pub n : ℕ
  pub reached : n ≤ columns p q
  pub column : x ≡ p.x + n
  pub row : y ≡ towards p.y q.y (share (columns p q) (rows p q) n)

-- A segment that is higher than wide has one pixel in each of its rows. This is the one n rows from its start.
pub record InRow (p q : Point) (x : ℕ) (y : ℤ) : Type 0 where
  pub high : columns p q < rows p q
  pub n : ℕ
  pub reached : n ≤ rows p q
  pub row : y ≡ towards p.y q.y n
  pub column : x ≡ p.x + share (rows p q) (columns p q) n

-- the pixel in column x and row y is one of the segment from p to q
abbrev pub On : Point → Point → ℕ → ℤ → Type 0
On p q x y = IsDot p q x y ⊎ (InColumn p q x y ⊎ InRow p q x y)

-- the pixel is one of a column's from the row low up to the row high
pub record InFill (column : ℕ) (low high : ℤ) (x : ℕ) (y : ℤ) : Type 0 where
  pub here : x ≡ column
  pub above : low ≤ℤ y
  pub below : y ≤ℤ high
