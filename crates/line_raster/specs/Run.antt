use Rattle.std.specs.Prelude.{◌+◌, ◌*◌, pos, ◌≡◌, ℕ, ℤ, ◌<◌, ◌≤◌, ◌↔◌}
use Rattle.line_raster.specs.declared.position.Point.{Point}
use Rattle.line_raster.specs.Canvas.{Canvas, Adds}
use Rattle.line_raster.specs.Segment.{columns, rows, share, towards, InRow}

-- the row is at least first and fewer than end rows from the row a towards the row b
pub record InRun (a b : ℤ) (first end : ℕ) (y : ℤ) : Type 0 where
  pub n : ℕ
  pub begun : first ≤ n
  pub short : n < end
  pub row : y ≡ towards a b n

-- the rows before the cut are those of the columns before column k
abbrev pub IsCut : ℕ → ℕ → ℕ → ℕ → Type 0
IsCut rows columns cut k = (n : ℕ) → n ≤ rows → (n < cut) ↔ (share rows columns n < k)

-- the first k columns of a steep segment are drawn, and they have the rows before first
pub record IsDrawnTo (p q : Point) (k first : ℕ) (old new : Canvas) : Type 0 where
  pub drawn : Adds (λ a b. InRow p q a (pos b) × (a < p.x + k)) old new
  pub cut : IsCut (rows p q) (columns p q) first k
  pub bound : first ≤ rows p q + 1

-- the rows before column k + 1, and the error term: what is left when their number is rounded up
pub record IsBalanced (rows columns k cut error : ℕ) : Type 0 where
  pub sum : cut * (2 * columns) + error + 1 ≡ rows * (2 * k + 1) + 2 * columns
  pub small : error < 2 * columns
