use Rattle.std.specs.Prelude.{ℕ, ℤ, ◌⊎◌, List, [], ◌∷◌}
use Rattle.line_raster.specs.declared.position.Point.{Point}
use Rattle.line_raster.specs.Segment.{On, InFill}
use Rattle.m4_groups.specs.declared.row.Row.{Row}

-- a row's first and last point
abbrev pub first_of : Row → Point
first_of r = record { x = r.column; y = r.first }

abbrev pub last_of : Row → Point
last_of r = record { x = r.column; y = r.last }

-- the pixel lies on the segment from a point to the first point of the next row
abbrev pub OnJoin : Point → List Row → ℕ → ℤ → Type 0
OnJoin p [] x y = ⊥
OnJoin p (s ∷ _) x y = On p (first_of s) x y

-- the pixels of rows of heights: each column from its least to its greatest height, and the segments
-- from each row's last point to the next row's first one
abbrev pub Drawn : List Row → ℕ → ℤ → Type 0
Drawn [] x y = ⊥
Drawn (r ∷ rs) x y = InFill r.column r.least r.greatest x y ⊎ (OnJoin (last_of r) rs x y ⊎ Drawn rs x y)
