use Rattle.std.specs.Prelude.{ℤ, ◌==◌, List, [], ◌∷◌, if◌then◌else◌}
use Rattle.std.specs.Int.{int_min, int_max}
use Rattle.line_raster.specs.declared.position.Point.{Point}
use Rattle.m4_groups.specs.declared.row.Row.{Row}

-- the row of a single point
abbrev pub row_of_one : Point → Row
row_of_one s = record { column = s.x; first = s.y; least = s.y; greatest = s.y; last = s.y }

-- the row with a point before its own
abbrev pub row_from : Point → Row → Row
row_from s r = record { column = r.column; first = s.y; least = int_min s.y r.least; greatest = int_max s.y r.greatest; last = r.last }

-- the rows with a point before theirs
abbrev pub put_first : Point → List Row → List Row
put_first s [] = row_of_one s ∷ []
put_first s (r ∷ rs) = if s.x == r.column then row_from s r ∷ rs else row_of_one s ∷ (r ∷ rs)

-- the rows of points whose columns don't fall, one point after another
abbrev pub rows_from : List Point → List Row
rows_from [] = []
rows_from (s ∷ xs) = put_first s (rows_from xs)

-- the row with a value after its own
abbrev pub row_to : Row → ℤ → Row
row_to r v = record { column = r.column; first = r.first; least = int_min r.least v; greatest = int_max r.greatest v; last = v }

-- the last row with a point after its own: the same row, or one more
abbrev pub end_with : Row → Point → List Row
end_with r s = if s.x == r.column then row_to r s.y ∷ [] else r ∷ row_of_one s ∷ []

-- the rows with a point after theirs
abbrev pub put_last : List Row → Point → List Row
put_last [] s = row_of_one s ∷ []
put_last (r ∷ []) s = end_with r s
put_last (r ∷ (q ∷ rs)) s = r ∷ put_last (q ∷ rs) s
