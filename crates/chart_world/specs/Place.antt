-- Where the last line stands.
use Rattle.std.specs.Prelude.{ℕ, ◌+◌, ◌≤◌, List, [], take, length, slice_range}
use Rattle.chart_world.specs.declared.place.Place.{Place}
use Rattle.chart_world.specs.declared.place.Place.TheVariants.{Nowhere, Piece, Spill}

-- the line there, in the last piece or in the spill
abbrev pub placed : Place → List ℕ → List ℕ → List ℕ
placed Nowhere bytes spill = []
placed (Piece first end) bytes spill = slice_range bytes first end
placed (Spill end) bytes spill = take end spill

-- the place stands within the piece of 1,048,576 bytes or within the spill, and is short enough for a line
abbrev pub IsPlaced : Place → List ℕ → Type 0
IsPlaced Nowhere spill = Unit {0}
IsPlaced (Piece first end) spill = (first ≤ end) × (end ≤ first + 8192) × (end ≤ 1048576)
IsPlaced (Spill end) spill = end ≤ length spill
