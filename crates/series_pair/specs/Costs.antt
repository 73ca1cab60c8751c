-- How many blocks the rows of a sum of two series of a book read at most.
use Rattle.std.specs.Prelude.{◌≡◌, ℕ, List, length, slice_get, Some}
use Rattle.chart_grid.specs.declared.grid.Grid.{Grid}
use Rattle.derived_chart.specs.Reads.{ReadsInWindow, levels}
use Rattle.series_book.specs.declared.one_series.Series.{Series}
use Rattle.series_pair.specs.Derived.{axis_of}

-- 22 a slot of the first series in the window and a level of the two trees, which have at most 35 each
abbrev pub ReadsSum : List Series → ℕ → ℕ → Grid → ℕ → ℕ → Type 0
ReadsSum book x y g old new =
    (one other : Series) → slice_get book x ≡ Some one → slice_get book y ≡ Some other
    → ReadsInWindow (axis_of one) g (levels (length one.slots) (length other.slots)) old new
