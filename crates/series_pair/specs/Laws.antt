-- The laws of charts of sums.
use Rattle.std.specs.Prelude.{ℕ, ℤ, List, Option}
use Rattle.chart_grid.specs.declared.grid.Grid.{Grid}
use Rattle.line_raster.specs.Canvas.{Canvas}
use Rattle.plain_chart.specs.declared.value_range.ValueRange.{ValueRange}
use Rattle.series_book.specs.declared.one_series.Series.{Series}
use Rattle.series_pair.specs.Derived.{AreAlike, HasLargeSum, IsDerivedChart}

-- Two charts of a sum are alike.
abbrev pub ChartsAreOne : Type 0
ChartsAreOne =
    (book : List Series) (x y : ℕ) (a b : ℤ) (g : Grid) (asked : Option ValueRange) (one other : Canvas)
    → IsDerivedChart book x y a b g asked one → IsDerivedChart book x y a b g asked other → AreAlike one other

-- A sum that is too large at some time of the window has no chart.
abbrev pub LargeSumsHaveNoChart : Type 0
LargeSumsHaveNoChart =
    (book : List Series) (x y : ℕ) (a b : ℤ) (g : Grid) (asked : Option ValueRange) (canvas : Canvas) (time : ℤ)
    → IsDerivedChart book x y a b g asked canvas → HasLargeSum book x y a b g time → ⊥
