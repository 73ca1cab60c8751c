-- The chart of a sum of two series of a book, and why there is none.
use Rattle.std.specs.Prelude.{ℕ, ℤ, ◌≡◌, ◌<◌, ◌↔◌, ⊤, IsTrue, List, length, slice_get, All, Option, None, Some, Result, Ok, Err}
use Rattle.block_disk.specs.Counts.{HasRisen}
use Rattle.block_disk.specs.View.{View}
use Rattle.chart_world.specs.Faults.{Fault, OfDisk}
use Rattle.chart_grid.specs.declared.axis.Axis.{Axis}
use Rattle.chart_grid.specs.declared.grid.Grid.{Grid}
use Rattle.derived_chart.specs.Points.{IsShift, AreSumSamples}
use Rattle.derived_chart.specs.Rows.{IsFirstTooLarge}
use Rattle.line_raster.specs.Canvas.{Canvas, black_at}
use Rattle.m4_groups.specs.Rows.{AreRowsOf}
use Rattle.m4_groups.specs.declared.row.Row.{Row}
use Rattle.plain_chart.specs.Chart.{IsChart, IsScale}
use Rattle.plain_chart.specs.Samples.{kept, sample_points, values_of, IsRange}
use Rattle.plain_chart.specs.declared.sample.Sample.{Sample}
use Rattle.plain_chart.specs.declared.value_range.ValueRange.{ValueRange}
use Rattle.series_book.specs.declared.one_series.Series.{Series}
use Rattle.series_catalog.specs.declared.stored_series.StoredSeries.{StoredSeries}
use Rattle.whole_number.specs.Range.{IsValue}
use Rattle.series_pair.specs.declared.sum_error.SumError.{SumError}
use Rattle.series_pair.specs.declared.sum_error.SumError.TheVariants.{TooLarge, DiskFault, Damaged, NoMemory}
use Rattle.series_pair.specs.Damage.{IsBadOnWay}

-- the times of a series' slots
abbrev pub axis_of : Series → Axis
axis_of series = record { start = series.start; step = series.step; slots = length series.slots }

-- slot i of the series at x has the time of slot i + d of the series at y: both are on one grid
pub record AreShifted (book : List Series) (x y : ℕ) (d : ℤ) : Type 0 where
  pub one : Series
  pub other : Series
  pub first : slice_get book x ≡ Some one
  pub second : slice_get book y ≡ Some other
  pub shift : IsShift (axis_of one) (axis_of other) d

-- they are on no common grid: the steps differ, or the starts differ by no multiple of the step
abbrev pub AreUnlike : List Series → ℕ → ℕ → Type 0
AreUnlike book x y = (d : ℤ) → AreShifted book x y d → ⊥

-- the times of the slots of a series of a catalog
abbrev pub times_of : StoredSeries → Axis
times_of one = record { start = one.start; step = one.step; slots = one.tree.slots }

-- so it is of two series by their records in a catalog
pub record AreShiftedIn (catalog : List StoredSeries) (x y : ℕ) (d : ℤ) : Type 0 where
  pub one : StoredSeries
  pub other : StoredSeries
  pub first : slice_get catalog x ≡ Some one
  pub second : slice_get catalog y ≡ Some other
  pub shift : IsShift (times_of one) (times_of other) d

abbrev pub AreUnlikeIn : List StoredSeries → ℕ → ℕ → Type 0
AreUnlikeIn catalog x y = (d : ℤ) → AreShiftedIn catalog x y d → ⊥

-- The samples of a times the series at x and b times the series at y: one for each time of the window at which both store
-- a value, in order of time.
pub record AreSamplesOf (book : List Series) (x y : ℕ) (a b : ℤ) (g : Grid) (samples : List Sample) : Type 0 where
  pub one : Series
  pub other : Series
  pub first : slice_get book x ≡ Some one
  pub second : slice_get book y ≡ Some other
  pub are : AreSumSamples g a b (axis_of one) (axis_of other) one.slots other.slots samples

-- the range that a chart shows: from the least to the greatest of its values, 0 to 0 where there is none, or the one that is asked for
abbrev pub ShowsRange : Option ValueRange → List ℤ → ValueRange → Type 0
ShowsRange None values range = IsRange values range
ShowsRange (Some asked) values range = range ≡ asked

-- The canvas is the chart of a times the series at x and b times the series at y over this range: it is black just in the raster of
-- their samples, none of which is too large.
pub record IsDerivedChart (book : List Series) (x y : ℕ) (a b : ℤ) (g : Grid) (asked : Option ValueRange) (canvas : Canvas) : Type 0 where
  pub samples : List Sample
  pub are : AreSamplesOf book x y a b g samples
  pub values : All (λ s. IsValue s.value) samples
  pub range : ValueRange
  pub shows : ShowsRange asked (values_of samples) range
  pub chart : IsChart g range samples canvas

-- two canvases of the same size with the same black pixels
pub record AreAlike (one other : Canvas) : Type 0 where
  pub width : other.w ≡ one.w
  pub height : other.h ≡ one.h
  pub pixels : (x y : ℕ) → x < one.w → y < one.h → IsTrue (black_at other x y) ↔ IsTrue (black_at one x y)

-- the time is the first of the window at which this sum is more than 10^18 in size
pub record HasLargeSum (book : List Series) (x y : ℕ) (a b : ℤ) (g : Grid) (time : ℤ) : Type 0 where
  pub samples : List Sample
  pub are : AreSamplesOf book x y a b g samples
  pub first : IsFirstTooLarge samples time

-- The rows are those of the samples of a times the series at x and b times the series at y, none of which is too large. The samples
-- are what the view keeps of a list of sums.
pub record AreSumRows (book : List Series) (x y : ℕ) (a b : ℤ) (g : Grid) (rows : List Row) : Type 0 where
  pub axis : Axis
  pub sums : List (Option ℤ)
  pub step : 0 < axis.step
  pub are : AreSamplesOf book x y a b g (kept g axis sums)
  pub values : All (λ s. IsValue s.value) (kept g axis sums)
  pub rows_are : AreRowsOf g (sample_points (kept g axis sums)) rows

-- why there is none where pages stand for the book: the first time at which a sum is too large; no page is damaged
abbrev pub IsSumError : List Series → ℕ → ℕ → ℤ → ℤ → Grid → SumError → Type 0
IsSumError book x y a b g (TooLarge time) = HasLargeSum book x y a b g time
IsSumError book x y a b g DiskFault = ⊤
IsSumError book x y a b g (Damaged page) = ⊥
IsSumError book x y a b g NoMemory = ⊤

-- what is answered there: the rows, or why there are none
abbrev pub AreRowsAnswer : List Series → ℕ → ℕ → ℤ → ℤ → Grid → Result (List Row) SumError → Type 0
AreRowsAnswer book x y a b g (Ok rows) = AreSumRows book x y a b g rows
AreRowsAnswer book x y a b g (Err error) = IsSumError book x y a b g error

-- the chart, or why there is none
abbrev pub IsChartAnswer : List Series → ℕ → ℕ → ℤ → ℤ → Grid → Option ValueRange → Result Canvas SumError → Type 0
IsChartAnswer book x y a b g asked (Ok canvas) = IsDerivedChart book x y a b g asked canvas
IsChartAnswer book x y a b g asked (Err error) = IsSumError book x y a b g error

-- why there is no chart of the series at x and at y, whatever the pages are: a page that is called damaged is one of so many, and
-- is so, in the tree of one of the two, where reads give what the pages are
abbrev pub IsChartCause : ℕ → ℕ → SumError → Type 0 → ℕ → View → View → Type 0
IsChartCause x y (TooLarge time) told total old new = ⊤
IsChartCause x y DiskFault told total old new = HasRisen old.faults new.faults
IsChartCause x y (Damaged page) told total old new = IsBadOnWay x y told total new page
IsChartCause x y NoMemory told total old new = ⊤

-- the failed call of which an error of a chart tells
abbrev pub sum_fault : SumError → Option Fault
sum_fault (TooLarge time) = None
sum_fault DiskFault = Some OfDisk
sum_fault (Damaged page) = None
sum_fault NoMemory = None

-- a range that may be asked for: its ends are in order, and at most 10^18 in size
pub record MayShow (range : ValueRange) : Type 0 where
  pub scale : IsScale range
  pub high : IsValue range.hi
