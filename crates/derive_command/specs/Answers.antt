-- What a request is answered over a book: the picture of its chart, or why it is refused.
use Rattle.std.specs.Prelude.{◌≡◌, ◌⊎◌, ◌<◌, ℕ, ℤ, List, Option, None, Some, slice_get}
use Rattle.series_book.specs.declared.refusal_numbers.TheConstants.{OTHER_GRID, SUM_TOO_LARGE}
use Rattle.chart_grid.specs.Limits.{IsWindow, IsSide, IsBadWindow, IsBadSide}
use Rattle.chart_grid.specs.Projection.{ShowsWindow, HasCanvas}
use Rattle.chart_grid.specs.declared.grid.Grid.{Grid}
use Rattle.chart_service.specs.Viewing.{IsBadRange, IsGoodRange}
use Rattle.line_raster.specs.Canvas.{Canvas}
use Rattle.pbm_writer.specs.Picture.{picture}
use Rattle.plain_chart.specs.declared.value_range.ValueRange.{ValueRange}
use Rattle.request_lines.specs.declared.ranges.RangeWord.{RangeWord}
use Rattle.request_lines.specs.declared.ranges.RangeWord.TheVariants.{Auto, Fixed}
use Rattle.series_book.specs.Edits.{id_of}
use Rattle.series_book.specs.Refusals.{number_of as number_for_lines}
use Rattle.series_book.specs.declared.one_series.Series.{Series}
use Rattle.series_book.specs.declared.refusals.Refusal.TheVariants as line
use Rattle.series_pair.specs.Derived.{AreShifted, AreUnlike, HasLargeSum, IsDerivedChart}
use Rattle.derive_command.specs.Requests.{Says}
use Rattle.derive_command.specs.declared.derive_refusal.DeriveRefusal.{DeriveRefusal}
use Rattle.derive_command.specs.declared.derive_refusal.DeriveRefusal.TheVariants.{UnknownSeries, NotOneGrid, BadWindow, BadCanvas}
use Rattle.derive_command.specs.declared.derive_refusal.DeriveRefusal.TheVariants.{BadRange, TooLarge}
use Rattle.derive_command.specs.declared.request.Request.{Request}

-- ---- what a request asks for

-- the ids of the two series that it names
pub record AreNamed (book : List Series) (r : Request) (x y : ℕ) : Type 0 where
  pub first : id_of r.first book ≡ Some x
  pub second : id_of r.second book ≡ Some y

-- they are there, and on one grid
pub record AreOnOneGrid (book : List Series) (r : Request) : Type 0 where
  pub x : ℕ
  pub y : ℕ
  pub named : AreNamed book r x y
  pub shift : ℤ
  pub shifted : AreShifted book x y shift

-- the window, the canvas and the range are good, and this is the grid of the first two
pub record IsGridOf (r : Request) (g : Grid) : Type 0 where
  pub window : IsWindow r.t0 r.t1
  pub wide : IsSide r.w
  pub high : IsSide r.h
  pub range : IsGoodRange r.range
  pub shows : ShowsWindow g r.t0 r.t1
  pub canvas : HasCanvas g r.w r.h

-- the range by its word, where the word names one
abbrev pub asked_range : RangeWord → Option ValueRange
asked_range Auto = None
asked_range (Fixed lo hi) = Some (record { lo = lo; hi = hi })

-- ---- the answer

-- the text is the picture of the chart of a times the first series and b times the second
pub record IsAnswer (book : List Series) (r : Request) (text : List ℕ) : Type 0 where
  pub series : AreOnOneGrid book r
  pub grid : Grid
  pub grid_is : IsGridOf r grid
  pub canvas : Canvas
  pub chart : IsDerivedChart book series.x series.y r.a r.b grid (asked_range r.range) canvas
  pub text_is : text ≡ picture canvas

-- a sum in the window is more than 10^18 in size
pub record HasLarge (book : List Series) (r : Request) : Type 0 where
  pub series : AreOnOneGrid book r
  pub grid : Grid
  pub grid_is : IsGridOf r grid
  pub time : ℤ
  pub large : HasLargeSum book series.x series.y r.a r.b grid time

-- Why a request is refused: the first of these that applies.
abbrev pub IsRefused : List Series → Request → DeriveRefusal → Type 0
IsRefused book r UnknownSeries = (id_of r.first book ≡ None) ⊎ (id_of r.second book ≡ None)
IsRefused book r NotOneGrid = (x : ℕ) × (y : ℕ) × AreNamed book r x y × AreUnlike book x y
IsRefused book r BadWindow = AreOnOneGrid book r × IsBadWindow r.t0 r.t1
IsRefused book r BadCanvas = AreOnOneGrid book r × IsWindow r.t0 r.t1 × (IsBadSide r.w ⊎ IsBadSide r.h)
IsRefused book r BadRange = AreOnOneGrid book r × IsWindow r.t0 r.t1 × IsSide r.w × IsSide r.h × IsBadRange r.range
IsRefused book r TooLarge = HasLarge book r

-- the number of a refusal: those of a view have the numbers that `serve` gives them
abbrev pub number_of : DeriveRefusal → ℕ
number_of UnknownSeries = number_for_lines line.UnknownSeries
number_of NotOneGrid = OTHER_GRID
number_of BadWindow = number_for_lines line.BadWindow
number_of BadCanvas = number_for_lines line.BadCanvas
number_of BadRange = number_for_lines line.BadRange
number_of TooLarge = SUM_TOO_LARGE

-- each series of the book has a step
abbrev pub HaveSteps : List Series → Type 0
HaveSteps book = (id : ℕ) (series : Series) → slice_get book id ≡ Some series → 0 < series.step

-- ---- lines

-- What the answer to a request is, why it is refused, and which page is called damaged for it.
pub record Answering : Type 1 where
  pub answers : Request → List ℕ → Type 0
  pub refuses : Request → DeriveRefusal → Type 0
  pub damages : Request → ℕ → Type 0

-- by a book: no page that stands for it is damaged
abbrev pub by_book : List Series → Answering
by_book book = record { answers = IsAnswer book; refuses = IsRefused book; damages = λ r page. ⊥ }

-- a line says a request, and the text is its answer
pub record AnswersLine (answers : Request → List ℕ → Type 0) (line : Option (List ℕ)) (text : List ℕ) : Type 0 where
  pub request : Request
  pub says_it : Says line request
  pub answer : answers request text

-- a line says a request that is refused
pub record RefusesLine (refuses : Request → DeriveRefusal → Type 0) (line : Option (List ℕ)) (refusal : DeriveRefusal) : Type 0 where
  pub request : Request
  pub says_it : Says line request
  pub refused : refuses request refusal

-- a line says a request for which the page is called damaged
pub record DamagesLine (damages : Request → ℕ → Type 0) (line : Option (List ℕ)) (page : ℕ) : Type 0 where
  pub request : Request
  pub says_it : Says line request
  pub damaged : damages request page

-- a line says a request that isn't refused over the book
pub record IsUnrefused (book : List Series) (line : Option (List ℕ)) : Type 0 where
  pub request : Request
  pub says_it : Says line request
  pub unrefused : (why : DeriveRefusal) → IsRefused book request why → ⊥
