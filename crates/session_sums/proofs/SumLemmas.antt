-- The frame of a sum.
use Rattle.std.proofs.Common.{◌≡◌, ℕ, ℤ, ◌≤◌, List, length, Option, IfOk, IfErr, refl, sym, subst, arith, inl, inr}
use Rattle.std.specs.Prelude.{All}
use Rattle.block_disk.specs.View.{View}
use Rattle.chart_frames.specs.Frames.{Fits, FitsRefused, FitsRow, FitsRows, IsRange, IsSession}
use Rattle.chart_frames.specs.declared.frame.RowsFrame.{RowsFrame}
use Rattle.series_book.specs.declared.refusal_numbers.TheConstants.{SUM_TOO_LARGE}
use Rattle.chart_grid.specs.Limits as window
use Rattle.chart_grid.specs.declared.grid.Grid.{Grid}
use Rattle.chart_service.proofs.Filtered.{few_rows}
use Rattle.chart_service.specs.Faulting.{step_fault}
use Rattle.chart_service.specs.Stepping.{IsOutside}
use Rattle.chart_world.specs.Faults.{CountsFault, fault_in}
use Rattle.derive_command.specs.Answers.{AreOnOneGrid, IsRefused}
use Rattle.derive_command.specs.Doing.{IsAsked}
use Rattle.derive_command.specs.declared.asked.Asked.{Asked}
use Rattle.derive_command.specs.declared.derive_refusal.DeriveRefusal.{DeriveRefusal}
use Rattle.derive_command.specs.declared.derive_refusal.DeriveRefusal.TheVariants as why
use Rattle.derive_command.specs.declared.request.Request.{Request}
use Rattle.derived_chart.specs.Rows.{IsOrdered}
use Rattle.m4_groups.specs.Heights.{IsDrawable}
use Rattle.m4_groups.specs.Rows.{AreRising}
use Rattle.m4_groups.specs.declared.row.Row.{Row}
use Rattle.needed_nodes.specs.Answers.{IsShownRow}
use Rattle.plain_chart.specs.Samples.{kept, values_of}
use Rattle.plain_chart.specs.declared.sample.Sample.{Sample}
use Rattle.plain_chart.specs.declared.value_range.ValueRange.{ValueRange}
use Rattle.series_book.specs.declared.one_series.Series.{Series}
use Rattle.std.specs.Int.{w64}
use Rattle.std.proofs.Common.{to_z, of_z}
use Rattle.std.proofs.lemmas.Int.{to_z-of_z, fits_signed_from_abs}
use Rattle.whole_number.specs.Range.{IsValue}
use Rattle.series_pair.specs.Costs.{ReadsSum}
use Rattle.series_pair.specs.DamageLaws.{chart_bad}
use Rattle.series_pair.specs.Derived.{AreSamplesOf, AreSumRows, IsChartCause, IsSumError, MayShow, ShowsRange, sum_fault}
use Rattle.series_pair.specs.declared.sum_error.SumError.{SumError}
use Rattle.series_pair.specs.declared.sum_error.SumError.TheVariants as sum
use Rattle.session_sums.specs.Costs.{ReadsAnswer}
use Rattle.session_sums.specs.Sums.{AnswersSum, HasSumRows, IsSumCause, ShowsRows, error_reply, refused}

-- ---- the fields

shown_rows : (w : ℕ) (rows : List Row) → All (IsDrawable w) rows → All IsOrdered rows → All (IsShownRow w) rows
shown_rows w rows drawable ordered = λ k d within.
    let order = ordered k d within in
    record {
      drawable = drawable k d within;
      first_low = order.first_low;
      first_high = order.first_high;
      last_low = order.last_low;
      last_high = order.last_high;
    }

pub few : (w : ℕ) (rows : List Row) → AreRising rows → All (IsDrawable w) rows → All IsOrdered rows → length rows ≤ w
few w rows rising drawable ordered = few_rows w rows rising (shown_rows w rows drawable ordered)

row_fits : (w : ℕ) (r : Row) → IsDrawable w r → IsOrdered r → FitsRow w r
row_fits w r is order = record {
  column = is.column;
  first = is.first;
  least = is.least;
  greatest = is.greatest;
  last = is.last;
  order = record {
    least_first = order.first_low;
    first_greatest = order.first_high;
    least_last = order.last_low;
    last_greatest = order.last_high;
  };
}

pub fields_fit : (session : ℕ) (g : Grid) (lo hi : ℤ) (rows : List Row) → IsSession session → window.IsSide g.w → window.IsSide g.h
    → IsRange lo hi → AreRising rows → All (IsDrawable g.w) rows → All IsOrdered rows
    → FitsRows (record { session = session; w = g.w; h = g.h; lo = lo; hi = hi; count = length rows; rows = rows })
fields_fit session g lo hi rows named wide tall range rising drawable ordered = record {
  head = record {
    session = named;
    width = record { low = omega (arith, wide.some); high = omega (arith, wide.most) };
    height = record { low = omega (arith, tall.some); high = omega (arith, tall.most) };
    range = range;
    most = few g.w rows rising drawable ordered;
  };
  count = refl;
  rows = record { each = λ k d within. row_fits g.w _ (drawable k d within) (ordered k d within); order = rising };
}

-- ---- refusals

plain : (number : ℕ) → 1 ≤ number → number ≤ SUM_TOO_LARGE → FitsRefused number 0 0
plain number low high = record {
  low = low;
  high = high;
  first = omega arith;
  second = omega arith;
  no_first = λ none. refl;
  no_second = λ none. refl;
}

pub refusal_fits : (refusal : DeriveRefusal) → Fits (refused refusal)
refusal_fits why.UnknownSeries = plain 8 (omega arith) (omega arith)
refusal_fits why.NotOneGrid = plain 23 (omega arith) (omega arith)
refusal_fits why.BadWindow = plain 17 (omega arith) (omega arith)
refusal_fits why.BadCanvas = plain 18 (omega arith) (omega arith)
refusal_fits why.BadRange = plain 19 (omega arith) (omega arith)
refusal_fits why.TooLarge = plain 24 (omega arith) (omega arith)

pub refuses : (book : List Series) (r : Request) (session : ℕ) (why : DeriveRefusal) → IsRefused book r why
    → AnswersSum book r session (refused why)
refuses book r session why is = record { why = why; refused_for = is; frame_is = refl }

-- the series, the grid and the range of what is asked
abbrev pub asked_series : (book : List Series) (r : Request) (asked : Asked) → IsAsked book r asked → AreOnOneGrid book r
asked_series book r asked is = record { x = asked.x; y = asked.y; named = is.named; shift = asked.sum.shift; shifted = is.shifted }

-- a sum that is too large
large : (book : List Series) (r : Request) (asked : Asked) (time : ℤ) → IsAsked book r asked
    → IsSumError book asked.x asked.y asked.sum.a asked.sum.b asked.grid (sum.TooLarge time) → IsRefused book r why.TooLarge
large book r asked time is error =
    let A : ℤ → Type 0 = λ a. IsSumError book asked.x asked.y a asked.sum.b asked.grid (sum.TooLarge time) in
    let B : ℤ → Type 0 = λ b. IsSumError book asked.x asked.y r.a b asked.grid (sum.TooLarge time) in
    record {
      series = asked_series book r asked is;
      grid = asked.grid;
      grid_is = is.grid_is;
      time = time;
      large = subst B is.b (subst A is.a error);
    }

pub error_answers : (book : List Series) (r : Request) (session : ℕ) (asked : Asked) (e : SumError) → IsAsked book r asked
    → IsSumError book asked.x asked.y asked.sum.a asked.sum.b asked.grid e → IfOk (error_reply e) (AnswersSum book r session)
error_answers book r session asked (sum.TooLarge time) is error = refuses book r session why.TooLarge (large book r asked time is error)
error_answers book r session asked sum.DiskFault is error = tt
error_answers book r session asked (sum.Damaged page) is error = tt
error_answers book r session asked sum.NoMemory is error = tt

pub error_outside : (book : List Series) (x y : ℕ) (a b : ℤ) (g : Grid) (e : SumError) → IsSumError book x y a b g e
    → IfErr (error_reply e) IsOutside
error_outside book x y a b g (sum.TooLarge time) error = tt
error_outside book x y a b g sum.DiskFault error = inl refl
error_outside book x y a b g (sum.Damaged page) error = absurd error
error_outside book x y a b g sum.NoMemory error = inr refl

pub error_cause : (x y : ℕ) (e : SumError) (told : Type 0) (total : ℕ) (old new : View) → IsChartCause x y e told total old new
    → IfErr (error_reply e) (λ error. IsSumCause error told total old new)
error_cause x y (sum.TooLarge time) told total old new cause = tt
error_cause x y sum.DiskFault told total old new cause = cause
error_cause x y (sum.Damaged page) told total old new cause = (cause.0, λ t. chart_bad x y new.size new.image page (cause.1 t))
error_cause x y sum.NoMemory told total old new cause = tt

pub error_faults : (e : SumError) (old new : View) → CountsFault (sum_fault e) old new
    → CountsFault (fault_in step_fault (error_reply e)) old new
error_faults (sum.TooLarge time) old new counts = counts
error_faults sum.DiskFault old new counts = counts
error_faults (sum.Damaged page) old new counts = counts
error_faults sum.NoMemory old new counts = counts

-- ---- rows

pub has_rows : (book : List Series) (r : Request) (session : ℕ) (asked : Asked) (rows : List Row) (frame : RowsFrame)
    → (is : IsAsked book r asked) → (are : AreSumRows book asked.x asked.y asked.sum.a asked.sum.b asked.grid rows)
    → ShowsRows session asked.grid asked.range (kept asked.grid are.axis are.sums) rows frame → HasSumRows book r session frame
has_rows book r session asked rows frame is are shows =
    let S : Option ValueRange → Type 0 = λ o. ShowsRows session asked.grid o (kept asked.grid are.axis are.sums) rows frame in
    record {
      series = asked_series book r asked is;
      grid = asked.grid;
      grid_is = is.grid_is;
      rows = rows;
      are = record {
        axis = are.axis;
        sums = are.sums;
        step = are.step;
        are = (let A : ℤ → Type 0 = λ a. AreSamplesOf book asked.x asked.y a asked.sum.b asked.grid (kept asked.grid are.axis are.sums) in
            let B : ℤ → Type 0 = λ b. AreSamplesOf book asked.x asked.y r.a b asked.grid (kept asked.grid are.axis are.sums) in
            subst B is.b (subst A is.a are.are));
        values = are.values;
        rows_are = are.rows_are;
      };
      fields = subst S is.range_is shows;
    }

-- they read no more than by the slots in the window
pub rows_read : (book : List Series) (r : Request) (asked : Asked) (old new : ℕ) → IsAsked book r asked
    → ReadsSum book asked.x asked.y asked.grid old new → ReadsAnswer book r old new
rows_read book r asked old new is few = inr (record {
  series = asked_series book r asked is;
  grid = asked.grid;
  grid_is = is.grid_is;
  few = few;
})

-- a range as it is passed
passed : (v : ℤ) → IsValue v → to_z w64 (of_z w64 v) ≡ v
passed v small = to_z-of_z w64 v (fits_signed_from_abs w64 v (omega (arith, small)))

pub frame_shows : (session : ℕ) (g : Grid) (asked : Option ValueRange) (samples : List Sample) (rows : List Row) (range : ValueRange)
    (w h count : ℕ) → w ≡ g.w → h ≡ g.h → count ≡ length rows → MayShow range
    → ShowsRange asked (values_of samples) range
    → ShowsRows session g asked samples rows (record {
      session = session;
      w = w;
      h = h;
      lo = to_z w64 (of_z w64 range.lo);
      hi = to_z w64 (of_z w64 range.hi);
      count = count;
      rows = rows;
    })
frame_shows session g asked samples rows range w h count wide tall counted may shows =
    let low = passed range.lo may.scale.low in
    let high = passed range.hi may.high in
    record {
      range = range;
      shows = shows;
      is = λ i. record {
        session = session;
        w = wide i;
        h = tall i;
        lo = low i;
        hi = high i;
        count = counted i;
        rows = rows;
      };
    }

pub frame_fits : (session : ℕ) (g : Grid) (range : ValueRange) (rows : List Row) (w h count : ℕ) → w ≡ g.w → h ≡ g.h → count ≡ length rows
    → MayShow range → IsSession session → window.IsSide g.w → window.IsSide g.h → AreRising rows → All (IsDrawable g.w) rows
    → All IsOrdered rows
    → FitsRows (record {
      session = session;
      w = w;
      h = h;
      lo = to_z w64 (of_z w64 range.lo);
      hi = to_z w64 (of_z w64 range.hi);
      count = count;
      rows = rows;
    })
frame_fits session g range rows w h count wide tall counted may named columns height rising drawable ordered =
    let low = passed range.lo may.scale.low in
    let high = passed range.hi may.high in
    let same : ◌≡◌ {A = RowsFrame} (record {
      session = session;
      w = g.w;
      h = g.h;
      lo = range.lo;
      hi = range.hi;
      count = length rows;
      rows = rows;
    }) (record {
      session = session;
      w = w;
      h = h;
      lo = to_z w64 (of_z w64 range.lo);
      hi = to_z w64 (of_z w64 range.hi);
      count = count;
      rows = rows;
    }) =
    sym (λ i. record { session = session; w = wide i; h = tall i; lo = low i; hi = high i; count = counted i; rows = rows }) in
    subst FitsRows same (fields_fit session g range.lo range.hi rows named columns height
    (record { low = may.scale.low; high = may.high; ordered = may.scale.order }) rising drawable ordered)
