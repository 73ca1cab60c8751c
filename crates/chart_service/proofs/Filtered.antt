-- Views by their filters: which answer is whose, and what a filtered view is answered.
use Rattle.std.proofs.Common.{◌≡◌, ℕ, ℤ, suc, ◌+◌, ◌^◌, ◌<◌, ◌≤◌, false, true, List, [], ◌∷◌, length, Option, None, Some, Result, Ok, Err}
use Rattle.std.proofs.Common.{IfOk, IfErr, refl, sym, subst, inr, arith}
use Rattle.std.specs.Prelude.{All, IsSomeAnd, is_none}
use Rattle.std.proofs.lemmas.List.Elements.{All-head, All-tail}
use Rattle.chart_grid.specs.declared.axis.Axis.{Axis}
use Rattle.chart_grid.specs.Limits as window
use Rattle.om3_coeff.specs.declared.errors.NodeError.{NodeError}
use Rattle.om3_coeff.specs.declared.errors.NodeError.TheVariants.{DiskFault}
use Rattle.om3_coeff.specs.View.{NodesView, Agrees, HasCause}
use Rattle.value_filter.specs.declared.steps.Step.{Step}
use Rattle.m4_groups.specs.declared.row.Row.{Row}
use Rattle.m4_groups.specs.Rows.{AreRising}
use Rattle.m4_groups.specs.Heights.{IsDrawable}
use Rattle.needed_nodes.specs.Answers.{IsShownRow}
use Rattle.filter_scan.specs.Answers.{IsCauseOf}
use Rattle.filter_scan.specs.declared.scan_error.ScanError.{ScanError}
use Rattle.filter_scan.specs.declared.scan_error.ScanError.TheVariants as scan
use Rattle.series_book.specs.declared.one_series.Series.{Series}
use Rattle.zoom_session.specs.declared.view_spec.ViewSpec.{ViewSpec}
use Rattle.zoom_session.specs.Sessions.{is_open, viewed}
use Rattle.chart_frames.specs.declared.frame.Frame.{Frame}
use Rattle.chart_frames.specs.declared.frame.Frame.TheVariants.{Rows}
use Rattle.chart_frames.specs.declared.frame.RowsFrame.{RowsFrame}
use Rattle.chart_frames.specs.Frames.{FitsRow, FitsRows}
use Rattle.chart_service.specs.State.{State}
use Rattle.chart_service.specs.Viewing.{AnswersRows, axis_of, rows_frame}
use Rattle.chart_service.specs.Replies.{AnswersBy, AnswersView, RepliesByText}
use Rattle.chart_service.specs.Planning.{IsFilterOf, ShowsOf, FitInFrame, ShowsIn, ShowsOrStops}
use Rattle.chart_service.specs.declared.shown_rows.ShownRows.{ShownRows}
use Rattle.chart_service.proofs.Lasts.{somebody}

-- ---- by the filter

none_is : (o : Option (List Step)) → is_none o ≡ true → o ≡ None
none_is None is = refl
none_is (Some steps) is = cc

pub unfiltered : (o : Option (List Step)) → is_none o ≡ true → o ≡ None
unfiltered o is = none_is o is

-- a view without a filter
pub unfiltered_view : (book : Option Series) (spec : ViewSpec) (number : ℕ) (frame : Frame) (old new : State) → spec.filter ≡ None
    → IsSomeAnd book (λ series. AnswersBy None series spec number frame old new)
    → IsSomeAnd book (λ series. AnswersView series spec number frame old new)
unfiltered_view book spec number frame old new none answers =
    let P : Option (List Step) → Type 0 = λ o. IsSomeAnd book (λ series. AnswersBy o series spec number frame old new) in
    subst P (sym none) answers

filtered_by : (o : Option (List Step)) (book : Option Series) (spec : ViewSpec) (number : ℕ) (frame : Frame) (old new : State)
    → is_none o ≡ false → IsSomeAnd book (λ series. AnswersRows series spec number frame old new)
    → IsSomeAnd book (λ series. AnswersBy o series spec number frame old new)
filtered_by None book spec number frame old new some answers = cc
filtered_by (Some steps) book spec number frame old new some answers = answers

-- and one with a filter
pub filtered_view : (book : Option Series) (spec : ViewSpec) (number : ℕ) (frame : Frame) (old new : State) → is_none spec.filter ≡ false
    → IsSomeAnd book (λ series. AnswersRows series spec number frame old new)
    → IsSomeAnd book (λ series. AnswersView series spec number frame old new)
filtered_view book spec number frame old new some answers = filtered_by spec.filter book spec number frame old new some answers

-- ---- by the filter's text

-- a view with the filter that its text spells
pub spelled_view : (text : Option (List ℕ)) (filter : Option (List Step)) (Reply : Option (List Step)
    → Type 0) (frame : Frame) (old new : State) → IsFilterOf text (Ok filter) → Reply filter → RepliesByText text Reply frame old new
spelled_view None filter Reply frame old new is reply = subst Reply is reply
spelled_view (Some text) None Reply frame old new is reply = absurd is
spelled_view (Some text) (Some steps) Reply frame old new is reply =
    let P : List Step → Type 0 = λ s. Reply (Some s) in
    inr (is.0, is.1, subst P is.2 reply)

-- ---- the rows of a frame

rises_from : (b w : ℕ) (rows : List Row) → b ≤ w → All (λ r. b ≤ r.column) rows → AreRising rows → All (λ r. r.column < w) rows
    → b + length rows ≤ w
rises_from b w [] low from rising below = omega (arith, low)
rises_from b w (r ∷ rows) low from rising below =
    let here : b ≤ r.column = All-head (λ s. b ≤ s.column) r rows from in
    let inside : r.column < w = All-head (λ s. s.column < w) r rows below in
    let behind : All (λ s. suc r.column ≤ s.column) rows = λ k d within. let up = rising 0 (suc k) d (omega arith)
    (omega (arith, within)) in omega (arith, up) in
    let later : AreRising rows = λ i j d less within. rising (suc i) (suc j) d (omega (arith, less)) (omega (arith, within)) in
    let rest = rises_from (suc r.column) w rows (omega (arith, inside)) behind later (All-tail (λ s. s.column < w) r rows below) in
    omega (arith, rest, here)

-- rows of rising columns below w are at most w
pub few_rows : (w : ℕ) (rows : List Row) → AreRising rows → All (IsShownRow w) rows → length rows ≤ w
few_rows w rows rising shown =
    let all = rises_from 0 w rows (omega arith) (λ k d within. omega arith) rising (λ k d within. (shown k d within).drawable.column) in
    omega (arith, all)

pub drawable_rows : (w : ℕ) (rows : List Row) → All (IsShownRow w) rows → All (IsDrawable w) rows
drawable_rows w rows shown = λ k d within. (shown k d within).drawable

row_fits : (w : ℕ) (r : Row) → IsShownRow w r → FitsRow w r
row_fits w r is = record {
  column = is.drawable.column;
  first = is.drawable.first;
  least = is.drawable.least;
  greatest = is.drawable.greatest;
  last = is.drawable.last;
  order = record { least_first = is.first_low; first_greatest = is.first_high; least_last = is.last_low; last_greatest = is.last_high };
}

-- all fields of an answered view
pub rows_fit : (number : ℕ) (spec : ViewSpec) (shown : ShownRows) → 1 ≤ number → number < 2 ^ 32 → window.IsSide spec.grid.w
    → window.IsSide spec.grid.h → FitInFrame spec.grid.w shown → FitsRows (rows_frame number spec shown.range shown.rows)
rows_fit number spec shown low high wide tall fit = record {
  head = record {
    session = record { low = low; high = high };
    width = record { low = omega (arith, wide.some); high = omega (arith, wide.most) };
    height = record { low = omega (arith, tall.some); high = omega (arith, tall.most) };
    range = fit.range;
    most = few_rows spec.grid.w shown.rows fit.rising fit.rows;
  };
  count = refl;
  rows = record { each = λ k d within. row_fits spec.grid.w _ (fit.rows k d within); order = fit.rising };
}

-- ---- the answer

rows_in : (series : Series) (spec : ViewSpec) (number : ℕ) (shown : ShownRows) (old new : State) → is_open number old.sessions ≡ true
    → ShowsIn series spec shown → new ≡ record old { sessions = viewed number spec None old.sessions }
    → AnswersRows series spec number (Rows (rows_frame number spec shown.range shown.rows)) old new
rows_in series spec number shown old new there is state =
    let one = somebody number old.sessions there in
    record {
      session = one.0;
      open_is = one.1;
      range = shown.range;
      shown = is.of.range;
      rows = shown.rows;
      are_rows = is.of.rows;
      frame_is = refl;
      state = state;
    }

-- an answered view with a filter
pub answered_rows : (book : Option Series) (spec : ViewSpec) (number : ℕ) (shown : ShownRows) (rows : RowsFrame) (old new : State)
    → is_open number old.sessions ≡ true → IsSomeAnd book (λ series. ShowsIn series spec shown)
    → rows ≡ rows_frame number spec shown.range shown.rows → new ≡ record old { sessions = viewed number spec None old.sessions }
    → IsSomeAnd book (λ series. AnswersRows series spec number (Rows rows) old new)
answered_rows None spec number shown rows old new there is frame state = is
answered_rows (Some series) spec number shown rows old new there is frame state =
    let P : RowsFrame → Type 0 = λ r. AnswersRows series spec number (Rows r) old new in
    subst P (sym frame) (rows_in series spec number shown old new there is state)

stops_by : (old new : NodesView) (e : ScanError) (series : Series) (spec : ViewSpec)
    → ((n : NodeError) → HasCause old new n → n ≡ DiskFault) → IsCauseOf old new e → ShowsOrStops series spec (Err e)
stops_by old new (scan.Node n) series spec never cause = never n cause
stops_by old new scan.NoMemory series spec never cause = tt

shows_so : (series : Series) (spec : ViewSpec) (old new : NodesView) (r : Result ShownRows ScanError)
    → ((n : NodeError) → HasCause old new n → n ≡ DiskFault) → IfOk r (ShowsOf series.slots (axis_of series) spec)
    → IfOk r (FitInFrame spec.grid.w) → IfErr r (IsCauseOf old new) → ShowsOrStops series spec r
shows_so series spec old new (Ok shown) never of fit cause = record { of = of; fit = fit }
shows_so series spec old new (Err e) never of fit cause = stops_by old new e series spec never cause

-- what a filtered view shows over the nodes of a series
pub shows_over : (series : Series) (spec : ViewSpec) (axis : Axis) (old new : NodesView) (r : Result ShownRows ScanError)
    → axis ≡ axis_of series → Agrees old series.slots → ((n : NodeError) → HasCause old new n → n ≡ DiskFault)
    → ((l : List (Option ℤ)) → Agrees old l → IfOk r (ShowsOf l axis spec)) → IfOk r (FitInFrame spec.grid.w) → IfErr r (IsCauseOf old new)
    → ShowsOrStops series spec r
shows_over series spec axis old new r at mine never of fit cause =
    let S : Axis → Type 0 = λ a. IfOk r (ShowsOf series.slots a spec) in
    shows_so series spec old new r never (subst S at (of series.slots mine)) fit cause
