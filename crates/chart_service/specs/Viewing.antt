-- An answered view: its frame, and the chart that it stands for.
use Rattle.std.specs.Prelude.{◌≡◌, ◌⊎◌, ℕ, ℤ, pos, ◌<◌, ◌≤◌, ◌≤ℤ◌, ◌<ℤ◌, unsigned_abs, ⊤, List, length, filter, Option, None, Some}
use Rattle.whole_number.specs.declared.limits.TheConstants.{GREATEST_VALUE}
use Rattle.series_book.specs.declared.one_series.Series.{Series}
use Rattle.request_lines.specs.declared.ranges.RangeWord.{RangeWord}
use Rattle.request_lines.specs.declared.ranges.RangeWord.TheVariants as word
use Rattle.chart_grid.specs.declared.axis.Axis.{Axis}
use Rattle.chart_grid.specs.declared.grid.Grid.{Grid}
use Rattle.om3_coeff.specs.declared.key.Key.{Key}
use Rattle.om3_coeff.specs.declared.span.Span.{Span}
use Rattle.om3_coeff.specs.declared.coef.Coef.{Coef}
use Rattle.om3_coeff.specs.Spans.{span_over}
use Rattle.om3_coeff.specs.Coefs.{coef}
use Rattle.view_keys.specs.Needed.{IsNeeded}
use Rattle.view_keys.specs.Listed.{IsListOf}
use Rattle.coefficient_cache.specs.Views.{to_send}
use Rattle.zoom_session.specs.declared.session.Session.{Session}
use Rattle.zoom_session.specs.declared.view_spec.ViewSpec.{ViewSpec}
use Rattle.zoom_session.specs.declared.view_spec.RangeSpec.{RangeSpec}
use Rattle.zoom_session.specs.declared.view_spec.RangeSpec.TheVariants.{Auto, Fixed}
use Rattle.zoom_session.specs.Sessions.{session_of, viewed}
use Rattle.plain_chart.specs.declared.value_range.ValueRange.{ValueRange}
use Rattle.plain_chart.specs.declared.sample.Sample.{Sample}
use Rattle.plain_chart.specs.Samples.{kept, values_of, IsRange, sample_points}
use Rattle.whole_number.specs.Range.{IsValue}
use Rattle.line_raster.specs.Canvas.{Canvas}
use Rattle.plain_chart.specs.Chart.{IsChart}
use Rattle.m4_groups.specs.declared.row.Row.{Row}
use Rattle.m4_groups.specs.Rows.{AreRowsOf}
use Rattle.query_rewriter.specs.Kept.{passes}
use Rattle.chart_frames.specs.declared.frame.Frame.{Frame}
use Rattle.chart_frames.specs.declared.frame.Frame.TheVariants.{View, Rows}
use Rattle.chart_frames.specs.declared.frame.ViewFrame.{ViewFrame}
use Rattle.chart_frames.specs.declared.frame.RowsFrame.{RowsFrame}
use Rattle.chart_service.specs.State.{State}

-- the times of a series' slots
abbrev pub axis_of : Series → Axis
axis_of series = record { start = series.start; step = series.step; slots = length series.slots }

-- the ends of a range that is asked for are in order, and at most 10^18 in size
abbrev pub IsGoodRange : RangeWord → Type 0
IsGoodRange word.Auto = ⊤
IsGoodRange (word.Fixed lo hi) = (lo ≤ℤ hi) × IsValue lo × IsValue hi

-- they are out of order, or one passes 10^18 in size
abbrev pub IsBadRange : RangeWord → Type 0
IsBadRange word.Auto = ⊥
IsBadRange (word.Fixed lo hi) = (hi <ℤ lo) ⊎ ((GREATEST_VALUE < unsigned_abs lo) ⊎ (GREATEST_VALUE < unsigned_abs hi))

-- the range of a view by the word that asks for it
abbrev pub range_spec : RangeWord → RangeSpec
range_spec word.Auto = Auto
range_spec (word.Fixed lo hi) = Fixed lo hi

-- the range that a view shows: from the least to the greatest of the kept values, or the one that is asked for
abbrev pub ShowsRange : RangeSpec → List ℤ → ValueRange → Type 0
ShowsRange Auto values range = IsRange values range
ShowsRange (Fixed lo hi) values range = (range.lo ≡ lo) × (range.hi ≡ hi)

-- the span of all slots of a series
abbrev pub root_of : Series → Option Span
root_of series = span_over series.slots 0 (length series.slots)

-- 1 where the series has a stored value, and its least and greatest one; 0 where it has none
abbrev pub has_of : Option Span → ℕ
has_of None = 0
has_of (Some s) = 1

abbrev pub least_of : Option Span → ℤ
least_of None = pos 0
least_of (Some s) = s.min

abbrev pub greatest_of : Option Span → ℤ
greatest_of None = pos 0
greatest_of (Some s) = s.max

-- the fields of a view's frame: session, view, range, what is told of the series, and the coefficients sent
abbrev pub view_frame : ℕ → ViewSpec → ValueRange → Series → List (Key × Coef) → ViewFrame
view_frame number spec range series send = record {
  session = number;
  series = spec.series;
  w = spec.grid.w;
  h = spec.grid.h;
  t0 = spec.grid.t0;
  t1 = spec.grid.t1;
  lo = range.lo;
  hi = range.hi;
  start = series.start;
  step = series.step;
  slots = length series.slots;
  has = has_of (root_of series);
  rmin = least_of (root_of series);
  rmax = greatest_of (root_of series);
  count = length send;
  coefs = send;
}

-- the keys that a view of a series over this range needs, with their present coefficients, in order
abbrev pub AreNeeded : Series → Grid → ValueRange → List (Key × Coef) → Type 0
AreNeeded series grid range needed =
    IsListOf (IsNeeded series.slots (axis_of series) grid range.lo range.hi) (λ k. Some (coef series.slots k)) needed

-- The view, which has no filter, is answered: of the keys that it needs those are sent which the session's client lacks or
-- holds with an old coefficient, and the session keeps the view and the client's list.
pub record Answers (series : Series) (spec : ViewSpec) (number : ℕ) (answer : Frame) (old new : State) : Type 0 where
  pub session : Session
  pub open_is : session_of number old.sessions ≡ Some session
  pub range : ValueRange
  pub shown : ShowsRange spec.range (values_of (kept spec.grid (axis_of series) series.slots)) range
  pub needed : List (Key × Coef)
  pub are_needed : AreNeeded series spec.grid range needed
  pub room : length needed ≤ session.cache.capacity
  pub frame_is : answer ≡ View (view_frame number spec range series (to_send session.cache.pairs spec.series needed))
  pub state : new ≡ record old { sessions = viewed number spec (Some needed) old.sessions }

-- the samples that a view keeps of a list of slots with these times: those of the stored slots in its window of
-- which its filter holds, where it has one, in order of time
abbrev pub kept_of : ViewSpec → Axis → List (Option ℤ) → List Sample
kept_of spec axis slots = filter (passes spec.filter) (kept spec.grid axis slots)

-- the samples that it keeps of a series
abbrev pub kept_by : ViewSpec → Series → List Sample
kept_by spec series = kept_of spec (axis_of series) series.slots

-- the fields of a filtered view's frame: session, canvas, range, and the rows that are sent
abbrev pub rows_frame : ℕ → ViewSpec → ValueRange → List Row → RowsFrame
rows_frame number spec range rows = record {
  session = number;
  w = spec.grid.w;
  h = spec.grid.h;
  lo = range.lo;
  hi = range.hi;
  count = length rows;
  rows = rows;
}

-- The filtered view is answered: the rows of the samples that it keeps are sent. The session keeps the view, and its
-- client's list stays as it is.
pub record AnswersRows (series : Series) (spec : ViewSpec) (number : ℕ) (answer : Frame) (old new : State) : Type 0 where
  pub session : Session
  pub open_is : session_of number old.sessions ≡ Some session
  pub range : ValueRange
  pub shown : ShowsRange spec.range (values_of (kept_by spec series)) range
  pub rows : List Row
  pub are_rows : AreRowsOf spec.grid (sample_points (kept_by spec series)) rows
  pub frame_is : answer ≡ Rows (rows_frame number spec range rows)
  pub state : new ≡ record old { sessions = viewed number spec None old.sessions }

-- the drawing is the chart of a series for a view's frame
pub record ShowsView (series : Series) (view : ViewFrame) (drawing : Canvas) : Type 0 where
  pub grid : Grid
  pub from : grid.t0 ≡ view.t0
  pub to : grid.t1 ≡ view.t1
  pub columns : grid.w ≡ view.w
  pub rows : grid.h ≡ view.h
  pub chart : IsChart grid (record { lo = view.lo; hi = view.hi }) (kept grid (axis_of series) series.slots) drawing

-- the drawing is the chart of the samples that a filtered view keeps of a series, over the range that its frame tells
pub record ShowsRows (series : Series) (spec : ViewSpec) (rows : RowsFrame) (drawing : Canvas) : Type 0 where
  pub columns : spec.grid.w ≡ rows.w
  pub height : spec.grid.h ≡ rows.h
  pub chart : IsChart spec.grid (record { lo = rows.lo; hi = rows.hi }) (kept_by spec series) drawing
