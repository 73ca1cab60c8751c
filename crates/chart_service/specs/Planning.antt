-- How a view is planned, before it is answered. Private contracts are stated by these words.
use Rattle.std.specs.Prelude.{ℕ, ℤ, ◌≡◌, ◌+◌, ◌*◌, ◌<◌, ◌⊎◌, List, length, All, Option, None, Some, Result, Ok, Err, ⊤}
use Rattle.chart_grid.specs.declared.axis.Axis.{Axis}
use Rattle.chart_grid.specs.declared.grid.Grid.{Grid}
use Rattle.chart_grid.specs.declared.grid_error.GridError.{GridError}
use Rattle.chart_grid.specs.declared.grid_error.GridError.TheVariants as grid
use Rattle.chart_grid.specs.Limits.{IsWindow, IsSide, IsBadWindow, IsBadSide}
use Rattle.chart_grid.specs.Projection.{ShowsWindow, HasCanvas}
use Rattle.om3_coeff.specs.declared.key.Key.{Key}
use Rattle.om3_coeff.specs.declared.coef.Coef.{Coef}
use Rattle.om3_coeff.specs.declared.errors.NodeError.TheVariants.{DiskFault as AtDisk}
use Rattle.om3_coeff.specs.Keys.{height}
use Rattle.om3_coeff.specs.Spans.{IsProperIfAny, span_over}
use Rattle.om3_coeff.specs.View.{NodesView, HasCause}
use Rattle.plain_chart.specs.declared.value_range.ValueRange.{ValueRange}
use Rattle.plain_chart.specs.Samples.{kept, values_of, sample_points}
use Rattle.request_lines.specs.declared.ranges.RangeWord.{RangeWord}
use Rattle.value_filter.specs.declared.steps.Step.{Step}
use Rattle.value_filter.specs.declared.faults.FilterFault.{FilterFault}
use Rattle.value_filter.specs.declared.faults.FilterFault.TheVariants as filter_fault
use Rattle.value_filter.specs.Expressions.{Expression}
use Rattle.value_filter.specs.Steps.{postfix}
use Rattle.value_filter.specs.Grammar.{IsFilter, LeavesAt}
use Rattle.m4_groups.specs.Rows.{AreRising, AreRowsOf}
use Rattle.needed_nodes.specs.Answers.{IsShownRow}
use Rattle.filter_scan.specs.declared.scan_error.ScanError.{ScanError}
use Rattle.filter_scan.specs.declared.scan_error.ScanError.TheVariants as scan
use Rattle.series_book.specs.declared.one_series.Series.{Series}
use Rattle.series_book.specs.declared.refusals.Refusal.{Refusal}
use Rattle.series_book.specs.declared.refusals.Refusal.TheVariants.{UnknownSession, NoView, BadWindow, BadCanvas, BadRange}
use Rattle.zoom_session.specs.declared.session.Session.{Session}
use Rattle.zoom_session.specs.declared.view_spec.ViewSpec.{ViewSpec}
use Rattle.zoom_session.specs.declared.errors.PlanError.{PlanError}
use Rattle.zoom_session.specs.declared.errors.PlanError.TheVariants.{TooLarge, Node, NoMemory}
use Rattle.zoom_session.specs.Plans.{PlansIn, IsTooMany, CountsNeeded}
use Rattle.zoom_session.specs.Planned.{IsInBounds}
use Rattle.chart_frames.specs.Frames.{IsRange}
use Rattle.chart_frames.specs.declared.frame.ViewFrame.{ViewFrame}
use Rattle.chart_service.specs.Viewing.{ShowsRange, AreNeeded, axis_of, kept_of, range_spec, has_of, least_of, greatest_of, IsGoodRange}
use Rattle.chart_service.specs.Viewing.{IsBadRange}
use Rattle.chart_service.specs.declared.viewport.Viewport.{Viewport}
use Rattle.chart_service.specs.declared.shown_rows.ShownRows.{ShownRows}
use Rattle.chart_service.specs.declared.shown.Told.{Told}
use Rattle.chart_service.specs.declared.shown.Planned.{Planned}

-- a grid shows the window that is asked for on its canvas, both in range
pub record ShowsViewport (v : Viewport) (g : Grid) : Type 0 where
  pub in_range : IsWindow v.t0 v.t1
  pub wide : IsSide v.w
  pub high : IsSide v.h
  pub window : ShowsWindow g v.t0 v.t1
  pub canvas : HasCanvas g v.w v.h

-- the grid, or why there is none: the window is looked at first
abbrev pub IsGridFor : Viewport → Result Grid GridError → Type 0
IsGridFor v (Ok g) = ShowsViewport v g
IsGridFor v (Err grid.BadWindow) = IsBadWindow v.t0 v.t1
IsGridFor v (Err grid.BadCanvas) = IsWindow v.t0 v.t1 × (IsBadSide v.w ⊎ IsBadSide v.h)

-- the view that is asked for
pub record IsSpec (series : ℕ) (v : Viewport) (word : RangeWord) (filter : Option (List Step)) (spec : ViewSpec) : Type 0 where
  pub of : spec.series ≡ series
  pub grid : ShowsViewport v spec.grid
  pub good : IsGoodRange word
  pub range : spec.range ≡ range_spec word
  pub filter_is : spec.filter ≡ filter

-- why there is none
abbrev pub RefusesSpec : Viewport → RangeWord → Refusal → Type 0
RefusesSpec v word refusal =
    (IsBadWindow v.t0 v.t1 × (refusal ≡ BadWindow))
    ⊎ ((IsWindow v.t0 v.t1 × (IsBadSide v.w ⊎ IsBadSide v.h) × (refusal ≡ BadCanvas))
    ⊎ (IsWindow v.t0 v.t1 × IsSide v.w × IsSide v.h × IsBadRange word × (refusal ≡ BadRange)))

abbrev pub IsSpecFor : ℕ → Viewport → RangeWord → Option (List Step) → Result ViewSpec Refusal → Type 0
IsSpecFor series v word filter (Ok spec) = IsSpec series v word filter spec
IsSpecFor series v word filter (Err refusal) = RefusesSpec v word refusal

-- a grid of the same canvas over another window, or the window is bad
abbrev pub IsMoved : Grid → ℤ → ℤ → Result Grid GridError → Type 0
IsMoved g t0 t1 (Ok moved) = IsWindow t0 t1 × ShowsWindow moved t0 t1 × HasCanvas moved g.w g.h
IsMoved g t0 t1 (Err error) = IsBadWindow t0 t1

-- the last view of a session, or why there is none
abbrev pub IsLast : Option ViewSpec → Result ViewSpec Refusal → Type 0
IsLast None (Ok spec) = ⊥
IsLast None (Err refusal) = refusal ≡ NoView
IsLast (Some last) (Ok spec) = spec ≡ last
IsLast (Some last) (Err refusal) = ⊥

abbrev pub IsLastOf : Option Session → Result ViewSpec Refusal → Type 0
IsLastOf None (Ok spec) = ⊥
IsLastOf None (Err refusal) = refusal ≡ UnknownSession
IsLastOf (Some session) result = IsLast session.last result

-- what is told of a series with these slots, and the range that its view shows
pub record TellsOf (list : List (Option ℤ)) (axis : Axis) (spec : ViewSpec) (told : Told) : Type 0 where
  pub axis_is : told.axis ≡ axis
  pub root : told.root ≡ span_over list 0 (length list)
  pub shown : ShowsRange spec.range (values_of (kept spec.grid axis list)) told.range

-- the numbers of what is told are those that a frame may have
pub record AreInFrame (told : Told) : Type 0 where
  pub root : IsProperIfAny told.root
  pub range : IsRange told.range.lo told.range.hi

-- what a view's text spells, where it has one, or where it leaves the grammar of filters; want of memory is free
abbrev pub IsFilterOf : Option (List ℕ) → Result (Option (List Step)) FilterFault → Type 0
IsFilterOf None (Ok filter) = filter ≡ None
IsFilterOf None (Err (filter_fault.At at)) = ⊥
IsFilterOf None (Err filter_fault.NoMemory) = ⊤
IsFilterOf (Some text) (Ok None) = ⊥
IsFilterOf (Some text) (Ok (Some steps)) = (f : Expression) × IsFilter text f × (steps ≡ postfix f)
IsFilterOf (Some text) (Err (filter_fault.At at)) = LeavesAt text at
IsFilterOf (Some text) (Err filter_fault.NoMemory) = ⊤

-- what a filtered view shows of a list of slots with these times
pub record ShowsOf (list : List (Option ℤ)) (axis : Axis) (spec : ViewSpec) (shown : ShownRows) : Type 0 where
  pub rows : AreRowsOf spec.grid (sample_points (kept_of spec axis list)) shown.rows
  pub range : ShowsRange spec.range (values_of (kept_of spec axis list)) shown.range

-- the rows and the range are those that a frame for a canvas of w columns may have
pub record FitInFrame (w : ℕ) (shown : ShownRows) : Type 0 where
  pub rising : AreRising shown.rows
  pub rows : All (IsShownRow w) shown.rows
  pub range : IsRange shown.range.lo shown.range.hi

-- what a filtered view of a series shows; nothing but a fault of the disk and want of memory keeps it from that
pub record ShowsIn (series : Series) (spec : ViewSpec) (shown : ShownRows) : Type 0 where
  pub of : ShowsOf series.slots (axis_of series) spec shown
  pub fit : FitInFrame spec.grid.w shown

abbrev pub ShowsOrStops : Series → ViewSpec → Result ShownRows ScanError → Type 0
ShowsOrStops series spec (Ok shown) = ShowsIn series spec shown
ShowsOrStops series spec (Err (scan.Node error)) = error ≡ AtDisk
ShowsOrStops series spec (Err scan.NoMemory) = ⊤

-- why a view isn't planned: its session's client keeps fewer keys than it needs; or the nodes gave this
-- error, with its cause
abbrev pub RefusesView : Option Session → NodesView → NodesView → PlanError → Type 0
RefusesView None old new error = ⊥
RefusesView (Some session) old new (TooLarge needed cache) = IsTooMany session needed cache
RefusesView (Some session) old new (Node error) = HasCause old new error
RefusesView (Some session) old new NoMemory = ⊤

-- a view that is too large needs, over the range that it shows, just as many keys as the error says
abbrev pub CountsOver : List (Option ℤ) → Axis → ViewSpec → PlanError → Type 0
CountsOver list axis spec (TooLarge needed cache) =
    (range : ValueRange) × ShowsRange spec.range (values_of (kept spec.grid axis list)) range
    × CountsNeeded list axis spec.grid range.lo range.hi (TooLarge needed cache)
CountsOver list axis spec (Node error) = ⊤
CountsOver list axis spec NoMemory = ⊤

-- the most blocks that a view's asks read: those for the keys that it needs, and those for the range
abbrev pub most_view_reads : ℕ → ℕ → ℕ
most_view_reads w n = (4 * w + 4) * height n

-- what is planned for a view of a series in a session
pub record IsPlannedFor (series : Series) (spec : ViewSpec) (session : Option Session) (planned : Planned) : Type 0 where
  pub needed : AreNeeded series spec.grid planned.told.range planned.plan.needed
  pub plan : PlansIn session spec.series planned.plan
  pub bounds : IsInBounds planned.plan
  pub told : TellsOf series.slots (axis_of series) spec planned.told
  pub in_frame : AreInFrame planned.told

-- why it isn't planned: the view needs too many keys, or the disk failed
pub record IsTooLarge (series : Series) (spec : ViewSpec) (session : Session) (needed cache : ℕ) : Type 0 where
  pub range : ValueRange
  pub shown : ShowsRange spec.range (values_of (kept spec.grid (axis_of series) series.slots)) range
  pub keys : List (Key × Coef)
  pub are_needed : AreNeeded series spec.grid range keys
  pub counted : length keys ≡ needed
  pub capacity : cache ≡ session.cache.capacity
  pub passes : cache < needed

abbrev pub StopsIn : Series → ViewSpec → Option Session → PlanError → Type 0
StopsIn series spec None error = ⊥
StopsIn series spec (Some session) (TooLarge needed cache) = IsTooLarge series spec session needed cache
StopsIn series spec (Some session) (Node error) = error ≡ AtDisk
StopsIn series spec (Some session) NoMemory = ⊤

-- the fields of the frame of what is planned
abbrev pub planned_frame : ℕ → ℕ → Grid → Told → List (Key × Coef) → ViewFrame
planned_frame number id grid told send = record {
  session = number;
  series = id;
  w = grid.w;
  h = grid.h;
  t0 = grid.t0;
  t1 = grid.t1;
  lo = told.range.lo;
  hi = told.range.hi;
  start = told.axis.start;
  step = told.axis.step;
  slots = told.axis.slots;
  has = has_of told.root;
  rmin = least_of told.root;
  rmax = greatest_of told.root;
  count = length send;
  coefs = send;
}

abbrev pub PlansOrStops : Series → ViewSpec → Option Session → Result Planned PlanError → Type 0
PlansOrStops series spec session (Ok planned) = IsPlannedFor series spec session planned
PlansOrStops series spec session (Err error) = StopsIn series spec session error
