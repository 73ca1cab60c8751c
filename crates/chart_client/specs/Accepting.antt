-- What a client does with a frame.
use Rattle.std.specs.Prelude.{ℕ, ℤ, ◌≡◌, ◌^◌, ◌<◌, ⊤, IsSome, List, [], ◌∷◌, Option, None, Some}
use Rattle.std.specs.List.{cons_option}
use Rattle.line_raster.specs.Canvas.{Canvas}
use Rattle.om3_coeff.specs.declared.key.Key.{Key}
use Rattle.om3_coeff.specs.declared.coef.Coef.{Coef}
use Rattle.chart_grid.specs.declared.grid.Grid.{Grid}
use Rattle.chart_grid.specs.Projection.{HasCanvas}
use Rattle.coefficient_cache.specs.Caches.{Cache}
use Rattle.coefficient_cache.specs.Pairs.{in_series}
use Rattle.coefficient_cache.specs.Views.{renewed}
use Rattle.plain_chart.specs.Samples.{kept}
use Rattle.plain_chart.specs.Chart.{IsChart}
use Rattle.m4_groups.specs.Points.{AreInOrder}
use Rattle.m4_groups.specs.Rows.{AreRowsOf}
use Rattle.view_keys.specs.Wanted.{Seen, IsWanted}
use Rattle.view_keys.specs.Listed.{IsListOf}
use Rattle.chart_frames.specs.declared.frame.Frame.{Frame}
use Rattle.chart_frames.specs.declared.frame.Frame.TheVariants.{Done, Refused, Opened, Closed, View, Rows, Live, Report}
use Rattle.chart_frames.specs.declared.frame.ViewFrame.{ViewFrame}
use Rattle.chart_frames.specs.declared.frame.RowsFrame.{RowsFrame}
use Rattle.chart_client.specs.declared.holding.Holding.{Holding}
use Rattle.chart_client.specs.declared.errors.ClientError.{ClientError}
use Rattle.chart_client.specs.declared.errors.ClientError.TheVariants.{Missing, BadCoefficient, UnknownSession, NoMemory}
use Rattle.chart_client.specs.Holdings.{holding_of, without, with_cache, opened, told_by, axis_of, seen_by}
use Rattle.chart_client.specs.Agreeing.{IsGridOf, Agrees}
use Rattle.chart_client.specs.Failing.{IsMissing, IsMisfit, IsFirstFailing, NoneFails}
use Rattle.chart_client.specs.Drawing.{DrawsPoints}

-- The drawing of a view: for every list of slots that agrees with the frame and the client's list, it is
-- the chart of the slots that the view keeps, over the frame's range.
abbrev pub DrawsView : ViewFrame → Cache → Grid → Canvas → Type 0
DrawsView view cache grid drawing = (list : List (Option ℤ)) → Agrees view cache grid list
    → IsChart grid (record { lo = view.lo; hi = view.hi }) (kept grid (axis_of view) list) drawing

-- the client's list after a view that wants these keys: they come to its front, as at the server
abbrev pub viewed : ViewFrame → Cache → List (Key × Coef) → Cache
viewed view cache wanted =
    record { pairs = renewed cache.capacity cache.pairs (in_series view.series wanted); capacity = cache.capacity }

-- A view is drawn, where each wanted key has a coefficient that can be used. The client's list changes
-- by all wanted keys.
pub record AcceptsView (view : ViewFrame) (cache : Cache) (drawing : Canvas) (old new : List Holding) : Type 0 where
  pub grid : Grid
  pub grid_is : IsGridOf view grid
  pub usable : NoneFails (seen_by view cache) (axis_of view) grid view.lo view.hi
  pub wide : drawing.w ≡ view.w
  pub high : drawing.h ≡ view.h
  pub draws : DrawsView view cache grid drawing
  pub wanted : List (Key × Coef)
  pub all_wanted : IsListOf (IsWanted (seen_by view cache) (axis_of view) grid view.lo view.hi) (told_by view cache) wanted
  pub holdings : new ≡ with_cache view.session (viewed view cache wanted) old

-- A frame of rows is drawn: for every list of points with these rows on the frame's canvas, in whatever
-- window, it is their raster.
pub record AcceptsRows (rows : RowsFrame) (drawing : Canvas) (old new : List Holding) : Type 0 where
  pub wide : drawing.w ≡ rows.w
  pub high : drawing.h ≡ rows.h
  pub draws : (grid : Grid) (points : List (ℤ × ℤ)) → HasCanvas grid rows.w rows.h → AreInOrder grid points
      → AreRowsOf grid points rows.rows → DrawsPoints grid rows.lo rows.hi points drawing
  pub holdings : new ≡ old

-- a frame is accepted, with or without a drawing
abbrev pub Accepts : Frame → Option Canvas → List Holding → List Holding → Type 0
Accepts (Done slots) drawing old new = (drawing ≡ None) × (new ≡ old)
Accepts (Refused number a b) drawing old new = (drawing ≡ None) × (new ≡ old)
Accepts (Opened number size) drawing old new = (drawing ≡ None) × (new ≡ opened number size old)
Accepts (Closed number) drawing old new = (drawing ≡ None) × IsSome (holding_of number old) × (new ≡ without number old)
Accepts (View view) None old new = ⊥
Accepts (View view) (Some drawing) old new =
    (holding : Holding) × (holding_of view.session old ≡ Some holding) × AcceptsView view holding.cache drawing old new
Accepts (Rows rows) None old new = ⊥
Accepts (Rows rows) (Some drawing) old new = IsSome (holding_of rows.session old) × AcceptsRows rows drawing old new
Accepts (Live number on) drawing old new = (drawing ≡ None) × IsSome (holding_of number old) × (new ≡ old)
Accepts (Report report) drawing old new = (drawing ≡ None) × (new ≡ old)

-- frames are accepted one after the other, with these drawings in all
abbrev pub AcceptsAll : List Frame → List Canvas → List Holding → List Holding → Type 0
AcceptsAll [] drawings old new = (drawings ≡ []) × (new ≡ old)
AcceptsAll (frame ∷ frames) drawings old new =
    (drawing : Option Canvas) × (between : List Holding) × (rest : List Canvas) × Accepts frame drawing old between
    × AcceptsAll frames rest between new
    × (drawings ≡ cons_option drawing rest)

-- the session that a frame needs to be open
abbrev pub session_in : Frame → Option ℕ
session_in (Done slots) = None
session_in (Refused number a b) = None
session_in (Opened number size) = None
session_in (Closed number) = Some number
session_in (View view) = Some view.session
session_in (Rows rows) = Some rows.session
session_in (Live number on) = Some number
session_in (Report report) = None

-- the session that a frame names
abbrev pub named_in : Frame → Option ℕ
named_in (Done slots) = None
named_in (Refused number a b) = None
named_in (Opened number size) = Some number
named_in (Closed number) = Some number
named_in (View view) = Some view.session
named_in (Rows rows) = Some rows.session
named_in (Live number on) = Some number
named_in (Report report) = None

-- a view's key is the first wanted one that fails, and it does so in this way
pub record FailsView (How : Seen → ℕ → Key → Type 0) (key : Key) (frame : Frame) (old : List Holding) : Type 0 where
  pub view : ViewFrame
  pub is : frame ≡ View view
  pub holding : Holding
  pub open_is : holding_of view.session old ≡ Some holding
  pub grid : Grid
  pub grid_is : IsGridOf view grid
  pub first : IsFirstFailing (seen_by view holding.cache) (axis_of view) grid view.lo view.hi key
  pub how : How (seen_by view holding.cache) view.slots key

-- why a frame isn't accepted
abbrev pub Rejects : Frame → ClientError → List Holding → Type 0
Rejects frame (Missing key) old = FailsView (λ seen slots k. IsMissing seen k) key frame old
Rejects frame (BadCoefficient key) old = FailsView IsMisfit key frame old
Rejects frame (UnknownSession number) old = (session_in frame ≡ Some number) × (holding_of number old ≡ None)
Rejects frame NoMemory old = ⊤

-- a key that the error names has a number
abbrev pub HasNumber : ClientError → Type 0
HasNumber (Missing key) = key.index < 2 ^ 40
HasNumber (BadCoefficient key) = key.index < 2 ^ 40
HasNumber (UnknownSession number) = ⊤
HasNumber NoMemory = ⊤

-- what a frame that isn't accepted leaves: all as it was, or nothing after want of memory
abbrev pub Leaves : ClientError → List Holding → List Holding → Type 0
Leaves (Missing key) old new = new ≡ old
Leaves (BadCoefficient key) old new = new ≡ old
Leaves (UnknownSession number) old new = new ≡ old
Leaves NoMemory old new = new ≡ []

-- the same, where want of memory may leave anything
abbrev pub KeepsUnless : ClientError → List Holding → List Holding → Type 0
KeepsUnless (Missing key) old new = new ≡ old
KeepsUnless (BadCoefficient key) old new = new ≡ old
KeepsUnless (UnknownSession number) old new = new ≡ old
KeepsUnless NoMemory old new = ⊤
