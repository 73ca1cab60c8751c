-- What the steps of a stream answer and leave.
use Rattle.std.specs.Prelude.{ℕ, ◌≡◌, ⊤, List, [], length, min, Bool, true, false, Option, None, Some, Result, Ok, Err}
use Rattle.line_raster.specs.Canvas.{Canvas}
use Rattle.m4_groups.specs.declared.row.Row.{Row}
use Rattle.pbm_writer.specs.Picture.{picture}
use Rattle.chart_frames.specs.declared.frame.Frame.{Frame}
use Rattle.chart_frames.specs.declared.frame.Frame.TheVariants.{Done, Refused, Opened, Closed, View, Rows, Live, Report}
use Rattle.chart_frames.specs.declared.frame.ViewFrame.{ViewFrame}
use Rattle.chart_frames.specs.declared.errors.FrameFault.{FrameFault}
use Rattle.chart_frames.specs.declared.errors.FrameFault.TheVariants as faults
use Rattle.chart_frames.specs.Pending.{Pending, held}
use Rattle.chart_frames.specs.Stream.{Takes, IsBadAt, IsPartial}
use Rattle.chart_client.specs.declared.holding.Holding.{Holding}
use Rattle.chart_client.specs.declared.errors.ClientError.{ClientError}
use Rattle.chart_client.specs.declared.errors.ClientError.TheVariants as client
use Rattle.chart_client.specs.Accepting.{Accepts, Rejects, Leaves}
use Rattle.chart_client.specs.Holdings.{holding_of}
use Rattle.chart_client.specs.Spanning.{SpanView, SpanRowsFrame}
use Rattle.progressive_view.specs.Covers.{DrawsCover}
use Rattle.client_exports.specs.declared.fault.Fault.{Fault}
use Rattle.client_exports.specs.declared.fault.Fault.TheVariants as fault
use Rattle.client_exports.specs.State.{State}

-- before any byte
pub record IsFresh (s : State) : Type 0 where
  pub decoder : s.decoder ≡ held 0 []
  pub client : s.client ≡ []
  pub frame : s.frame ≡ None
  pub picture : s.picture ≡ []
  pub columns : s.columns ≡ []

-- The next frame is taken in hand where none is: the one at the front of what was fed. It is none where more bytes are needed,
-- or where the field at this byte breaks its rule; then nothing is taken.
abbrev pub Hands : Option Frame → Pending → Result (Unit {0}) FrameFault → Option Frame → Pending → Type 0
Hands (Some f) old (Ok done) frame new = (frame ≡ Some f) × (new ≡ old)
Hands (Some f) old (Err e) frame new = ⊥
Hands None old (Ok done) (Some f) new = Takes old new f
Hands None old (Ok done) None new = IsPartial old × (new ≡ old)
Hands None old (Err (faults.BadFrame at)) frame new = IsBadAt old at × (frame ≡ None) × (new ≡ old)
Hands None old (Err faults.NoMemory) frame new = (frame ≡ None) × (new ≡ old)

-- the bytes of a drawing as a PBM, or none where there is no drawing
abbrev pub bytes_of : Option Canvas → List ℕ
bytes_of None = []
bytes_of (Some canvas) = picture canvas

-- a client accepts the frame with a drawing whose bytes these are, or with none
abbrev pub DrawsFrame : Frame → List Holding → List Holding → (Option Canvas → Type 0) → Type 0
DrawsFrame frame old new Is = (drawing : Option Canvas) × Accepts frame drawing old new × Is drawing

-- The frame in hand is accepted by the client, and its drawing is the picture; or it isn't accepted, for this cause. Where memory for the
-- picture ran out it was accepted.
abbrev pub Draws : Option Frame → List Holding → Result Bool Fault → List Holding → List ℕ → Type 0
Draws None old (Ok true) new bytes = ⊥
Draws None old (Ok false) new bytes = (new ≡ old) × (bytes ≡ [])
Draws None old (Err e) new bytes = ⊥
Draws (Some f) old (Ok true) new bytes = DrawsFrame f old new (λ drawing. bytes ≡ bytes_of drawing)
Draws (Some f) old (Ok false) new bytes = ⊥
Draws (Some f) old (Err (fault.Client cause)) new bytes = Rejects f cause old × Leaves cause old new × (bytes ≡ [])
Draws (Some f) old (Err fault.NoMemory) new bytes = DrawsFrame f old new (λ drawing. bytes ≡ [])

-- the rows span the columns of a frame's picture; where it has none they are those before
abbrev pub HasColumns : Frame → List Holding → List Row → List Row → Type 0
HasColumns (Done slots) old before rows = rows ≡ before
HasColumns (Refused number a b) old before rows = rows ≡ before
HasColumns (Opened number size) old before rows = rows ≡ before
HasColumns (Closed number) old before rows = rows ≡ before
HasColumns (View view) old before rows = SpanView view old rows
HasColumns (Rows frame) old before rows = SpanRowsFrame frame rows
HasColumns (Live number on) old before rows = rows ≡ before
HasColumns (Report report) old before rows = rows ≡ before

-- so do they of the frame in hand; where it isn't drawn they are those before
abbrev pub DrawsColumns : Option Frame → List Holding → Result Bool Fault → List Row → List Row → Type 0
DrawsColumns None old drawn before rows = rows ≡ before
DrawsColumns (Some f) old (Ok there) before rows = HasColumns f old before rows
DrawsColumns (Some f) old (Err e) before rows = rows ≡ before

-- why a cover isn't drawn: the view's session isn't open, or memory ran out
abbrev pub CoverFails : ViewFrame → List Holding → ClientError → Type 0
CoverFails view holdings (client.UnknownSession number) = (number ≡ view.session) × (holding_of view.session holdings ≡ None)
CoverFails view holdings client.NoMemory = ⊤
CoverFails view holdings (client.Missing key) = ⊥
CoverFails view holdings (client.BadCoefficient key) = ⊥

-- these are the bytes of the cover of a view once so many of its coefficients are taken, or all of them
abbrev pub CoversView : ViewFrame → List Holding → ℕ → List ℕ → Type 0
CoversView view holdings count bytes =
    (cover : Canvas) × DrawsCover (record { view = view; holdings = holdings; taken = min count (length view.coefs) }) cover
    × (bytes ≡ picture cover)

-- The cover of the view in hand is drawn, where there is a view.
abbrev pub Covers : Option Frame → List Holding → ℕ → Result Bool Fault → List ℕ → Type 0
Covers (Some (View view)) holdings count (Ok true) bytes = CoversView view holdings count bytes
Covers (Some (View view)) holdings count (Ok false) bytes = ⊥
Covers (Some (View view)) holdings count (Err (fault.Client cause)) bytes = CoverFails view holdings cause × (bytes ≡ [])
Covers (Some (View view)) holdings count (Err fault.NoMemory) bytes = bytes ≡ []
Covers frame holdings count (Ok true) bytes = ⊥
Covers frame holdings count (Ok false) bytes = bytes ≡ []
Covers frame holdings count (Err e) bytes = ⊥
