-- What one request of a workload does to the service, its client and the summary. Private contracts are stated by
-- these words.
use Rattle.std.specs.Prelude.{ℕ, ◌≡◌, ◌++◌, List, [], Option, is_some, ⊤}
use Rattle.block_disk.specs.Counts.{HasRisen}
use Rattle.block_disk.specs.View.{Image, View}
use Rattle.line_raster.specs.Canvas.{Canvas}
use Rattle.request_lines.specs.declared.requests.Request.{Request}
use Rattle.series_book.specs.declared.one_series.Series.{Series}
use Rattle.stored_book.specs.Standing.{StandsForBook}
use Rattle.chart_frames.specs.Frames.{key_number}
use Rattle.chart_frames.specs.declared.frame.Frame.{Frame}
use Rattle.zoom_session.specs.declared.session.Session.{Session}
use Rattle.zoom_session.specs.Sessions.{is_open}
use Rattle.chart_client.specs.declared.holding.Holding.{Holding}
use Rattle.chart_client.specs.declared.errors.ClientError.{ClientError}
use Rattle.chart_client.specs.declared.errors.ClientError.TheVariants as client
use Rattle.om3_coeff.specs.declared.key.Key.{Key}
use Rattle.chart_client.specs.Holdings.{holding_of}
use Rattle.chart_client.specs.Accepting.{Accepts, Rejects}
use Rattle.gate_pages.specs.declared.pages.Pages.{Ghosts}
use Rattle.chart_service.specs.Shown as shown
use Rattle.chart_service.specs.declared.service.Service.{Service}
use Rattle.chart_service.specs.State.{State, IsSound}
use Rattle.chart_service.specs.Stepping.{RepliedTo, IsBadPage, state_of}
use Rattle.drawn_replies.specs.Mirrors.{Mirrors, IsPictureOf}
use Rattle.drawn_replies.specs.Pictures.{AcceptsAll}
use Rattle.demo_workload.specs.declared.summaries.Summary.{Summary}
use Rattle.run_ends.specs.declared.ending.End.{End}
use Rattle.run_ends.specs.declared.ending.End.TheVariants.{NoMemory, DiskFault, DamagedPage, Missing, BadCoefficient}
use Rattle.demo_workload.specs.Summaries.{summary_of, AddsReply}
use Rattle.demo_workload.specs.Replying.{PicturesEach}

-- the client holds something of just the sessions that are open
abbrev pub KnowsOpen : List Session → List Holding → Type 0
KnowsOpen sessions holdings = (n : ℕ) → is_some (holding_of n holdings) ≡ is_open n sessions

-- so of the state over each book that the pages of a service stand for, where it is sound and the client mirrors its sessions
module _ {P : Type 0} {g : Ghosts P} where
  abbrev pub ForMirrored : Service P g → List Holding → (ℕ → State → Type 0) → Type 0
  ForMirrored it holdings IsSo = shown.ForBook it (λ total book. IsSound (shown.state it total book) → Mirrors (shown.sessions it) holdings
      → IsSo total (shown.state it total book))

-- A request is answered, the client draws the picture of its frame and goes on mirroring the sessions, and the
-- summary has one more reply.
pub record AnswersOne (request : Request) (old new : State) (holdings : List Holding) (before now : Summary) : Type 0 where
  pub frame : Frame
  pub picture : Option Canvas
  pub replied : RepliedTo request frame old new
  pub pictured : IsPictureOf old new frame picture
  pub mirrors : Mirrors new.sessions holdings
  pub sums : AddsReply frame picture before now

-- the client accepted one more frame
pub record AcceptsOne (old new : List Holding) : Type 0 where
  pub frame : Frame
  pub drawing : Option Canvas
  pub accepted : Accepts frame drawing old new

-- a client rejects the frame for such an error of the key with this number
abbrev pub RejectsKey : (Key → ClientError) → ℕ → Frame → List Holding → Type 0
RejectsKey why number frame old = (key : Key) × (number ≡ key_number key) × Rejects frame (why key) old

-- why a client doesn't accept a frame
abbrev pub RejectsAs : Frame → List Holding → End → Type 0
RejectsAs frame old NoMemory = ⊤
RejectsAs frame old (Missing number) = RejectsKey client.Missing number frame old
RejectsAs frame old (BadCoefficient number) = RejectsKey client.BadCoefficient number frame old
RejectsAs frame old end = ⊥

-- why a request has no reply that the client accepts
abbrev pub IsOneCause : End → List Holding → Type 0 → View → View → Type 0
IsOneCause NoMemory holdings told old new = ⊤
IsOneCause DiskFault holdings told old new = HasRisen old.faults new.faults
IsOneCause (DamagedPage page) holdings told old new = IsBadPage told new.size new.image page
IsOneCause (Missing number) holdings told old new = (frame : Frame) × RejectsKey client.Missing number frame holdings
IsOneCause (BadCoefficient number) holdings told old new = (frame : Frame) × RejectsKey client.BadCoefficient number frame holdings
IsOneCause end holdings told old new = ⊥

-- the client accepted frames one after the other since it had nothing
pub record HasAccepted (holdings : List Holding) : Type 0 where
  pub frames : List Frame
  pub drawings : List (Option Canvas)
  pub accepted : AcceptsAll [] frames drawings holdings

-- Of these requests the first ones were answered, those behind them are left, and the pages stand for the book then.
pub record Reaches (requests left : List Request) (total : ℕ) (old : State) (image : Image) (sessions : List Session)
    (holdings : List Holding) (summary : Summary) : Type 0 where
  pub first : List Request
  pub split : requests ≡ first ++ left
  pub frames : List Frame
  pub pictures : List (Option Canvas)
  pub book : List Series
  pub replied : PicturesEach old first frames pictures (state_of book total sessions)
  pub stands : StandsForBook image total book
  pub sound : IsSound (state_of book total sessions)
  pub mirrors : Mirrors sessions holdings
  pub sums : summary ≡ summary_of frames pictures
