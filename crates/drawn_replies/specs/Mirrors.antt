-- A client that was sent all frames of a service so far, and what it draws of the next one.
use Rattle.std.specs.Prelude.{◌≡◌, List, map, Option, None, Some, slice_get}
use Rattle.line_raster.specs.Canvas.{Canvas}
use Rattle.series_book.specs.declared.one_series.Series.{Series}
use Rattle.zoom_session.specs.declared.session.Session.{Session}
use Rattle.zoom_session.specs.declared.view_spec.ViewSpec.{ViewSpec}
use Rattle.zoom_session.specs.Sessions.{session_of, last_of}
use Rattle.chart_client.specs.declared.holding.Holding.{Holding}
use Rattle.chart_frames.specs.declared.frame.Frame.{Frame}
use Rattle.chart_frames.specs.declared.frame.Frame.TheVariants.{Done, Refused, Opened, Closed, View, Rows, Live, Report}
use Rattle.chart_frames.specs.declared.frame.RowsFrame.{RowsFrame}
use Rattle.chart_client.specs.declared.errors.ClientError.{ClientError}
use Rattle.chart_client.specs.declared.errors.ClientError.TheVariants.{NoMemory}
use Rattle.chart_client.specs.Accepting.{Accepts, Rejects}
use Rattle.chart_service.specs.State.{State}
use Rattle.chart_service.specs.Viewing.{ShowsView, ShowsRows}

-- what the client of a session holds of it
abbrev pub mirrored : Session → Holding
mirrored s = record { number = s.number; cache = s.cache }

-- the client holds the sessions that are open, each with the list that the service keeps of it
abbrev pub Mirrors : List Session → List Holding → Type 0
Mirrors sessions holdings = holdings ≡ map mirrored sessions

-- A drawing of rows: it is the chart of what the view that their session was answered last, with these rows, keeps of
-- its series as it is in the book.
pub record ShowsAnswered (old new : State) (rows : RowsFrame) (drawing : Canvas) : Type 0 where
  pub spec : ViewSpec
  pub answered : last_of (session_of rows.session new.sessions) ≡ Some spec
  pub series : Series
  pub stored : slice_get old.book spec.series ≡ Some series
  pub shows : ShowsRows series spec rows drawing

-- The drawing of a view is the chart of its series as it is in the book, with a filter that of what the view keeps of
-- it. No other frame has one. The states are those before and after the frame's reply.
abbrev pub IsPictureOf : State → State → Frame → Option Canvas → Type 0
IsPictureOf old new (Done slots) drawing = drawing ≡ None
IsPictureOf old new (Refused number a b) drawing = drawing ≡ None
IsPictureOf old new (Opened number size) drawing = drawing ≡ None
IsPictureOf old new (Closed number) drawing = drawing ≡ None
IsPictureOf old new (View view) None = ⊥
IsPictureOf old new (View view) (Some drawing) =
    (series : Series) × (slice_get old.book view.series ≡ Some series) × ShowsView series view drawing
IsPictureOf old new (Rows rows) None = ⊥
IsPictureOf old new (Rows rows) (Some drawing) = ShowsAnswered old new rows drawing
IsPictureOf old new (Live number on) drawing = drawing ≡ None
IsPictureOf old new (Report report) drawing = drawing ≡ None

-- A client that accepts the frame goes on mirroring the sessions, and draws the picture of the book.
abbrev pub DrawsTheBook : Frame → State → State → List Holding → Type 0
DrawsTheBook frame old new holdings = (drawing : Option Canvas) (now : List Holding) → Accepts frame drawing holdings now
    → Mirrors new.sessions now × IsPictureOf old new frame drawing

-- nothing but want of memory keeps the client from accepting the frame
abbrev pub OnlyLacksMemory : Frame → List Holding → Type 0
OnlyLacksMemory frame holdings = (e : ClientError) → Rejects frame e holdings → e ≡ NoMemory
