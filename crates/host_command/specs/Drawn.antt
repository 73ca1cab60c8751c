-- What a client draws of the frames of a host's run that it is sent.
use Rattle.std.specs.Prelude.{◌≡◌, ℕ, Bool, List, [], ◌∷◌, ◌++◌, map, Option, None, Some}
use Rattle.std.specs.List.{filter}
use Rattle.line_raster.specs.Canvas.{Canvas}
use Rattle.chart_frames.specs.declared.frame.Frame.{Frame}
use Rattle.chart_frames.specs.declared.frame.Frame.TheVariants.{Rows}
use Rattle.chart_grid.specs.declared.grid.Grid.{Grid}
use Rattle.derive_command.specs.Answers.{AreOnOneGrid, IsGridOf, asked_range}
use Rattle.derive_command.specs.declared.request.Request.{Request}
use Rattle.drawn_replies.specs.Mirrors.{IsPictureOf}
use Rattle.drawn_replies.specs.Pictures.{IsDrawn, names}
use Rattle.drawn_replies.specs.Sent.{each}
use Rattle.host_lines.specs.Grammar.{host_line}
use Rattle.host_lines.specs.declared.asked.HostLine.{HostLine}
use Rattle.host_lines.specs.declared.asked.HostLine.TheVariants.{List as ListLine, Values, Sum, Sweep, Bad, Other}
use Rattle.host_replies.specs.Replies.{Reported}
use Rattle.hosted_lines.specs.Hosts.{DoesGroup, Event, Sweeps, answer, group, lines_in, push, report, sweep}
use Rattle.live_service.specs.Showing.{ShowsPush}
use Rattle.live_service.specs.LiveReplies.{LiveReplied, LiveState, Pushed}
use Rattle.series_book.specs.declared.one_series.Series.{Series}
use Rattle.series_pair.specs.Derived.{IsDerivedChart}

-- a line is answered, and the drawing is its frame's picture of the book as it is at that line
pub record PicturesAnswer (is_sent : Frame → Bool) (line : Option (List ℕ)) (frames : List Frame) (drawings : List (Option Canvas))
    (old new : LiveState) : Type 0 where
  pub frame : Frame
  pub frames_are : frames ≡ frame ∷ []
  pub replied : LiveReplied line frame old new
  pub drawn : IsDrawn (is_sent frame) (IsPictureOf old.state new.state frame) drawings

-- The drawing is the chart of a times the first series of the request and b times the second.
pub record IsSumChart (book : List Series) (r : Request) (drawing : Canvas) : Type 0 where
  pub series : AreOnOneGrid book r
  pub grid : Grid
  pub grid_is : IsGridOf r grid
  pub chart : IsDerivedChart book series.x series.y r.a r.b grid (asked_range r.range) drawing

-- of the rows of a sum its chart is drawn, and of a refusal nothing
abbrev pub PicturesSum : List Series → Request → Frame → Option Canvas → Type 0
PicturesSum book r (Rows rows) None = ⊥
PicturesSum book r (Rows rows) (Some drawing) = IsSumChart book r drawing
PicturesSum book r frame drawing = drawing ≡ None

-- what is drawn of a report: of a sum its chart, of the others nothing
abbrev pub PicturesAsked : HostLine → List Series → Frame → Option Canvas → Type 0
PicturesAsked (Sum session request) book frame drawing = PicturesSum book request frame drawing
PicturesAsked ListLine book frame drawing = drawing ≡ None
PicturesAsked (Values name t0 t1) book frame drawing = drawing ≡ None
PicturesAsked (Sweep rule) book frame drawing = drawing ≡ None
PicturesAsked (Bad at) book frame drawing = drawing ≡ None
PicturesAsked Other book frame drawing = drawing ≡ None

-- what a line asks of the host alone is reported, and the drawing is the frame's picture of the book as it is at that line
pub record PicturesReport (is_sent : Frame → Bool) (line : List ℕ) (frames : List Frame) (drawings : List (Option Canvas))
    (old new : LiveState) : Type 0 where
  pub frame : Frame
  pub frames_are : frames ≡ frame ∷ []
  pub reported : Reported (host_line line) frame old.state
  pub drawn : IsDrawn (is_sent frame) (PicturesAsked (host_line line) old.state.book frame) drawings
  pub same : new ≡ old

-- the step of a sweep is done that a line asks for, of which nothing is drawn
pub record PicturesStep (is_sent : Frame → Bool) (line : List ℕ) (frames : List Frame) (drawings : List (Option Canvas))
    (old new : LiveState) : Type 0 where
  pub does : Sweeps line frames old new
  pub none : IsDrawn (is_sent does.frame) (λ drawing. drawing ≡ None) drawings

-- edits are done together, of which nothing is drawn
pub record PicturesGroup (is_sent : Frame → Bool) (lines : List (Option (List ℕ))) (frames : List Frame) (drawings : List (Option Canvas))
    (old new : LiveState) : Type 0 where
  pub does : DoesGroup lines frames old new
  pub none : drawings ≡ map (λ frame. None) (filter is_sent frames)

-- a push is made, which shows a view and leaves the book, and the drawing is its picture of the book
pub record PicturesPush (is_sent : Frame → Bool) (frames : List Frame) (drawings : List (Option Canvas))
    (old new : LiveState) : Type 0 where
  pub frame : Frame
  pub frames_are : frames ≡ frame ∷ []
  pub pushed : Pushed frame old new
  pub drawn : IsDrawn (is_sent frame) (λ drawing. ShowsPush frame drawing old new) drawings

-- what an event does, and what is drawn of those of its frames that the client is sent
abbrev pub PicturesEvent : (Frame → Bool) → Event → List Frame → List (Option Canvas) → LiveState → LiveState → Type 0
PicturesEvent is_sent (answer line) frames drawings old new = PicturesAnswer is_sent line frames drawings old new
PicturesEvent is_sent (report line) frames drawings old new = PicturesReport is_sent line frames drawings old new
PicturesEvent is_sent (sweep line) frames drawings old new = PicturesStep is_sent line frames drawings old new
PicturesEvent is_sent (group lines) frames drawings old new = PicturesGroup is_sent lines frames drawings old new
PicturesEvent is_sent push frames drawings old new = PicturesPush is_sent frames drawings old new

-- one of them, and those behind it
pub record PicturedThen (is_sent : Frame → Bool) (event : Event) (others : LiveState → List Frame → List (Option Canvas)
    → Type 0) (old : LiveState) (frames : List Frame) (drawings : List (Option Canvas)) : Type 0 where
  pub first : List Frame
  pub drawn : List (Option Canvas)
  pub between : LiveState
  pub pictured : PicturesEvent is_sent event first drawn old between
  pub more : List Frame
  pub more_drawn : List (Option Canvas)
  pub later : others between more more_drawn
  pub frames_are : frames ≡ first ++ more
  pub drawings_are : drawings ≡ drawn ++ more_drawn

-- the events happen one after the other, and each drawing is the picture that a frame which is sent has of the book as it is then
abbrev pub ArePictured : (Frame → Bool) → LiveState → List Event → List Frame → List (Option Canvas) → LiveState → Type 0
ArePictured is_sent old [] frames drawings new = (frames ≡ []) × (drawings ≡ []) × (new ≡ old)
ArePictured is_sent old (event ∷ events) frames drawings new =
    PicturedThen is_sent event (λ between more more_drawn. ArePictured is_sent between events more more_drawn new) old frames drawings

-- these lines are answered and pictured so, and so are the pushes behind them
pub record PicturesSome (is_sent : Frame → Bool) (lines : List (Option (List ℕ))) (frames : List Frame) (drawings : List (Option Canvas))
    (old new : LiveState) : Type 0 where
  pub events : List Event
  pub lines_are : lines_in events ≡ lines
  pub pictured : ArePictured is_sent old events frames drawings new

-- all frames are sent
abbrev pub PicturesLines : List (Option (List ℕ)) → List Frame → List (Option Canvas) → LiveState → LiveState → Type 0
PicturesLines lines frames drawings old new = PicturesSome each lines frames drawings old new

-- those of one session alone are sent
abbrev pub PicturesOwn : ℕ → List (Option (List ℕ)) → List Frame → List (Option Canvas) → LiveState → LiveState → Type 0
PicturesOwn n lines frames drawings old new = PicturesSome (names n) lines frames drawings old new
