-- Which frames may answer a line of a host, and what calls send for lines, whatever the pages are.
use Rattle.std.specs.Prelude.{ℕ, ◌≡◌, List, [], ◌∷◌, All, Option, None, Some, ⊤}
use Rattle.block_disk.specs.Streams.{sent_after}
use Rattle.block_disk.specs.declared.streams.Streams.{Ghosts as StreamGhosts}
use Rattle.block_disk.specs.declared.streams.Streams as streams
use Rattle.chart_frames.specs.declared.frame.Frame.{Frame}
use Rattle.chart_frames.specs.declared.frame.Frame.TheVariants.{Refused, Report}
use Rattle.chart_frames.specs.declared.reports.Report.TheVariants.{Swept}
use Rattle.chart_frames.specs.Frames.{Fits}
use Rattle.chart_service.specs.Kinds.{MayAnswerLine}
use Rattle.chart_service.specs.LastShown.{LastShown, LastsBehind}
use Rattle.chart_service.specs.Naming.{NameOpen, NameOpened, opens_all}
use Rattle.chart_service.specs.Replies.{refused}
use Rattle.chart_service.specs.Serving.{told}
use Rattle.chart_service.specs.Shown as shown
use Rattle.chart_service.specs.declared.failure.ServiceError.{ServiceError}
use Rattle.gate_pages.specs.declared.pages.Pages.{Ghosts}
use Rattle.host_lines.specs.Grammar.{host_line}
use Rattle.host_lines.specs.declared.asked.HostLine.{HostLine}
use Rattle.host_lines.specs.declared.asked.HostLine.TheVariants.{Sweep, Other}
use Rattle.host_replies.specs.Replies.{MayReport}
use Rattle.live_service.specs.Kinds.{MayAnswerBy, MayAnswerLive}
use Rattle.live_service.specs.Pushing.{AnswerFollowed, FollowedBy, followed_after}
use Rattle.live_service.specs.Shown as its
use Rattle.live_view.specs.Following.{ShowsOneOf}
use Rattle.live_view.specs.Live as follows
use Rattle.live_service.specs.declared.stepper.ServiceStepper.{ServiceStepper}
use Rattle.live_view.specs.declared.live.Live.{Live}
use Rattle.live_view.specs.declared.stepper.Stepper.{Ghosts as StepperGhosts}
use Rattle.series_book.specs.declared.refusals.Refusal.TheVariants.{UnknownSeries}
use Rattle.zoom_session.specs.declared.session.Session.{Session}
use Rattle.zoom_session.specs.Sessions.{is_open}
use Rattle.hosted_lines.specs.Lives.{Event, answer, lines_in, push, spelled}
use Rattle.hosted_lines.specs.Shown.{pages}

-- the frame tells a step of a sweep, or that the series isn't there which its rule names
abbrev pub MayTellStep : Frame → Type 0
MayTellStep (Report (Swept clears used more)) = ⊤
MayTellStep (Refused number a b) = Refused number a b ≡ refused UnknownSeries
MayTellStep frame = ⊥

-- it may answer a line, whatever the book is, by what the line asks of the host alone
abbrev pub MayAnswerAlone : HostLine → List ℕ → Frame → Type 0
MayAnswerAlone (Sweep rule) text frame = MayTellStep frame
MayAnswerAlone Other text frame = MayAnswerLive (Some text) frame
MayAnswerAlone asked text frame = MayReport asked frame

-- it may answer a line: its text, or nothing where it is too long
abbrev pub MayAnswerHost : Option (List ℕ) → Frame → Type 0
MayAnswerHost None frame = MayAnswerLine None frame
MayAnswerHost (Some text) frame = MayAnswerAlone (host_line text) text frame

-- the followed sessions behind a line that a frame answers, by what the line asks of the host alone: such a line leaves them
abbrev pub followed_alone : HostLine → List ℕ → Frame → List ℕ → List ℕ
followed_alone Other text frame followed = followed_after (Some text) frame followed
followed_alone asked text frame followed = followed

-- and behind a line: its text, or nothing where it is too long
abbrev pub followed_behind : FollowedBy
followed_behind None frame followed = followed
followed_behind (Some text) frame followed = followed_alone (host_line text) text frame followed

-- the open sessions, and the numbers of those that are followed
pub record Watched : Type 0 where
  pub sessions : List Session
  pub followed : List ℕ

-- Of each event a frame is sent: it may answer the event's line, or it is pushed, and shows a view of a session that is followed
-- then. At first, and behind them all, these sessions are followed.
abbrev pub AreSentBy : MayAnswerBy → FollowedBy → List Event → List ℕ → List Frame → List ℕ → Type 0
AreSentBy May after [] old [] new = new ≡ old
AreSentBy May after [] old (frame ∷ frames) new = ⊥
AreSentBy May after (event ∷ events) old [] new = ⊥
AreSentBy May after (answer line ∷ events) old (frame ∷ frames) new = May line frame
    × AreSentBy May after events (after line frame old) frames new
AreSentBy May after (push ∷ events) old (frame ∷ frames) new = ShowsOneOf old frame × AreSentBy May after events old frames new

-- the line that is answered at each event; a push has none
abbrev pub lines_at : List Event → List (Option (List ℕ))
lines_at [] = []
lines_at (answer line ∷ events) = line ∷ lines_at events
lines_at (push ∷ events) = None ∷ lines_at events

-- Of which series the last view of the session n may be behind these events and their frames, by what was so before them: rows
-- that are pushed are of the series that was shown before.
abbrev pub ShownLast : (ℕ → ℕ → Type 0) → List Event → List Frame → ℕ → ℕ → Type 0
ShownLast was events frames n id = LastShown was (lines_at events) frames n id

-- This text is the spellings of frames that answer the lines, with pushes to the sessions that are followed then. The fields of
-- each meet their rules, and it names sessions that are open by those before it. Behind them all just these are open, and the
-- last view of each is of a series that they showed.
pub record Answers (May : MayAnswerBy) (after : FollowedBy) (lines : List (Option (List ℕ))) (old new : Watched)
    (text : List ℕ) : Type 0 where
  pub events : List Event
  pub lines_are : lines_in events ≡ lines
  pub frames : List Frame
  pub fits : All Fits frames
  pub are_sent : AreSentBy May after events old.followed frames new.followed
  pub named : NameOpen (λ n. is_open n old.sessions) frames
  pub open_now : (n : ℕ) → is_open n new.sessions ≡ opens_all frames n (is_open n old.sessions)
  pub lasts : LastsBehind (lines_at events) frames old.sessions new.sessions
  pub text_is : text ≡ spelled frames

-- such a text was sent
pub record Sends (May : MayAnswerBy) (after : FollowedBy) (lines : List (Option (List ℕ))) (old new : Watched)
    (before now : Option (List ℕ)) : Type 0 where
  pub text : List ℕ
  pub answers : Answers May after lines old new text
  pub sent : now ≡ sent_after text before

-- The spellings of frames were sent, of which one answers each line of the input that isn't empty, in order, and all others are
-- pushes: each shows a view of a session that is followed by the lines before it. The fields of each meet their rules, and it
-- names sessions that those before it opened.
pub record SendsAnswers (May : MayAnswerBy) (after : FollowedBy) (input : List ℕ) (before now : Option (List ℕ)) : Type 0 where
  pub frames : List Frame
  pub fits : All Fits frames
  pub followed : List ℕ
  pub answers : AnswerFollowed May after (told input) [] frames followed
  pub named : NameOpened frames
  pub sent : now ≡ sent_after (spelled frames) before

module _ {P : Type 0} {g : Ghosts P} {h : StepperGhosts (ServiceStepper P g) ServiceError} {beside : StreamGhosts (ServiceStepper P g)}
  where
    -- the open sessions of a live service, and the followed ones
    abbrev pub watched : Live (ServiceStepper P g) ServiceError h beside → Watched
    watched it = record { sessions = shown.sessions (its.service it); followed = follows.followed it }

    -- what a call sends from one moment to another
    abbrev pub SendsFor : streams.Ghosts P → MayAnswerBy → FollowedBy → List (Option (List ℕ))
        → Live (ServiceStepper P g) ServiceError h beside → Live (ServiceStepper P g) ServiceError h beside → Type 0
    SendsFor told May after lines old new = Sends May after lines (watched old) (watched new) (told.sent (pages old))
        (told.sent (pages new))
