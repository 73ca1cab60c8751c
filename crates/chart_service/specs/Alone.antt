-- A service without the sessions of others, and the lines that concern one session.
use Rattle.std.specs.Prelude.{ℕ, ◌≢◌, Bool, true, ◌==◌, if◌then◌else◌, List, [], ◌∷◌, All, Option, None, Some, Result, Ok, Err}
use Rattle.std.specs.List.{filter}
use Rattle.series_book.specs.declared.refusals.Refusal.TheVariants.{TooManySessions}
use Rattle.request_lines.specs.declared.requests.Request.{Request}
use Rattle.request_lines.specs.declared.requests.Request.TheVariants.{Edit as EditRequest, Open, View, Zoom, Pan, Close}
use Rattle.request_lines.specs.Requests.{read_line}
use Rattle.zoom_session.specs.declared.session.Session.{Session}
use Rattle.chart_frames.specs.declared.frame.Frame.{Frame}
use Rattle.chart_service.specs.State.{State}
use Rattle.chart_service.specs.Replies.{refused}

-- the session that a request names, if it names one
abbrev pub session_in : Request → Option ℕ
session_in (EditRequest edit) = None
session_in (Open number cache) = Some number
session_in (View number name w h t0 t1 word text) = Some number
session_in (Zoom number t0 t1) = Some number
session_in (Pan number by) = Some number
session_in (Close number) = Some number

-- the same of what a line is read as
abbrev pub session_read : Result Request ℕ → Option ℕ
session_read (Err at) = None
session_read (Ok request) = session_in request

-- and of a line
abbrev pub session_named : Option (List ℕ) → Option ℕ
session_named None = None
session_named (Some text) = session_read (read_line text)

abbrev pub is_own : ℕ → Option ℕ → Bool
is_own n None = true
is_own n (Some number) = number == n

-- the line names the session n, or no session
abbrev pub concerns : ℕ → Option (List ℕ) → Bool
concerns n line = is_own n (session_named line)

-- the lines that concern the session n
abbrev pub own_lines : ℕ → List (Option (List ℕ)) → List (Option (List ℕ))
own_lines n lines = filter (concerns n) lines

-- the frames that answer them
abbrev pub own_frames : ℕ → List (Option (List ℕ)) → List Frame → List Frame
own_frames n [] frames = []
own_frames n (line ∷ lines) [] = []
own_frames n (line ∷ lines) (frame ∷ frames) = if concerns n line then frame ∷ own_frames n lines frames else own_frames n lines frames

-- the sessions of a number
abbrev pub only : ℕ → List Session → List Session
only n sessions = filter (λ s. s.number == n) sessions

-- the service without the sessions of other numbers
abbrev pub alone : ℕ → State → State
alone n state = record state { sessions = only n state.sessions }

-- none of the frames refuses an opening since 16 sessions are open
abbrev pub NeverCrowded : List Frame → Type 0
NeverCrowded frames = All (λ frame. frame ≢ refused TooManySessions) frames
