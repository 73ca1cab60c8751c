-- A client that is sent some of the frames alone, and holds the sessions that these name.
use Rattle.std.specs.Prelude.{ℕ, ◌≡◌, Bool, true, false, List, Option}
use Rattle.line_raster.specs.Canvas.{Canvas}
use Rattle.zoom_session.specs.declared.session.Session.{Session}
use Rattle.chart_client.specs.declared.holding.Holding.{Holding}
use Rattle.chart_client.specs.Accepting.{Accepts}
use Rattle.chart_frames.specs.declared.frame.Frame.{Frame}
use Rattle.chart_service.specs.State.{State}
use Rattle.chart_service.specs.Alone.{only}
use Rattle.drawn_replies.specs.Mirrors.{Mirrors, IsPictureOf, OnlyLacksMemory}
use Rattle.drawn_replies.specs.Pictures.{names}

-- each frame is sent
abbrev pub each : Frame → Bool
each frame = true

-- What a client does that holds some of the sessions, by the states before and after a frame. Where it is sent the
-- frame, it draws a drawing that is so, and goes on holding these sessions, and nothing but want of memory keeps it from
-- that; where it isn't, these sessions stay.
pub record Follows (is_sent : Frame → Bool) (some : List Session → List Session) (frame : Frame) (old new : State) (IsSo : Option Canvas
    → Type 0) : Type 0 where
  pub draws : is_sent frame ≡ true → (holdings : List Holding) → Mirrors (some old.sessions) holdings
      → (drawing : Option Canvas) (now : List Holding)
      → Accepts frame drawing holdings now → Mirrors (some new.sessions) now × IsSo drawing
  pub accepts : is_sent frame ≡ true → (holdings : List Holding) → Mirrors (some old.sessions) holdings → OnlyLacksMemory frame holdings
  pub stays : is_sent frame ≡ false → some new.sessions ≡ some old.sessions

-- so does the client of the session n, and what it draws is the picture of the book
abbrev pub FollowsOwn : ℕ → Frame → State → State → Type 0
FollowsOwn n frame old new = Follows (names n) (only n) frame old new (IsPictureOf old new frame)
