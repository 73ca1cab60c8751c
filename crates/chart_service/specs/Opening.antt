-- Which sessions are open before and after a frame, and after want of memory.
use Rattle.std.specs.Prelude.{ℕ, ◌≡◌, ◌≢◌, ◌⊎◌, List, Option, None, Some, Result, OnOk, IsTrue, ⊤}
use Rattle.chart_frames.specs.declared.frame.Frame.{Frame}
use Rattle.chart_frames.specs.declared.frame.Frame.TheVariants.{Done, Refused, Opened, Closed, View, Rows, Live, Report}
use Rattle.chart_frames.specs.Opened.{opens}
use Rattle.zoom_session.specs.declared.session.Session.{Session}
use Rattle.zoom_session.specs.Sessions.{is_open, session_of, without}

-- a frame that answers in a session names one that is open
abbrev pub NamesOpen : Frame → List Session → Type 0
NamesOpen (Done slots) sessions = ⊤
NamesOpen (Refused number a b) sessions = ⊤
NamesOpen (Opened session cache) sessions = ⊤
NamesOpen (Closed session) sessions = IsTrue (is_open session sessions)
NamesOpen (View view) sessions = IsTrue (is_open view.session sessions)
NamesOpen (Rows rows) sessions = IsTrue (is_open rows.session sessions)
NamesOpen (Live session on) sessions = IsTrue (is_open session sessions)
NamesOpen (Report report) sessions = ⊤

-- An Opened frame opens its session, a Closed one closes it, and no other frame changes which sessions
-- are open; one that closes a session or answers in it names an open one.
pub record OpensBy (frame : Frame) (old new : List Session) : Type 0 where
  pub named : NamesOpen frame old
  pub after : (n : ℕ) → is_open n new ≡ opens frame n (is_open n old)

-- the sessions are as they were, or the one that a request names is closed
abbrev pub LosesAtMost : Option ℕ → List Session → List Session → Type 0
LosesAtMost None old new = new ≡ old
LosesAtMost (Some number) old new = (new ≡ old) ⊎ (new ≡ without number old)

-- An answer in the session of a number leaves the sessions of others. Unless it failed, it opens and closes none.
pub record StaysIn {T E : Type 0} (number : ℕ) (result : Result T E) (old new : List Session) : Type 0 where
  pub others : (n : ℕ) → n ≢ number → session_of n new ≡ session_of n old
  pub alike : OnOk result ((n : ℕ) → is_open n new ≡ is_open n old)
