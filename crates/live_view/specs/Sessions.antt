-- Which sessions are open, and which have had a view.
use Rattle.std.specs.Prelude.{ℕ, ◌≡◌, Bool, is_some, List, All, IsTrue, filter}
use Rattle.chart_frames.specs.declared.frame.Frame.{Frame}
use Rattle.chart_frames.specs.Opened.{opens}
use Rattle.zoom_session.specs.declared.session.Session.{Session}
use Rattle.zoom_session.specs.Sessions.{is_open, session_of, last_of}

-- the session has had an answered view
abbrev pub has_view : ℕ → List Session → Bool
has_view n sessions = is_some (last_of (session_of n sessions))

-- an Opened frame opens its session, a Closed one closes it, and no other frame changes which are open
abbrev pub OpensBy : Frame → List Session → List Session → Type 0
OpensBy frame old new = (n : ℕ) → is_open n new ≡ opens frame n (is_open n old)

-- the same sessions are open
abbrev pub AreOpenAlike : List Session → List Session → Type 0
AreOpenAlike old new = (n : ℕ) → is_open n new ≡ is_open n old

-- the sessions of these numbers are open
abbrev pub AreOpen : List Session → List ℕ → Type 0
AreOpen sessions numbers = All (λ n. IsTrue (is_open n sessions)) numbers

-- they have had a view
abbrev pub HaveViews : List Session → List ℕ → Type 0
HaveViews sessions numbers = All (λ n. IsTrue (has_view n sessions)) numbers

-- those of the numbers whose sessions are open
abbrev pub open_among : List Session → List ℕ → List ℕ
open_among sessions numbers = filter (λ n. is_open n sessions) numbers

-- those of the numbers whose sessions have had a view
abbrev pub viewed_among : List Session → List ℕ → List ℕ
viewed_among sessions numbers = filter (λ n. has_view n sessions) numbers
