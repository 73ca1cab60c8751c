-- What replies know of the sessions that are open.
use Rattle.std.specs.Prelude.{ℕ, Bool, List, IsTrue, Ok, Err, ⊤}
use Rattle.chart_frames.specs.declared.frame.Frame.{Frame}
use Rattle.chart_frames.specs.declared.frame.Frame.TheVariants.{Done, Refused, Opened, Closed, View, Rows, Live, Report}
use Rattle.chart_frames.specs.Frames.{Fits}
use Rattle.chart_frames.specs.Opened.{opens}
use Rattle.zoom_session.specs.declared.session.Session.{Session}
use Rattle.zoom_session.specs.Sessions.{is_open}
use Rattle.chart_service.specs.Making.{Makes}
use Rattle.chart_service.specs.declared.failure.AnswerEnd.{AnswerEnd}
use Rattle.chart_service.specs.declared.failure.AnswerEnd.TheVariants.{Serve, Reply}

-- A frame whose bytes were made opens its session for what is known, or closes it, or leaves all sessions.
abbrev pub Follows : {S F : Type 0} → Makes S F → (S → ℕ → Bool) → Type 0
Follows {S} makes knows =
    (old new : S) (frame : Frame) (piece : List ℕ) (n : ℕ) → Fits frame → makes old frame (Ok piece) new
    → IsTrue (opens frame n (knows old n)) → IsTrue (knows new n)

-- each session that is open is known
abbrev pub KnowsOpen : {S : Type 0} → (S → ℕ → Bool) → S → List Session → Type 0
KnowsOpen knows kept sessions = (n : ℕ) → IsTrue (is_open n sessions) → IsTrue (knows kept n)

-- a frame that answers in a session, or closes one, names a known one
abbrev pub NamesKnown : Frame → (ℕ → Bool) → Type 0
NamesKnown (Done slots) knows = ⊤
NamesKnown (Refused number a b) knows = ⊤
NamesKnown (Opened session cache) knows = ⊤
NamesKnown (Closed session) knows = IsTrue (knows session)
NamesKnown (View view) knows = IsTrue (knows view.session)
NamesKnown (Rows rows) knows = IsTrue (knows rows.session)
NamesKnown (Live session on) knows = IsTrue (knows session)
NamesKnown (Report report) knows = ⊤

-- bytes that weren't made are those of a frame that names known sessions
abbrev pub EndsKnown : {S F : Type 0} → Makes S F → (S → ℕ → Bool) → AnswerEnd F → Type 0
EndsKnown makes knows (Serve end) = ⊤
EndsKnown {S} makes knows (Reply e) = (old : S) × (frame : Frame) × (new : S) × Fits frame × NamesKnown frame (knows old)
    × makes old frame (Err e) new
