-- Which sessions can follow, and what shows their views.
use Rattle.std.specs.Prelude.{ℕ, ◌≡◌, Bool, false, not, nat_eq, List, All, Contains, Option, None, Some, IsTrue}
use Rattle.std.specs.Set.{is_member}
use Rattle.chart_frames.specs.declared.frame.Frame.{Frame}
use Rattle.chart_frames.specs.declared.frame.Frame.TheVariants.{View, Rows}
use Rattle.zoom_session.specs.declared.session.Session.{Session}
use Rattle.zoom_session.specs.declared.view_spec.ViewSpec.{ViewSpec}
use Rattle.zoom_session.specs.Sessions.{is_open, session_of}
use Rattle.live_view.specs.Replies.{is_too_large}

-- The session of this number is open and has had a view, which has a filter or can't need more coefficients than the
-- session's client keeps.
pub record CanFollow (sessions : List Session) (n : ℕ) : Type 0 where
  pub session : Session
  pub there : session_of n sessions ≡ Some session
  pub view : ViewSpec
  pub last : session.last ≡ Some view
  pub fits : is_too_large view session.cache.capacity ≡ false

-- whether the session of this number can
abbrev pub can_last : Option ViewSpec → ℕ → Bool
can_last None cache = false
can_last (Some view) cache = not (is_too_large view cache)

abbrev pub can_one : Option Session → Bool
can_one None = false
can_one (Some session) = can_last session.last session.cache.capacity

abbrev pub can_follow : ℕ → List Session → Bool
can_follow n sessions = can_one (session_of n sessions)

-- the sessions of these numbers can, by this test
abbrev pub AreAble : List Session → List ℕ → Type 0
AreAble sessions numbers = All (λ n. IsTrue (can_follow n sessions)) numbers

-- these numbers are some of those
abbrev pub AreAmong : List ℕ → List ℕ → Type 0
AreAmong numbers some = All (λ n. IsTrue (is_member nat_eq numbers n)) some

-- the sessions of these numbers can
abbrev pub AllCanFollow : List Session → List ℕ → Type 0
AllCanFollow sessions numbers = All (CanFollow sessions) numbers

-- sessions that can follow go on being able to, but the one whose following is ended
abbrev pub GoOnFollowing : Option ℕ → List Session → List Session → Type 0
GoOnFollowing ended old new = (n : ℕ) → (ended ≡ Some n → ⊥) → CanFollow old n → CanFollow new n

-- sessions that are still open are as they were
abbrev pub StayWhereOpen : List Session → List Session → Type 0
StayWhereOpen old new = (n : ℕ) → IsTrue (is_open n new) → session_of n new ≡ session_of n old

-- the frame shows a view of the session
abbrev pub ShowsOf : ℕ → Frame → Type 0
ShowsOf session (View view) = view.session ≡ session
ShowsOf session (Rows rows) = rows.session ≡ session
ShowsOf session frame = ⊥

-- it shows a view of one of the sessions
pub record ShowsOneOf (sessions : List ℕ) (frame : Frame) : Type 0 where
  pub session : ℕ
  pub among : Contains sessions session
  pub shows : ShowsOf session frame
