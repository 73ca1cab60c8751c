-- What the clients of sessions have room for, whatever the pages are.
use Rattle.std.specs.Prelude.{ℕ, ◌≡◌, ◌≢◌, ◌+◌, ◌*◌, ◌<◌, ◌≤◌, List, Option, None, Some, Result, Ok, Err, ⊤}
use Rattle.chart_frames.specs.declared.frame.Frame.{Frame}
use Rattle.chart_frames.specs.declared.frame.Frame.TheVariants.{View as ViewOf, Rows}
use Rattle.request_lines.specs.declared.requests.Request.{Request}
use Rattle.request_lines.specs.declared.requests.Request.TheVariants.{Edit as EditRequest, Open, View as ViewRequest, Zoom, Pan, Close}
use Rattle.request_lines.specs.Requests.{read_line}
use Rattle.zoom_session.specs.declared.errors.PlanError.{PlanError}
use Rattle.zoom_session.specs.declared.errors.PlanError.TheVariants.{TooLarge, Node, NoMemory}
use Rattle.zoom_session.specs.declared.session.Session.{Session}
use Rattle.zoom_session.specs.declared.view_spec.ViewSpec.{ViewSpec}
use Rattle.zoom_session.specs.Sessions.{session_of}

-- the most coefficients that a view on so many columns needs, whatever its series stores: on each of 35 levels one for each
-- border between columns, and two for each column
abbrev pub most_coefs : ℕ → ℕ
most_coefs w = (3 * w + 1) * 35

-- a client that keeps so many coefficients has room for a view: it has a filter, or needs no more
abbrev pub IsRoomFor : ViewSpec → ℕ → Type 0
IsRoomFor view capacity = view.filter ≡ None → most_coefs view.grid.w ≤ capacity

-- the session of this number is open and has had a view, for which its client has room
pub record HasRoom (sessions : List Session) (n : ℕ) : Type 0 where
  pub session : Session
  pub there : session_of n sessions ≡ Some session
  pub view : ViewSpec
  pub last : session.last ≡ Some view
  pub room : IsRoomFor view session.cache.capacity

-- the client of the session of this number, if it is open, has room for a view
abbrev pub FitsIn : ℕ → ViewSpec → List Session → Type 0
FitsIn number view sessions = (session : Session) → session_of number sessions ≡ Some session → IsRoomFor view session.cache.capacity

-- a view on so many columns is too large only for a client that keeps fewer coefficients than such a view may need
abbrev pub IsShortFor : Option Session → ℕ → PlanError → Type 0
IsShortFor session w (TooLarge needed cache) = (one : Session) × (session ≡ Some one) × (one.cache.capacity < most_coefs w)
IsShortFor session w (Node error) = ⊤
IsShortFor session w NoMemory = ⊤

-- a client with room for its session's last view goes on having it
abbrev pub KeepRooms : List Session → List Session → Type 0
KeepRooms old new = (n : ℕ) → HasRoom old n → HasRoom new n

-- the sessions but the one of this number stay
abbrev pub OthersStay : ℕ → List Session → List Session → Type 0
OthersStay number old new = (n : ℕ) → n ≢ number → session_of n new ≡ session_of n old

-- what the reply to a request leaves of the sessions
abbrev pub LeavesOpen : Request → List Session → List Session → Type 0
LeavesOpen (EditRequest edit) old new = new ≡ old
LeavesOpen (Open number cache) old new = OthersStay number old new
LeavesOpen (ViewRequest number name w h t0 t1 word text) old new = OthersStay number old new
LeavesOpen (Zoom number t0 t1) old new = KeepRooms old new
LeavesOpen (Pan number by) old new = KeepRooms old new
LeavesOpen (Close number) old new = OthersStay number old new

-- and the reply to a line: one that says no request leaves them
abbrev pub LeavesRead : Result Request ℕ → List Session → List Session → Type 0
LeavesRead (Err at) old new = new ≡ old
LeavesRead (Ok request) old new = LeavesOpen request old new

abbrev pub LeavesLine : Option (List ℕ) → List Session → List Session → Type 0
LeavesLine None old new = new ≡ old
LeavesLine (Some text) old new = LeavesRead (read_line text) old new

-- the frame tells a view in the session
abbrev pub TellsIn : ℕ → Frame → Type 0
TellsIn session (ViewOf view) = view.session ≡ session
TellsIn session (Rows rows) = rows.session ≡ session
TellsIn session frame = ⊥
