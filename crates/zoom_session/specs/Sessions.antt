-- The sessions that are open, in the order of their opening.
use Rattle.std.specs.Prelude.{ℕ, ◌≢◌, ◌≤◌, Bool, ◌==◌, ◌||◌, nat_le, nat_lt, if◌then◌else◌, List, [], ◌∷◌, length, All, AllPairs, Option}
use Rattle.std.specs.Prelude.{None, Some}
use Rattle.std.specs.List.{list_any}
use Rattle.om3_coeff.specs.declared.key.Key.{Key}
use Rattle.om3_coeff.specs.declared.coef.Coef.{Coef}
use Rattle.coefficient_cache.specs.Caches.{Cache, IsCapacity}
use Rattle.coefficient_cache.specs.Pairs.{in_series}
use Rattle.coefficient_cache.specs.Views.{renewed}
use Rattle.series_book.specs.declared.refusals.Refusal.{Refusal}
use Rattle.series_book.specs.declared.refusals.Refusal.TheVariants.{SessionOpen, TooManySessions, BadCache}
use Rattle.zoom_session.specs.Planned.{Plan}
use Rattle.zoom_session.specs.declared.view_spec.ViewSpec.{ViewSpec}
use Rattle.zoom_session.specs.declared.session.Session.{Session}

-- the session of this number is open
abbrev pub is_open : ℕ → List Session → Bool
is_open number sessions = list_any (λ session. session.number == number) sessions

-- the session of this number
abbrev pub session_of : ℕ → List Session → Option Session
session_of number [] = None
session_of number (s ∷ ss) = if s.number == number then Some s else session_of number ss

-- the view that a session was answered last
abbrev pub last_of : Option Session → Option ViewSpec
last_of None = None
last_of (Some s) = s.last

-- how many coefficients a session's client keeps
abbrev pub cache_of : Option Session → Option ℕ
cache_of None = None
cache_of (Some s) = Some s.cache.capacity

-- the most sessions that are open at once
abbrev pub most_sessions : ℕ
most_sessions = 16

-- the first cause that stands against opening a session, if any does
abbrev pub open_refusal : List Session → ℕ → ℕ → Option Refusal
open_refusal sessions number cache =
    if is_open number sessions then Some SessionOpen
    else if nat_le most_sessions (length sessions) then Some TooManySessions
    else if nat_lt cache 1 || nat_lt 131072 cache then Some BadCache
    else None

-- a session that has just been opened: it holds nothing and has had no view
abbrev pub fresh_session : ℕ → ℕ → Session
fresh_session number cache = record { number = number; cache = record { pairs = []; capacity = cache }; last = None }

-- the sessions without the one of this number
abbrev pub without : ℕ → List Session → List Session
without number [] = []
without number (s ∷ ss) = if s.number == number then ss else s ∷ without number ss

-- the keys of a view's plan, with their present coefficients; a filtered view has no plan
abbrev pub needed_in : Option Plan → Option (List (Key × Coef))
needed_in None = None
needed_in (Some plan) = Some plan.needed

-- a client's list after an answered view of a series: renewed by the keys of the view's plan, and as it was
-- where it has none
abbrev pub list_after : ℕ → Option (List (Key × Coef)) → Cache → Cache
list_after series None cache = cache
list_after series (Some needed) cache =
    record { pairs = renewed cache.capacity cache.pairs (in_series series needed); capacity = cache.capacity }

-- a session after an answered view, whose plan has these keys
abbrev pub after_view : ViewSpec → Option (List (Key × Coef)) → Session → Session
after_view spec needed s = record { number = s.number; cache = list_after spec.series needed s.cache; last = Some spec }

-- the sessions after an answered view of the one of this number
abbrev pub viewed : ℕ → ViewSpec → Option (List (Key × Coef)) → List Session → List Session
viewed number spec needed [] = []
viewed number spec needed (s ∷ ss) =
    if s.number == number then after_view spec needed s ∷ ss else s ∷ viewed number spec needed ss

-- what holds of the open sessions: no two have one number, there are at most 16, and each keeps at
-- least one coefficient
pub record AreSessions (sessions : List Session) : Type 0 where
  pub distinct : AllPairs (λ a b. a.number ≢ b.number) sessions
  pub few : length sessions ≤ most_sessions
  pub sizes : All (λ s. IsCapacity s.cache.capacity) sessions
