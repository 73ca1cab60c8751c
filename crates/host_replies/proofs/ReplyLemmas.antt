-- When a session is open.
use Rattle.std.proofs.Common.{◌≡◌, ℕ, true, false, ◌==◌, List, [], ◌∷◌, Some, refl}
use Rattle.std.specs.Prelude.{◌||◌, is_some, if◌then◌else◌}
use Rattle.zoom_session.specs.Sessions.{cache_of, is_open, session_of}
use Rattle.zoom_session.specs.declared.session.Session.{Session}

-- a session is open just where its list has a size
pub open_by_cache : (number : ℕ) (ss : List Session) → is_some (cache_of (session_of number ss)) ≡ is_open number ss
open_by_cache number [] = refl
open_by_cache number (s ∷ ss) = elim (s.number == number) as
    (λ b. is_some (cache_of (if b then Some s else session_of number ss)) ≡ (b || is_open number ss)) [
      | true ↦ refl
      | false ↦ open_by_cache number ss
    ]
