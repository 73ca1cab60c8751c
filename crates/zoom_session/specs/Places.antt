-- Where the session of a number stands among those that are open.
use Rattle.std.specs.Prelude.{ℕ, ◌≡◌, ◌<◌, true, false, List, length, get_or, slice_set, Option, None, Some}
use Rattle.std.specs.List.{remove}
use Rattle.om3_coeff.specs.declared.key.Key.{Key}
use Rattle.om3_coeff.specs.declared.coef.Coef.{Coef}
use Rattle.zoom_session.specs.declared.session.Session.{Session}
use Rattle.zoom_session.specs.declared.view_spec.ViewSpec.{ViewSpec}
use Rattle.zoom_session.specs.Sessions.{is_open, session_of, without, viewed, after_view}

-- the session of the number stands at this place
pub record IsPlaceOf (number : ℕ) (sessions : List Session) (place : ℕ) : Type 0 where
  pub inside : place < length sessions
  pub opened : is_open number sessions ≡ true
  pub session : (d : Session) → session_of number sessions ≡ Some (get_or sessions place d)
  pub removed : without number sessions ≡ remove sessions place
  pub changed : (spec : ViewSpec) (needed : Option (List (Key × Coef))) (d : Session) →
      viewed number spec needed sessions ≡ slice_set sessions place (after_view spec needed (get_or sessions place d))

-- no session has the number
pub record IsClosed (number : ℕ) (sessions : List Session) : Type 0 where
  pub opened : is_open number sessions ≡ false
  pub session : session_of number sessions ≡ None
