-- What a service holds beside its store.
use Rattle.std.specs.Prelude.{ℕ, ◌≡◌, ◌<◌, List, All, Option, None, Some, ⊤}
use Rattle.zoom_session.specs.declared.session.Session.{Session}
use Rattle.zoom_session.specs.declared.view_spec.ViewSpec.{ViewSpec}
use Rattle.zoom_session.specs.Views.{IsRangeSpec}

-- a view of one of so many series, over a range that a view may have
pub record IsViewIn (count : ℕ) (spec : ViewSpec) : Type 0 where
  pub there : spec.series < count
  pub range : IsRangeSpec spec.range

-- the last view of a session, if it had one, is of one of so many series
abbrev pub HasViewIn : ℕ → Option ViewSpec → Type 0
HasViewIn count None = ⊤
HasViewIn count (Some spec) = IsViewIn count spec

-- the last views of all sessions are
abbrev pub AreViewsIn : ℕ → List Session → Type 0
AreViewsIn count sessions = All (λ session. HasViewIn count session.last) sessions

-- takes and sends keep the sessions
pub record KeepsSessions (store : Type 0) (old new : List Session) : Type 0 where
  pub store_is : store
  pub sessions : new ≡ old
