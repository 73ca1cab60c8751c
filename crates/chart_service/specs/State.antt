-- What the service holds: a book and the open sessions.
use Rattle.std.specs.Prelude.{ℕ, ◌<◌, List, length, All, Option, None, Some, ⊤}
use Rattle.series_book.specs.declared.one_series.Series.{Series}
use Rattle.zoom_session.specs.declared.session.Session.{Session}
use Rattle.zoom_session.specs.declared.view_spec.ViewSpec.{ViewSpec}
use Rattle.zoom_session.specs.Views.{IsRangeSpec}
use Rattle.zoom_session.specs.Sessions.{AreSessions}
use Rattle.series_book.specs.Books.{IsBook}

-- the book, the pages that it may take, and the sessions that are open, in the order of their opening
pub record State : Type 0 where
  pub book : List Series
  pub total : ℕ
  pub sessions : List Session

-- a view of a series of this book, over a range that a view may have
pub record IsViewOf (book : List Series) (spec : ViewSpec) : Type 0 where
  pub there : spec.series < length book
  pub range : IsRangeSpec spec.range

-- the last view of a session, if it had one, is of a series of this book
abbrev pub HasViewOf : List Series → Option ViewSpec → Type 0
HasViewOf book None = ⊤
HasViewOf book (Some spec) = IsViewOf book spec

-- the last views of all sessions are
abbrev pub AreViewsOf : List Series → List Session → Type 0
AreViewsOf book sessions = All (λ session. HasViewOf book session.last) sessions

-- What holds of a service between calls: the book is one, no two open sessions have one number and at
-- most 16 are open, and their last views are of series of the book.
pub record IsSound (state : State) : Type 0 where
  pub book : IsBook state.book
  pub sessions : AreSessions state.sessions
  pub views : AreViewsOf state.book state.sessions
