-- What a service shows.
use Rattle.std.specs.Prelude.{ℕ, ◌≡◌, List, length}
use Rattle.block_disk.specs.View.{Image, View, Passes}
use Rattle.gate_pages.specs.Pages.{Quiet}
use Rattle.gate_pages.specs.declared.pages.Pages.{Ghosts}
use Rattle.chart_frames.specs.declared.frame.Frame.{Frame}
use Rattle.page_space.specs.declared.superblock.Superblock.{Superblock}
use Rattle.series_book.specs.declared.one_series.Series.{Series}
use Rattle.series_catalog.specs.declared.stored_series.StoredSeries.{StoredSeries}
use Rattle.series_store.specs.Shown as stored
use Rattle.series_store.specs.declared.store.Store.{Store}
use Rattle.zoom_session.specs.declared.session.Session.{Session}
use Rattle.chart_service.specs.State.{State}
use Rattle.chart_service.specs.Stepping.{StandsAfter, IsBeforeOrAfter, GroupSteps, state_of}
use Rattle.chart_service.specs.Holding.{KeepsSessions}
use Rattle.chart_service.specs.HoldingLaws.{sessions_none, sessions_then, sessions_so}
use Rattle.chart_service.specs.declared.service.Service.{Service}

module _ {P : Type 0} {g : Ghosts P} where
  -- its store
  abbrev pub store : Service P g → Store P g
  store it = it.store

  -- so many series has a store
  abbrev pub CountsSeries : (Store P g → ℕ) → Type 0
  CountsSeries count = (one : Store P g) → count one ≡ length (stored.catalog one)

  abbrev pub pages : Service P g → P
  pages it = stored.pages it.store

  abbrev pub view : Service P g → View
  view it = stored.view it.store

  abbrev pub under : Service P g → View
  under it = stored.under it.store

  abbrev pub image : Service P g → Image
  image it = stored.image it.store

  abbrev pub total : Service P g → ℕ
  total it = stored.total it.store

  -- what page 0 tells
  abbrev pub numbers : Service P g → Superblock
  numbers it = stored.numbers it.store

  abbrev pub catalog : Service P g → List StoredSeries
  catalog it = stored.catalog it.store

  -- reads give what the pages are
  abbrev pub IsTold : Service P g → Type 0
  IsTold it = stored.IsTold it.store

  abbrev pub sessions : Service P g → List Session
  sessions it = it.sessions

  -- its state over a book of its store
  abbrev pub state : Service P g → ℕ → List Series → State
  state it total book = state_of book total it.sessions

  -- so of each book that the pages stand for
  abbrev pub ForBook : Service P g → (ℕ → List Series → Type 0) → Type 0
  ForBook it = stored.ForBook it.store

  -- so of each book that the pages stand for, where calls may be made
  abbrev pub ForSoundBook : Service P g → (ℕ → List Series → Type 0) → Type 0
  ForSoundBook it = stored.ForSoundBook it.store

  -- the pages stand for a book with this total, and the state with it is so
  abbrev pub StandsSo : ℕ → Service P g → (State → Type 0) → Type 0
  StandsSo total it IsSo = StandsAfter total (image it) it.sessions IsSo

  -- at each moment a crash leaves the book from before, or one that an answer leaves
  abbrev pub PassesBy : (Frame → State → State → Type 0) → ℕ → List Series → Service P g → Service P g → Type 0
  PassesBy Reply total book old new = Passes (view old) (view new) (IsBeforeOrAfter Reply total book old.sessions) (Quiet (view old))

  -- at each moment a crash leaves one of these images
  abbrev pub PassesTo : (Image → Type 0) → Service P g → Service P g → Type 0
  PassesTo IsSo old new = Passes (view old) (view new) IsSo (Quiet (view old))

  -- edits move this, whatever the pages are
  abbrev pub MovesSo : Service P g → Service P g → Type 0
  MovesSo old new = GroupSteps (IsTold old) (IsTold new) (view old) (view new)

  -- the pages change so, and all else stays
  abbrev pub Keeps : Type 0 → Service P g → Service P g → Type 0
  Keeps so old new = KeepsSessions (stored.Keeps so old.store new.store) old.sessions new.sessions

  pub keeps_none : {so : Type 0} (at : Service P g) → so → Keeps so at at
  keeps_none {so} at are = sessions_none (stored.Keeps so at.store at.store) at.sessions (stored.keeps_none at.store are)

  pub keeps_then : {one two both : Type 0} (old between new : Service P g) → (one → two → both) → Keeps one old between
      → Keeps two between new → Keeps both old new
  keeps_then {one} {two} {both} old between new join first second =
      sessions_then (stored.Keeps one old.store between.store) (stored.Keeps two between.store new.store)
      (stored.Keeps both old.store new.store) old.sessions between.sessions new.sessions
      (stored.keeps_then old.store between.store new.store join) first second

  pub keeps_so : {one two : Type 0} (old new : Service P g) → (one → two) → Keeps one old new → Keeps two old new
  keeps_so {one} {two} old new more keeps =
      sessions_so (stored.Keeps one old.store new.store) (stored.Keeps two old.store new.store) old.sessions new.sessions
      (stored.keeps_so old.store new.store more) keeps
