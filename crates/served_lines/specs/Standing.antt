-- What stands where a line may be given.
use Rattle.std.specs.Prelude.{◌≡◌, ℕ, ◌<◌, List, length, All, Option}
use Rattle.std.specs.Borrow.{GName}
use Rattle.block_disk.specs.View.{View}
use Rattle.series_book.specs.declared.edits.Edit.{Edit}
use Rattle.series_book.specs.Edits.{IsEdit}
use Rattle.stored_book.specs.Standing.{StandsForBook}
use Rattle.zoom_session.specs.declared.session.Session.{Session}
use Rattle.chart_service.specs.EditGroups.{SpellEdits}
use Rattle.chart_service.specs.Serving.{most_ahead}
use Rattle.served_lines.specs.Turning.{Held, Named, Stand, Any, Over}

-- calls may be made, and fewer than 64 edits are kept back
pub record IsFit (at : View) (edits : List Edit) : Type 0 where
  pub sound : at.fit
  pub few : length edits < most_ahead
  pub are_edits : All IsEdit edits

-- the pages, which reads give, stand for the book, and the lines kept back spell the edits that are
pub record IsHeld {S : Type 0} (held : Held S) (kept : S) (edits : List Edit) (told : Type 0) (at : View)
    (sessions : List Session) (sent : Option (List ℕ)) : Type 0 where
  pub told_so : told
  pub stands : StandsForBook at.image held.state.total held.state.book
  pub sessions_are : held.state.sessions ≡ sessions
  pub kept_is : held.kept ≡ kept
  pub spells : SpellEdits held.ahead edits
  pub sent_is : held.sent ≡ sent
  pub reads_are : held.reads ≡ at.reads
  pub syncs_are : held.syncs ≡ at.syncs

-- and the lines kept back spell the edits that are, whatever the pages are
pub record IsNamed {S : Type 0} (named : Named S) (name : GName) (kept : S) (edits : List Edit) (sessions : List Session) : Type 0 where
  pub name_is : named.name ≡ name
  pub kept_is : named.kept ≡ kept
  pub spells : SpellEdits named.ahead edits
  pub sessions_are : named.sessions ≡ sessions

abbrev pub StandsSo : {S : Type 0} → Stand S → GName → S → List Edit → Type 0 → View → List Session → Option (List ℕ) → Type 0
StandsSo (Any named) name kept edits told at sessions sent = IsNamed named name kept edits sessions
StandsSo (Over held) name kept edits told at sessions sent = IsHeld held kept edits told at sessions sent
