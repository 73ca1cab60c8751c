-- What is said of the work of a service on its lines.
use Rattle.std.specs.Prelude.{◌≡◌, ℕ, ◌+◌, ◌*◌, ◌/◌, ◌≤◌, List, [], length, Option, Vec}
use Rattle.std.specs.Borrow.{GName}
use Rattle.block_disk.specs.View.{Image, sent_now}
use Rattle.block_disk.specs.Streams.{sent_after}
use Rattle.gate_pages.specs.declared.pages.Pages.{Ghosts}
use Rattle.line_runs.specs.Carried.{DoesOne}
use Rattle.line_runs.specs.Given.{Given, Line}
use Rattle.line_runs.specs.Moments as moments
use Rattle.series_book.specs.declared.edits.Edit.{Edit}
use Rattle.series_store.specs.Groups.{weight}
use Rattle.zoom_session.specs.declared.session.Session.{Session}
use Rattle.chart_service.specs.EditGroups.{SpellsEdit}
use Rattle.chart_service.specs.Making.{Makes, LinesStop, LinesMoments}
use Rattle.chart_service.specs.Moments.{Through}
use Rattle.chart_service.specs.Shown as shown
use Rattle.chart_service.specs.Syncing.{edits_of}
use Rattle.chart_service.specs.declared.failure.AnswerEnd.{AnswerEnd}
use Rattle.chart_service.specs.declared.service.Service.{Service}
use Rattle.served_lines.specs.Standing.{IsFit, StandsSo}
use Rattle.served_lines.specs.Turning.{Answered, Does, Held, Leaves, Stand, Any, Over, StopsAt, StopsSo}
use Rattle.served_lines.specs.declared.turns.Turns.{Turns}

-- why what was given stopped the answering
abbrev pub StopsBy : {S F : Type 0} → Makes S F → Stand S → Given → GName → S → Type 0 → ℕ → Image → List Session → Option (List ℕ)
    → Option (List ℕ) → ℕ → ℕ → AnswerEnd F → Type 0
StopsBy makes (Any named) it name kept told count image sessions before now reads syncs end =
    StopsAt makes named it name kept told count image before now end
StopsBy makes (Over held) it name kept told count image sessions before now reads syncs end =
    StopsSo makes held it kept image sessions now reads syncs end

-- the edits kept back were done, all of them, in one group
pub record Settles {S F : Type 0} (makes : Makes S F) (old new : Held S) (text : List ℕ) : Type 0 where
  pub answered : Answered makes old new [] text
  pub none : new.ahead ≡ []
  pub few : new.syncs ≤ old.syncs + 4 * (1 + weight old.state.total old.state.book (edits_of old.ahead) / 22)

-- and what stands behind that
pub record SettlesTo {S F : Type 0} (makes : Makes S F) (old : Held S) (IsNow : Held S → Type 0)
    (before now : Option (List ℕ)) : Type 0 where
  pub text : List ℕ
  pub new : Held S
  pub settles : Settles makes old new text
  pub stands : IsNow new
  pub sent : now ≡ sent_after text before

-- they weren't all answered
pub record Unsettled {S F : Type 0} (makes : Makes S F) (old : Held S) (kept : S) (edits : List Edit) (image : Image)
    (sessions : List Session) (now : Option (List ℕ)) (reads syncs : ℕ) (end : AnswerEnd F) : Type 0 where
  pub why : LinesStop makes old.ahead old.kept kept old.state image sessions old.sent now end
  pub some : 1 ≤ length old.ahead
  pub reads_few : reads ≤ old.reads + 96 * length edits
  pub few : syncs ≤ old.syncs + 4 * (1 + weight old.state.total old.state.book (edits_of old.ahead) / 22)

module _ {P R S Z : Type 0} {g : Ghosts P} where
  abbrev pub FitIn : Turns R S (Vec Edit Z) → Service P g → Type 0
  FitIn turns it = IsFit (shown.view it) turns.edits.items

module _ {P R S Z : Type 0} {g : Ghosts P} (sent : P → Option (List ℕ)) where
  abbrev pub StandsIn : Stand S → Turns R S (Vec Edit Z) → Service P g → Type 0
  StandsIn stand turns it =
      StandsSo stand turns.kept.ghost_name turns.kept.now turns.edits.items (shown.IsTold it) (shown.view it) (shown.sessions it)
      (sent (shown.pages it))

  abbrev pub HeldIn : Held S → Turns R S (Vec Edit Z) → Service P g → Type 0
  HeldIn held turns it = StandsIn (Over held) turns it

module _ {P R S F Z : Type 0} {g : Ghosts P} (sent : P → Option (List ℕ)) (makes : Makes S F) where
  abbrev pub DoesIn : Stand S → Given → Turns R S (Vec Edit Z) → Service P g → Service P g → Type 0
  DoesIn stand it turns old new =
      DoesOne (Does makes) (λ s. StandsIn sent s turns new) stand it (sent (shown.pages old)) (sent (shown.pages new))

  abbrev pub StopsIn : Stand S → Given → AnswerEnd F → Turns R S (Vec Edit Z) → Service P g → Option (List ℕ) → Type 0
  StopsIn stand it end turns new before =
      StopsBy makes stand it turns.kept.ghost_name turns.kept.now (shown.IsTold new) (shown.view new).size (shown.image new)
      (shown.sessions new) before
      (sent (shown.pages new)) (shown.view new).reads (shown.view new).syncs end

  -- the same, by the service from before
  abbrev pub StopsFrom : Stand S → Given → Turns R S (Vec Edit Z) → Service P g → Service P g → AnswerEnd F → Type 0
  StopsFrom stand it turns old new end = StopsIn stand it end turns new (sent (shown.pages old))

  abbrev pub SettlesIn : Held S → Turns R S (Vec Edit Z) → Service P g → Service P g → Type 0
  SettlesIn held turns old new =
      SettlesTo makes held (λ h. HeldIn sent h turns new) (sent (shown.pages old)) (sent (shown.pages new))

  abbrev pub UnsettledIn : Held S → List Edit → Turns R S (Vec Edit Z) → Service P g → AnswerEnd F → Type 0
  UnsettledIn held edits turns new end =
      Unsettled makes held turns.kept.now edits (shown.image new) (shown.sessions new) (sent (shown.pages new))
      (shown.view new).reads (shown.view new).syncs end

module _ {P S F : Type 0} {g : Ghosts P} (makes : Makes S F) where
  abbrev pub LeavesIn : Stand S → Given → Service P g → Service P g → Type 0
  LeavesIn stand it old new =
      moments.Through (shown.view old) (shown.view new) (Leaves makes stand it (sent_now (shown.view old)))

  abbrev pub LeavesAhead : Held S → Service P g → Service P g → Type 0
  LeavesAhead held old new =
      Through (shown.view old) (shown.view new)
      (λ image count. (1 ≤ length held.ahead) × LinesMoments makes held.kept held.ahead held.state (sent_now (shown.view old)) image count)

-- so of each line that spells this edit, wherever it begins
abbrev pub ForSpelled : Edit → (Given → Type 0) → Type 0
ForSpelled edit IsSo = (at : ℕ) (line : Option (List ℕ)) → SpellsEdit line edit → IsSo (Line at line)
