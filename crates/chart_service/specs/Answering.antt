-- How the lines of an input are answered, by a service over a store.
use Rattle.std.specs.Prelude.{◌≡◌, ◌<◌, ◌-◌, ◌^◌, ℕ, List, ◌∷◌, length, Option, Err, IfSome}
use Rattle.block_disk.specs.View.{Image, sent_now}
use Rattle.gate_pages.specs.declared.pages.Pages.{Ghosts}
use Rattle.chart_frames.specs.declared.frame.Frame.{Frame}
use Rattle.series_book.specs.declared.one_series.Series.{Series}
use Rattle.zoom_session.specs.declared.session.Session.{Session}
use Rattle.chart_service.specs.Making.{Makes, AreMade, LinesDone, LinesStop, LinesMoments}
use Rattle.chart_service.specs.Moments.{IsAhead, Since, Through}
use Rattle.chart_service.specs.ReadingBlocks.{ReadsFirst, ReadsLines}
use Rattle.chart_service.specs.Serving.{AnswersNext, SendsText, SendsFirst, SendsFrontOf, SendsTaken, SendsWithin, SendsSome, SendsLines}
use Rattle.chart_service.specs.Serving.{EndsServe}
use Rattle.chart_service.specs.Serving as serving
use Rattle.chart_service.specs.Shown as shown
use Rattle.chart_service.specs.State.{State}
use Rattle.chart_service.specs.Stepping.{StandsAfter}
use Rattle.chart_service.specs.Syncing.{SyncsLines}
use Rattle.chart_service.specs.declared.failure.AnswerEnd.{AnswerEnd}
use Rattle.chart_service.specs.declared.failure.AnswerEnd.TheVariants.{Serve, Reply}
use Rattle.chart_service.specs.declared.failure.ServeEnd.{ServeEnd}
use Rattle.chart_service.specs.declared.failure.ServeEnd.TheVariants.{ReadFault, SendFault, DiskFault, Damaged, InputTooLong, NoMemory}
use Rattle.chart_service.specs.declared.service.Service.{Service}

-- what is said to lines
abbrev pub Telling : Type 1
Telling = List (Option (List ℕ)) → List Frame → List ℕ → Type 0

-- The bytes for some first lines were sent, lines behind them were done ahead, and making the bytes of their first frame
-- gave this error.
pub record ReplyFails {S F : Type 0} (makes : Makes S F) (kept kept' : S) (input : List ℕ) (old new : State) (before now : Option (List ℕ))
    (e : F) : Type 0 where
  pub rest : List ℕ
  pub between : State
  pub last : S
  pub first : SendsFirst (AreMade makes kept last) input rest old between before now
  pub next : AnswersNext (length first.front) rest between new
  pub frame : Frame
  pub later : List Frame
  pub is_first : next.frames ≡ frame ∷ later
  pub fails : makes last frame (Err e) kept'

-- why not all lines of the input were answered, and what was sent, where the pages stand for a book then
abbrev pub EndsAt : {S F : Type 0} → Makes S F → S → S → List ℕ → State → State → Option (List ℕ) → Option (List ℕ) → Option (List ℕ)
    → AnswerEnd F → Type 0
EndsAt makes kept kept' input old new left before now (Serve ReadFault) =
    IfSome left (λ bytes. SendsTaken (AreMade makes kept kept') input bytes old new before now)
EndsAt makes kept kept' input old new left before now (Serve SendFault) = SendsFrontOf (AreMade makes kept kept') input old new before now
EndsAt makes kept kept' input old new left before now (Serve DiskFault) = ⊥
EndsAt makes kept kept' input old new left before now (Serve (Damaged page)) = ⊥
EndsAt makes kept kept' input old new left before now (Serve InputTooLong) = SendsWithin (AreMade makes kept kept') input old new before now
EndsAt {S} makes kept kept' input old new left before now (Serve NoMemory) = (last : S)
    × SendsSome (AreMade makes kept last) input old new before now
EndsAt makes kept kept' input old new left before now (Reply e) = ReplyFails makes kept kept' input old new before now e

-- Why not all lines of the input were answered, and what was sent. Where it is no fault of the disk, the pages stand for
-- a book then; no page is damaged.
abbrev pub EndsAnswers : {S F : Type 0} → Makes S F → S → S → Option (List ℕ) → State → Image → List Session → Option (List ℕ)
    → Option (List ℕ) → Option (List ℕ) → AnswerEnd F → Type 0
EndsAnswers {S} makes kept kept' o old image sessions left before now (Serve DiskFault) =
    (last : S) × IfSome o (λ input. SendsLines (AreMade makes kept last) input old before now)
EndsAnswers makes kept kept' o old image sessions left before now (Serve (Damaged page)) = ⊥
EndsAnswers makes kept kept' o old image sessions left before now end =
    StandsAfter old.total image sessions (λ new. IfSome o (λ input. EndsAt makes kept kept' input old new left before now end))

-- a page that the end names is one of the store's, or damaged where reads give what the pages are
abbrev pub EndsAtBad : {F : Type 0} → Type 0 → ℕ → Image → AnswerEnd F → Type 0
EndsAtBad told count image (Serve end) = serving.EndsAtBad told count image end
EndsAtBad told count image (Reply e) = Unit {0}

-- ---- the same of a service, whose streams tell what is left of the input and what was sent

module _ {P : Type 0} {g : Ghosts P} (left sent : P → Option (List ℕ)) where
  abbrev left_in : Service P g → Option (List ℕ)
  left_in it = left (shown.pages it)

  abbrev sent_in : Service P g → Option (List ℕ)
  sent_in it = sent (shown.pages it)

  -- the text for the whole input was sent, and the pages stand for the book that its lines leave
  abbrev pub SendsAll : Telling → ℕ → List Series → Service P g → Service P g → Type 0
  SendsAll IsText total book old new =
      shown.StandsSo total new (λ after. IfSome (left_in old)
      (λ input. SendsText IsText input (shown.state old total book) after (sent_in old) (sent_in new)))

  -- the same, where the input is told
  abbrev pub SendsWhole : Telling → ℕ → List Series → Service P g → Service P g → Type 0
  SendsWhole IsText total book old new =
      IfSome (left_in old) (λ input. shown.StandsSo total new
      (λ after. SendsText IsText input (shown.state old total book) after (sent_in old) (sent_in new)))

  -- why not all lines of the input were answered, and what was sent
  abbrev pub EndsBy : {S F : Type 0} → Makes S F → S → S → ℕ → List Series → Service P g → Service P g → AnswerEnd F → Type 0
  EndsBy makes kept kept' total book old new =
      EndsAnswers makes kept kept' (left_in old) (shown.state old total book) (shown.image new) new.sessions (left_in new) (sent_in old)
      (sent_in new)

  -- the same of a serving
  abbrev pub ServeEndsBy : ℕ → List Series → Service P g → Service P g → ServeEnd → Type 0
  ServeEndsBy total book old new end =
      IfSome (left_in old) (λ input. EndsServe input (shown.state old total book) (shown.image new) new.sessions (left_in new) (sent_in old)
      (sent_in new) end)

  -- at each moment a crash leaves a book with each edit whose reply was sent by then, and at most `most_ahead` edits more
  abbrev pub LastsBy : Telling → ℕ → List Series → Service P g → Service P g → Type 0
  LastsBy IsText total book old new =
      IfSome (left_in old) (λ input. IfSome (sent_in old)
      (λ before. Since (shown.view old) (shown.view new)
      (IsAhead IsText input total (shown.state old total book) (sent_now (shown.view old)))))

module _ {P : Type 0} {g : Ghosts P} {S F : Type 0} (sent : P → Option (List ℕ)) (makes : Makes S F) where
  -- lines are answered, and the pages stand for the book that they leave
  abbrev pub AnswersOn : List (Option (List ℕ)) → S → S → ℕ → List Series → Service P g → Service P g → Type 0
  AnswersOn lines kept kept' total book old new =
      shown.StandsSo total new (λ after. LinesDone makes lines kept kept' (shown.state old total book) after (sent (shown.pages old))
      (sent (shown.pages new)))

  -- why they weren't
  abbrev pub StopsOn : List (Option (List ℕ)) → S → S → ℕ → List Series → Service P g → Service P g → AnswerEnd F → Type 0
  StopsOn lines kept kept' total book old new =
      LinesStop makes lines kept kept' (shown.state old total book) (shown.image new) new.sessions (sent (shown.pages old))
      (sent (shown.pages new))

-- the lines of the input read no more blocks than they may, and no other block was read
abbrev pub ReadsByLines : {P : Type 0} {g : Ghosts P} → (P → Option (List ℕ)) → ℕ → List Series → Service P g → Service P g → Type 0
ReadsByLines left total book old new =
    IfSome (left (shown.pages old)) (λ input. ReadsLines input (shown.state old total book) (shown.view old).reads (shown.view new).reads)

-- the first of these lines does
abbrev pub ReadsAsFirst : {P : Type 0} {g : Ghosts P} → List (Option (List ℕ)) → ℕ → List Series → Service P g → Service P g → Type 0
ReadsAsFirst lines total book old new = ReadsFirst lines (shown.state old total book) (shown.view old).reads (shown.view new).reads

-- the lines of the input sync no more often than they may, where the pieces are counted
abbrev pub SyncsByLines : {P : Type 0} {g : Ghosts P} → (P → Option (List ℕ)) → (P → ℕ) → ℕ → List Series → Service P g → Service P g
    → Type 0
SyncsByLines left pieces total book old new =
    IfSome (left (shown.pages old)) (λ input. pieces (shown.pages new) < 2 ^ 64 - 1
    → SyncsLines input total book (pieces (shown.pages new) - pieces (shown.pages old)) (shown.view old).syncs (shown.view new).syncs)

-- while lines are answered a crash leaves the book from before, or the one after them
abbrev pub LeavesBy : {P : Type 0} {g : Ghosts P} {S F : Type 0} → Makes S F → S → List (Option (List ℕ)) → ℕ → List Series → Service P g
    → Service P g → Type 0
LeavesBy makes kept lines total book old new =
    Through (shown.view old) (shown.view new) (LinesMoments makes kept lines (shown.state old total book) (sent_now (shown.view old)))

-- the same where the bytes sent are told
abbrev pub LeavesTold : {P : Type 0} {g : Ghosts P} {S F : Type 0} → (P → Option (List ℕ)) → Makes S F → S → List (Option (List ℕ)) → ℕ
    → List Series → Service P g → Service P g → Type 0
LeavesTold sent makes kept lines total book old new = IfSome (sent (shown.pages old))
    (λ bytes. LeavesBy makes kept lines total book old new)
