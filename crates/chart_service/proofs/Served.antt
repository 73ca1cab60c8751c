-- Replies that are the spellings of their frames.
use Rattle.std.proofs.Common.{◌≡◌, ℕ, List, [], ◌∷◌, ◌++◌, Option, Some, None, Result, Ok, Err, IfSome, IfErr, OnOk, refl, ap, inr, ◌∙◌}
use Rattle.block_disk.specs.View.{Image, View}
use Rattle.chart_world.specs.LineLaws.{told_so}
use Rattle.chart_frames.specs.declared.frame.Frame.{Frame}
use Rattle.chart_frames.specs.Frames.{spelling}
use Rattle.zoom_session.specs.declared.session.Session.{Session}
use Rattle.chart_service.specs.Answering.{ReplyFails, EndsAnswers}
use Rattle.chart_service.specs.Answering as answering
use Rattle.chart_service.specs.Making.{Makes, AreMade, AreMadeFrom}
use Rattle.chart_service.specs.Moments.{IsAhead, Since}
use Rattle.chart_service.specs.Serving.{AreSpelled, SendsText, SendsFrontOf, SendsTaken, SendsWithin, SendsSome, EndsServe, EndsAtBad}
use Rattle.chart_service.specs.Spelled.{spelled_end, serve_end}
use Rattle.chart_service.specs.State.{State}
use Rattle.chart_service.specs.Stepping.{StandsAfter}
use Rattle.chart_service.specs.Telling.{Tells, text_told, front_told, taken_told, within_told, some_told, lines_told, first_told}
use Rattle.chart_service.specs.Telling.{ahead_told}
use Rattle.chart_service.specs.MomentLaws.{since_so}
use Rattle.chart_service.specs.declared.failure.AnswerEnd.{AnswerEnd}
use Rattle.chart_service.specs.declared.failure.AnswerEnd.TheVariants.{Serve, Reply}
use Rattle.std.specs.declared.alloc.AllocError.{AllocError}
use Rattle.chart_service.specs.declared.failure.ServeEnd.{ServeEnd}
use Rattle.chart_service.specs.declared.failure.ServeEnd.TheVariants.{ReadFault, SendFault, DiskFault, Damaged, InputTooLong, NoMemory}
use Rattle.chart_service.proofs.Sending.{stands_on}

-- what is made of a frame is its spelling
module _ {S : Type 0} (makes : Makes S AllocError) (spells : (old new : S) (frame : Frame) (piece : List ℕ) → makes old frame (Ok piece) new
    → piece ≡ spelling frame) where
  pub made_spelled : (v w : S) (lines : List (Option (List ℕ))) (frames : List Frame) (text : List ℕ) → AreMade makes v w lines frames text
      → AreSpelled lines frames text
  made_spelled v w lines [] text all = all.0
  made_spelled v w lines (f ∷ fs) text all =
      all.4 ∙ ap (λ t. t ++ all.2) (spells v all.1 f all.0 all.3) ∙ ap (λ t. spelling f ++ t) (made_spelled all.1 w lines fs all.2 all.5)

  tells : (v w : S) (old : State) → Tells old (AreMade makes v w) AreSpelled
  tells v w old lines frames text new replied all = made_spelled v w lines frames text all

  tells_from : (v : S) (old : State) → Tells old (AreMadeFrom makes v) AreSpelled
  tells_from v old lines frames text new replied all = made_spelled v all.0 lines frames text all.1

  -- the whole input
  pub done_spelled : (v w : S) (o : Option (List ℕ)) (total : ℕ) (first : State) (image : Image) (sessions : List Session)
      (before now : Option (List ℕ))
      → StandsAfter total image sessions (λ new. IfSome o (λ input. SendsText (AreMade makes v w) input first new before now))
      → IfSome o (λ input. StandsAfter total image sessions (λ new. SendsText AreSpelled input first new before now))
  done_spelled v w None total first image sessions before now after = tt
  done_spelled v w (Some input) total first image sessions before now after =
      stands_on total image image sessions sessions (λ new. SendsText (AreMade makes v w) input first new before now)
      (λ new. SendsText AreSpelled input first new before now) refl refl
      (λ new sends. text_told (AreMade makes v w) AreSpelled input first new before now (tells v w first) sends) after

  -- what ends it
  module _ (v w : S) (old : State) (image : Image) (sessions : List Session) (left before now : Option (List ℕ)) where
    at : (P Q : State → Type 0) → ((s : State) → P s → Q s) → StandsAfter old.total image sessions P
        → StandsAfter old.total image sessions Q
    at P Q more after = stands_on old.total image image sessions sessions P Q refl refl more after

    ends_in : (input : List ℕ) (end : AnswerEnd AllocError) → EndsAnswers makes v w (Some input) old image sessions left before now end
        → EndsServe input old image sessions left before now (spelled_end end)
    ends_in input (Serve ReadFault) ends =
        at (λ new. IfSome left (λ bytes. SendsTaken (AreMade makes v w) input bytes old new before now))
        (λ new. IfSome left (λ bytes. SendsTaken AreSpelled input bytes old new before now))
        (λ new sends. told_so (λ bytes. SendsTaken (AreMade makes v w) input bytes old new before now)
        (λ bytes. SendsTaken AreSpelled input bytes old new before now) left
        (λ bytes taken. taken_told (AreMade makes v w) AreSpelled input bytes old new before now (tells v w old) taken) sends) ends
    ends_in input (Serve SendFault) ends =
        at (λ new. SendsFrontOf (AreMade makes v w) input old new before now) (λ new. SendsFrontOf AreSpelled input old new before now)
        (λ new sends. front_told (AreMade makes v w) AreSpelled input old new before now (tells v w old) sends) ends
    ends_in input (Serve DiskFault) ends = lines_told (AreMade makes v ends.0) AreSpelled input old before now (tells v ends.0 old) ends.1
    ends_in input (Serve (Damaged page)) ends = absurd ends
    ends_in input (Serve InputTooLong) ends =
        at (λ new. SendsWithin (AreMade makes v w) input old new before now) (λ new. SendsWithin AreSpelled input old new before now)
        (λ new sends. within_told (AreMade makes v w) AreSpelled input old new before now (tells v w old) sends) ends
    ends_in input (Serve NoMemory) ends =
        at (λ new. (last : S) × SendsSome (AreMade makes v last) input old new before now)
        (λ new. SendsSome AreSpelled input old new before now)
        (λ new sends. some_told (AreMade makes v sends.0) AreSpelled input old new before now (tells v sends.0 old) sends.1) ends
    ends_in input (Reply e) ends =
        at (λ new. ReplyFails makes v w input old new before now e) (λ new. SendsSome AreSpelled input old new before now)
        (λ new fails. record {
          rest = fails.rest;
          between = fails.between;
          first = first_told (AreMade makes v fails.last) AreSpelled input fails.rest old fails.between before now
              (tells v fails.last old) fails.first;
          state = inr fails.next;
        }) ends

    pub ends_spelled : {T : Type 0} (o : Option (List ℕ)) (r : Result T (AnswerEnd AllocError))
        → IfErr r (EndsAnswers makes v w o old image sessions left before now)
        → IfErr (serve_end r) (λ end. IfSome o (λ input. EndsServe input old image sessions left before now end))
    ends_spelled o (Ok x) ends = tt
    ends_spelled None (Err e) ends = tt
    ends_spelled (Some input) (Err e) ends = ends_in input e ends

  -- what a crash leaves
  pub lasts_spelled : (v : S) (o before : Option (List ℕ)) (total from : ℕ) (first : State) (old new : View)
      → IfSome o (λ input. IfSome before (λ bytes. Since old new (IsAhead (AreMadeFrom makes v) input total first from)))
      → IfSome o (λ input. IfSome before (λ bytes. Since old new (IsAhead AreSpelled input total first from)))
  lasts_spelled v None before total from first old new lasts = tt
  lasts_spelled v (Some input) None total from first old new lasts = tt
  lasts_spelled v (Some input) (Some bytes) total from first old new lasts =
      since_so old new (IsAhead (AreMadeFrom makes v) input total first from) (IsAhead AreSpelled input total first from)
      (λ image count is. ahead_told (AreMadeFrom makes v) AreSpelled input total first from image count (tells_from v first) is) lasts

-- a spelling makes just that
abbrev pub spelling_makes : Makes (Unit {0}) AllocError
spelling_makes old frame made new = OnOk made (made ≡ Ok (spelling frame))

pub spells : (old new : Unit {0}) (frame : Frame) (piece : List ℕ) → spelling_makes old frame (Ok piece) new → piece ≡ spelling frame
spells old new frame piece is = cc

-- ---- what a serving answers

pub served_ok : {T : Type 0} (r : Result T (AnswerEnd AllocError)) (P : Type 0) → OnOk r P → OnOk (serve_end r) P
served_ok (Ok x) P is = is
served_ok (Err e) P is = tt

pub served_fault : {T : Type 0} (r : Result T (AnswerEnd AllocError)) (f : ServeEnd) → (f ≡ NoMemory → ⊥) → serve_end r ≡ Err f
    → r ≡ Err (Serve f)
served_fault (Ok x) f other is = absurd (cc (is))
served_fault (Err (Serve e)) f other is = cc
served_fault (Err (Reply e)) f other is = absurd (other (cc))

pub served_bad : {T : Type 0} (told : Type 0) (count : ℕ) (image : Image) (r : Result T (AnswerEnd AllocError))
    → IfErr r (answering.EndsAtBad told count image) → IfErr (serve_end r) (EndsAtBad told count image)
served_bad told count image (Ok x) is = tt
served_bad told count image (Err (Serve e)) is = is
served_bad told count image (Err (Reply e)) is = tt
