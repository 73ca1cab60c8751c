-- A run answers lines by the texts of what their frames show.
use Rattle.std.proofs.Common.{◌≡◌, ℕ, Bool, true, List, [], ◌∷◌, ◌++◌, Option, Some, None, Result, Ok, Err, IfSome, refl, ap, inr, ◌∙◌}
use Rattle.std.specs.Prelude.{IfErr, OnOk}
use Rattle.block_disk.specs.View.{Image, View}
use Rattle.chart_world.specs.LineLaws.{told_so}
use Rattle.chart_frames.specs.declared.frame.Frame.{Frame}
use Rattle.chart_frames.specs.Frames.{spelling}
use Rattle.chart_client.specs.declared.errors.ClientError.{ClientError}
use Rattle.zoom_session.specs.declared.session.Session.{Session}
use Rattle.chart_service.specs.Answering.{EndsAnswers}
use Rattle.chart_service.specs.Answering as answering
use Rattle.chart_service.specs.Knowing as knowing
use Rattle.chart_service.specs.Making.{AreMade, AreMadeFrom}
use Rattle.chart_service.specs.MomentLaws.{since_so}
use Rattle.chart_service.specs.Moments.{Since, IsAhead}
use Rattle.chart_service.specs.Serving.{SendsText, SendsTaken, SendsLines}
use Rattle.chart_service.specs.State.{State}
use Rattle.chart_service.specs.Stepping.{StandsAfter}
use Rattle.chart_service.specs.Telling.{Tells, text_told, first_told, front_told, taken_told, within_told, some_told, lines_told}
use Rattle.chart_service.specs.Telling.{ahead_told}
use Rattle.chart_service.specs.declared.failure.AnswerEnd.{AnswerEnd}
use Rattle.chart_service.specs.declared.failure.AnswerEnd.TheVariants as answers
use Rattle.chart_service.specs.declared.failure.ServeEnd.{ServeEnd}
use Rattle.chart_service.specs.declared.failure.ServeEnd.TheVariants.{ReadFault, SendFault, DiskFault, Damaged, InputTooLong, NoMemory}
use Rattle.chart_service.proofs.Sending.{stands_on}
use Rattle.chart_program.specs.Known.{Follows, EndsKnown}
use Rattle.chart_program.specs.Runs.{Gives, AreShown, AreShownFrom, MakesText, EndsRunAt, EndsRun, EndsAtBad, IsShown, run_answer}
use Rattle.chart_program.specs.declared.run_end.RunEnd.{RunEnd}
use Rattle.chart_program.specs.declared.run_end.RunEnd.TheVariants.{Serve, Show}

module _ {V : Type 0} (gives : Gives V) where
  -- texts that are made are those of what is shown
  pub made_shown : (v w : V) (lines : List (Option (List ℕ))) (frames : List Frame) (text : List ℕ)
      → AreMade (MakesText gives) v w lines frames text → AreShown gives v w lines frames text
  made_shown v w lines [] text all = all
  made_shown v w lines (f ∷ fs) text all =
      (all.3.0, all.1, all.2, all.3.1, all.4 ∙ ap (λ t. t ++ all.2) all.3.2, made_shown all.1 w lines fs all.2 all.5)

  tells : (v w : V) (old : State) → Tells old (AreMade (MakesText gives) v w) (AreShown gives v w)
  tells v w old lines frames text new replied all = made_shown v w lines frames text all

  tells_from : (v : V) (old : State) → Tells old (AreMadeFrom (MakesText gives) v) (AreShownFrom gives v)
  tells_from v old lines frames text new replied all = (all.0, made_shown v all.0 lines frames text all.1)

  -- the whole input
  pub done_shown : (v w : V) (o : Option (List ℕ)) (total : ℕ) (first : State) (image : Image) (sessions : List Session)
      (before now : Option (List ℕ))
      → StandsAfter total image sessions (λ new. IfSome o (λ input. SendsText (AreMade (MakesText gives) v w) input first new before now))
      → StandsAfter total image sessions (λ new. IfSome o (λ input. SendsText (AreShown gives v w) input first new before now))
  done_shown v w o total first image sessions before now after =
      stands_on total image image sessions sessions
      (λ new. IfSome o (λ input. SendsText (AreMade (MakesText gives) v w) input first new before now))
      (λ new. IfSome o (λ input. SendsText (AreShown gives v w) input first new before now)) refl refl
      (λ new sends. told_so (λ input. SendsText (AreMade (MakesText gives) v w) input first new before now)
      (λ input. SendsText (AreShown gives v w) input first new before now) o
      (λ input sent. text_told (AreMade (MakesText gives) v w) (AreShown gives v w) input first new before now (tells v w first) sent)
      sends) after

  -- bytes that weren't made, whatever is known of sessions
  abbrev pub Unmade : AnswerEnd RunEnd → Type 0
  Unmade end = knowing.EndsKnown (MakesText gives) (λ v n. true) end

  -- what ends it
  module _ (v w : V) (old : State) (image : Image) (sessions : List Session) (left before now : Option (List ℕ)) where
    abbrev EndsBefore : List ℕ → State → AnswerEnd RunEnd → Type 0
    EndsBefore input new end = answering.EndsAt (MakesText gives) v w input old new left before now end

    abbrev EndsThen : List ℕ → State → RunEnd → Type 0
    EndsThen input new end = EndsRunAt gives v w input old new left before now end

    after : (o : Option (List ℕ)) (end : AnswerEnd RunEnd) (end' : RunEnd)
        → ((input : List ℕ) (new : State) → EndsBefore input new end → EndsThen input new end')
        → StandsAfter old.total image sessions (λ new. IfSome o (λ input. EndsBefore input new end))
        → StandsAfter old.total image sessions (λ new. IfSome o (λ input. EndsThen input new end'))
    after o end end' more ends =
        stands_on old.total image image sessions sessions (λ new. IfSome o (λ input. EndsBefore input new end))
        (λ new. IfSome o (λ input. EndsThen input new end')) refl refl
        (λ new is. told_so (λ input. EndsBefore input new end) (λ input. EndsThen input new end') o (λ input. more input new) is) ends

    read_at : (input : List ℕ) (new : State) → EndsBefore input new (answers.Serve ReadFault) → EndsThen input new (Serve ReadFault)
    read_at input new ends =
        told_so (λ bytes. SendsTaken (AreMade (MakesText gives) v w) input bytes old new before now)
        (λ bytes. SendsTaken (AreShown gives v w) input bytes old new before now) left
        (λ bytes. taken_told (AreMade (MakesText gives) v w) (AreShown gives v w) input bytes old new before now (tells v w old)) ends

    some_at : (input : List ℕ) (new : State) → EndsBefore input new (answers.Serve NoMemory) → EndsThen input new (Serve NoMemory)
    some_at input new ends = (
      ends.0,
      some_told (AreMade (MakesText gives) v ends.0) (AreShown gives v ends.0) input old new before now
          (tells v ends.0 old) ends.1,
    )

    -- the text of the next line's frame wasn't made
    lacks_at : (input : List ℕ) (new : State) → EndsBefore input new (answers.Reply (Serve NoMemory)) → EndsThen input new (Serve NoMemory)
    lacks_at input new fails = (
      fails.last,
      record {
        rest = fails.rest;
        between = fails.between;
        first = first_told (AreMade (MakesText gives) v fails.last)
            (AreShown gives v fails.last) input fails.rest old fails.between before now (tells v fails.last old) fails.first;
        state = inr fails.next;
      },
    )

    fails_at : (e : ClientError) (input : List ℕ) (new : State) → EndsBefore input new (answers.Reply (Show e))
        → EndsThen input new (Show e)
    fails_at e input new fails = record {
      rest = fails.rest;
      between = fails.between;
      screen = fails.last;
      first = first_told (AreMade (MakesText gives) v fails.last)
          (AreShown gives v fails.last) input fails.rest old fails.between before now (tells v fails.last old) fails.first;
      next = fails.next;
      frame = fails.frame;
      later = fails.later;
      is_first = fails.is_first;
      fails = fails.fails;
    }

    pub ends_shown : {T : Type 0} (o : Option (List ℕ)) (r : Result T (AnswerEnd RunEnd)) → IfErr r Unmade
        → IfErr r (EndsAnswers (MakesText gives) v w o old image sessions left before now)
        → IfErr (run_answer r) (EndsRun gives v w o old image sessions left before now)
    ends_shown o (Ok x) unmade ends = tt
    ends_shown o (Err (answers.Serve ReadFault)) unmade ends = after o (answers.Serve ReadFault) (Serve ReadFault) read_at ends
    ends_shown o (Err (answers.Serve SendFault)) unmade ends =
        after o (answers.Serve SendFault) (Serve SendFault)
        (λ input new sends. front_told (AreMade (MakesText gives) v w) (AreShown gives v w) input old new before now
        (tells v w old) sends) ends
    ends_shown o (Err (answers.Serve DiskFault)) unmade ends = (
      ends.0,
      told_so (λ input. SendsLines (AreMade (MakesText gives) v ends.0) input old before now)
          (λ input. SendsLines (AreShown gives v ends.0) input old before now) o
          (λ input. lines_told (AreMade (MakesText gives) v ends.0) (AreShown gives v ends.0) input old before now (tells v ends.0 old))
          ends.1,
    )
    ends_shown o (Err (answers.Serve (Damaged page))) unmade ends = absurd ends
    ends_shown o (Err (answers.Serve InputTooLong)) unmade ends =
        after o (answers.Serve InputTooLong) (Serve InputTooLong)
        (λ input new sends. within_told (AreMade (MakesText gives) v w) (AreShown gives v w) input old new before now
        (tells v w old) sends) ends
    ends_shown o (Err (answers.Serve NoMemory)) unmade ends = after o (answers.Serve NoMemory) (Serve NoMemory) some_at ends
    ends_shown o (Err (answers.Reply (Serve ReadFault))) unmade ends = absurd unmade.5
    ends_shown o (Err (answers.Reply (Serve SendFault))) unmade ends = absurd unmade.5
    ends_shown o (Err (answers.Reply (Serve DiskFault))) unmade ends = absurd unmade.5
    ends_shown o (Err (answers.Reply (Serve (Damaged page)))) unmade ends = absurd unmade.5
    ends_shown o (Err (answers.Reply (Serve InputTooLong))) unmade ends = absurd unmade.5
    ends_shown o (Err (answers.Reply (Serve NoMemory))) unmade ends = after o (answers.Reply (Serve NoMemory))
        (Serve NoMemory) lacks_at ends
    ends_shown o (Err (answers.Reply (Show e))) unmade ends = after o (answers.Reply (Show e)) (Show e) (fails_at e) ends

  -- what a crash leaves
  pub lasts_shown : (v : V) (o before : Option (List ℕ)) (total from : ℕ) (first : State) (old new : View)
      → IfSome o (λ input. IfSome before (λ bytes. Since old new (IsAhead (AreMadeFrom (MakesText gives) v) input total first from)))
      → IfSome o (λ input. IfSome before (λ bytes. Since old new (IsAhead (AreShownFrom gives v) input total first from)))
  lasts_shown v None before total from first old new lasts = tt
  lasts_shown v (Some input) None total from first old new lasts = tt
  lasts_shown v (Some input) (Some bytes) total from first old new lasts =
      since_so old new (IsAhead (AreMadeFrom (MakesText gives) v) input total first from)
      (IsAhead (AreShownFrom gives v) input total first from)
      (λ image count is. ahead_told (AreMadeFrom (MakesText gives) v) (AreShownFrom gives v) input total first from image count
      (tells_from v first) is) lasts

  -- ---- what a run answers

  pub run_fault : {T : Type 0} (r : Result T (AnswerEnd RunEnd)) (f : ServeEnd) → (f ≡ NoMemory → ⊥) → IfErr r Unmade
      → run_answer r ≡ Err (Serve f) → r ≡ Err (answers.Serve f)
  run_fault (Ok x) f other unmade is = absurd (cc (is))
  run_fault (Err (answers.Serve e)) f other unmade is = cc
  run_fault (Err (answers.Reply (Serve ReadFault))) f other unmade is = absurd unmade.5
  run_fault (Err (answers.Reply (Serve SendFault))) f other unmade is = absurd unmade.5
  run_fault (Err (answers.Reply (Serve DiskFault))) f other unmade is = absurd unmade.5
  run_fault (Err (answers.Reply (Serve (Damaged page)))) f other unmade is = absurd unmade.5
  run_fault (Err (answers.Reply (Serve InputTooLong))) f other unmade is = absurd unmade.5
  run_fault (Err (answers.Reply (Serve NoMemory))) f other unmade is = absurd (other (cc))
  run_fault (Err (answers.Reply (Show e))) f other unmade is = absurd (cc (is))

  pub run_bad : {T : Type 0} (told : Type 0) (count : ℕ) (image : Image) (r : Result T (AnswerEnd RunEnd)) → IfErr r Unmade
      → IfErr r (answering.EndsAtBad told count image) → IfErr (run_answer r) (EndsAtBad told count image)
  run_bad told count image (Ok x) unmade bad = tt
  run_bad told count image (Err (answers.Serve e)) unmade bad = bad
  run_bad told count image (Err (answers.Reply (Serve ReadFault))) unmade bad = tt
  run_bad told count image (Err (answers.Reply (Serve SendFault))) unmade bad = tt
  run_bad told count image (Err (answers.Reply (Serve DiskFault))) unmade bad = tt
  run_bad told count image (Err (answers.Reply (Serve (Damaged page)))) unmade bad = absurd unmade.5
  run_bad told count image (Err (answers.Reply (Serve InputTooLong))) unmade bad = tt
  run_bad told count image (Err (answers.Reply (Serve NoMemory))) unmade bad = tt
  run_bad told count image (Err (answers.Reply (Show e))) unmade bad = tt

  pub run_shown : {T : Type 0} (r : Result T (AnswerEnd RunEnd)) → IfErr r Unmade → IfErr (run_answer r) (IsShown gives)
  run_shown (Ok x) unmade = tt
  run_shown (Err (answers.Serve e)) unmade = tt
  run_shown (Err (answers.Reply (Serve e))) unmade = tt
  run_shown (Err (answers.Reply (Show e))) unmade = (unmade.0, spelling unmade.1, unmade.2, unmade.5)

  pub follows : (knows : V → ℕ → Bool) → Follows gives knows → knowing.Follows (MakesText gives) knows
  follows knows is = λ old new frame piece n fits made opens. is old new frame made.0 n fits made.1 opens

  pub run_known : {T : Type 0} (knows : V → ℕ → Bool) (r : Result T (AnswerEnd RunEnd))
      → IfErr r (knowing.EndsKnown (MakesText gives) knows) → IfErr (run_answer r) (EndsKnown gives knows)
  run_known knows (Ok x) known = tt
  run_known knows (Err (answers.Serve e)) known = tt
  run_known knows (Err (answers.Reply (Serve e))) known = tt
  run_known knows (Err (answers.Reply (Show e))) known = known

-- nothing is known of sessions where all are
pub all_follow : {V : Type 0} (gives : Gives V) → knowing.Follows (MakesText gives) (λ v n. true)
all_follow gives = λ old new frame piece n fits made opens. refl

pub all_known : {V : Type 0} (v : V) (sessions : List Session) → knowing.KnowsOpen (λ w n. true) v sessions
all_known v sessions = λ n is. refl

pub run_ok : {T : Type 0} (r : Result T (AnswerEnd RunEnd)) (P : Type 0) → OnOk r P → OnOk (run_answer r) P
run_ok (Ok x) P is = is
run_ok (Err (answers.Serve e)) P is = tt
run_ok (Err (answers.Reply e)) P is = tt
