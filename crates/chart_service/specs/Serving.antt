-- What is sent for the lines of an input: the frames that answer those that aren't empty, as a text.
use Rattle.std.specs.Prelude.{◌≡◌, ℕ, ◌+◌, ◌-◌, ◌^◌, ◌<◌, ◌≤◌, ◌⊎◌, List, [], ◌∷◌, ◌++◌, length, take, flat_map, Option, IfSome, ⊤}
use Rattle.std.specs.List.{filter}
use Rattle.block_disk.specs.Streams.{sent_after}
use Rattle.block_disk.specs.View.{Image, View, DiskKept}
use Rattle.chart_world.specs.declared.line_answer.LineFault.{LineFault}
use Rattle.chart_world.specs.declared.line_answer.LineFault.TheVariants as fault
use Rattle.chart_world.specs.Fronts.{says, BeginsWith, IsWhole}
use Rattle.chart_world.specs.Lines.{lines, NoLineFeed}
use Rattle.gate_pages.specs.Pages.{GoesOn}
use Rattle.chart_frames.specs.declared.frame.Frame.{Frame}
use Rattle.chart_frames.specs.Frames.{spelling}
use Rattle.zoom_session.specs.declared.session.Session.{Session}
use Rattle.chart_service.specs.State.{State}
use Rattle.chart_service.specs.Replies.{Replied}
use Rattle.chart_service.specs.Stepping.{StandsAfter, IsBadPage}
use Rattle.chart_service.specs.declared.failure.ServiceError.{ServiceError}
use Rattle.chart_service.specs.declared.failure.ServiceError.TheVariants as step
use Rattle.chart_service.specs.declared.failure.ServeEnd.{ServeEnd}
use Rattle.chart_service.specs.declared.failure.ServeEnd.TheVariants.{ReadFault, SendFault, DiskFault, Damaged, InputTooLong, NoMemory}

-- a line, unless it is empty
abbrev pub unless_empty : Option (List ℕ) → List (Option (List ℕ))
unless_empty line = filter says (line ∷ [])

-- the lines that are answered: those that aren't empty
abbrev pub told : List ℕ → List (Option (List ℕ))
told input = filter says (lines input)

-- how many lines at most may be done before the first of them is answered
abbrev pub most_ahead : ℕ
most_ahead = 64

-- What lines do, one after the other: by which frames they are answered, and to which state. Of this the loop that
-- answers lines knows that no lines do nothing, and that lines behind others do what both do.
abbrev pub RepliesToAll : State → List (Option (List ℕ)) → List Frame → State → Type 0
RepliesToAll old [] [] new = new ≡ old
RepliesToAll old [] (frame ∷ frames) new = ⊥
RepliesToAll old (line ∷ later) [] new = ⊥
RepliesToAll old (line ∷ later) (frame ∷ frames) new = (between : State) × Replied line frame old between
    × RepliesToAll between later frames new

-- The text is what IsText says of the lines of these bytes and the frames that answer them, from the
-- state old on, and new is the state behind them.
pub record Answers (IsText : List (Option (List ℕ)) → List Frame → List ℕ → Type 0) (bytes text : List ℕ) (old new : State) : Type 0 where
  pub frames : List Frame
  pub replied : RepliesToAll old (told bytes) frames new
  pub texts : IsText (told bytes) frames text

-- the text for the whole input was sent
pub record SendsText (IsText : List (Option (List ℕ)) → List Frame → List ℕ
    → Type 0) (input : List ℕ) (old new : State) (before now : Option (List ℕ)) : Type 0 where
  pub text : List ℕ
  pub answers : Answers IsText input text old new
  pub sent : now ≡ sent_after text before

-- the text for the first lines of the input was sent, and this stands behind them
pub record SendsFirst (IsText : List (Option (List ℕ)) → List Frame → List ℕ
    → Type 0) (input rest : List ℕ) (old new : State) (before now : Option (List ℕ)) : Type 0 where
  pub front : List ℕ
  pub begins : BeginsWith input front rest
  pub early : length front ≤ 2 ^ 32
  pub text : List ℕ
  pub answers : Answers IsText front text old new
  pub sent : now ≡ sent_after text before

-- all lines whose line feeds were among the bytes taken were answered and no other, and these bytes are left
pub record SendsTaken (IsText : List (Option (List ℕ)) → List Frame → List ℕ
    → Type 0) (input before_left : List ℕ) (old new : State) (before now : Option (List ℕ)) : Type 0 where
  pub rest : List ℕ
  pub first : SendsFirst IsText input rest old new before now
  pub whole : IsWhole first.front
  pub partial : List ℕ
  pub taken : rest ≡ partial ++ before_left
  pub unended : NoLineFeed partial

-- the lines that ended among the first 2^32 bytes were answered, all and no other, and there is a byte more
pub record SendsWithin (IsText : List (Option (List ℕ)) → List Frame → List ℕ
    → Type 0) (input : List ℕ) (old new : State) (before now : Option (List ℕ)) : Type 0 where
  pub rest : List ℕ
  pub first : SendsFirst IsText input rest old new before now
  pub few : length first.front ≤ 2 ^ 32
  pub unended : NoLineFeed (take (2 ^ 32 - length first.front) rest)
  pub past : 2 ^ 32 < length input

-- the book is as it was
abbrev pub KeepsBook : State → State → Type 0
KeepsBook old new = (new.book ≡ old.book) × (new.total ≡ old.total)

-- Some first lines of these bytes, before which so many stand, are answered: one that isn't empty at least, and no more
-- than may be done ahead.
pub record AnswersNext (given : ℕ) (bytes : List ℕ) (old new : State) : Type 0 where
  pub front : List ℕ
  pub rest : List ℕ
  pub begins : BeginsWith bytes front rest
  pub early : given + length front ≤ 2 ^ 32
  pub some : 1 ≤ length (told front)
  pub few : length (told front) ≤ most_ahead
  pub frames : List Frame
  pub replied : RepliesToAll old (told front) frames new

-- The text for some first lines was sent. The book is as they left it, or as the lines behind them did
-- that were done ahead, whose answers weren't sent.
pub record SendsSome (IsText : List (Option (List ℕ)) → List Frame → List ℕ
    → Type 0) (input : List ℕ) (old new : State) (before now : Option (List ℕ)) : Type 0 where
  pub rest : List ℕ
  pub between : State
  pub first : SendsFirst IsText input rest old between before now
  pub state : KeepsBook between new ⊎ AnswersNext (length first.front) rest between new

-- The first bytes of the text for the first lines were sent. This stands behind those, or behind more lines that were done
-- ahead, for which nothing was sent.
pub record SendsFrontOf (IsText : List (Option (List ℕ)) → List Frame → List ℕ
    → Type 0) (input : List ℕ) (old new : State) (before now : Option (List ℕ)) : Type 0 where
  pub front : List ℕ
  pub rest : List ℕ
  pub begins : BeginsWith input front rest
  pub early : length front ≤ 2 ^ 32
  pub text : List ℕ
  pub between : State
  pub answers : Answers IsText front text old between
  pub count : ℕ
  pub within : count ≤ length text
  pub sent : now ≡ sent_after (take count text) before
  pub state : (new ≡ between) ⊎ AnswersNext (length front) rest between new

-- the text of frames is their spellings, one after the other
abbrev pub AreSpelled : List (Option (List ℕ)) → List Frame → List ℕ → Type 0
AreSpelled lines frames text = text ≡ flat_map spelling frames

-- some first lines were answered, and their text was sent
pub record SendsLines (IsText : List (Option (List ℕ)) → List Frame → List ℕ
    → Type 0) (input : List ℕ) (old : State) (before now : Option (List ℕ)) : Type 0 where
  pub rest : List ℕ
  pub between : State
  pub first : SendsFirst IsText input rest old between before now

-- Why not all lines of the input were answered, what was sent, and the book that the pages stand for then. After a
-- fault of the disk the store has to be opened again. No page is damaged.
abbrev pub EndsServe : List ℕ → State → Image → List Session → Option (List ℕ) → Option (List ℕ) → Option (List ℕ) → ServeEnd → Type 0
EndsServe input old image sessions left before now ReadFault =
    StandsAfter old.total image sessions (λ new. IfSome left (λ bytes. SendsTaken AreSpelled input bytes old new before now))
EndsServe input old image sessions left before now SendFault =
    StandsAfter old.total image sessions (λ new. SendsFrontOf AreSpelled input old new before now)
EndsServe input old image sessions left before now DiskFault = SendsLines AreSpelled input old before now
EndsServe input old image sessions left before now (Damaged page) = ⊥
EndsServe input old image sessions left before now InputTooLong =
    StandsAfter old.total image sessions (λ new. SendsWithin AreSpelled input old new before now)
EndsServe input old image sessions left before now NoMemory =
    StandsAfter old.total image sessions (λ new. SendsSome AreSpelled input old new before now)

-- a page that the end names is one of so many, and damaged where reads give what the pages are
abbrev pub EndsAtBad : Type 0 → ℕ → Image → ServeEnd → Type 0
EndsAtBad told count image ReadFault = ⊤
EndsAtBad told count image SendFault = ⊤
EndsAtBad told count image DiskFault = ⊤
EndsAtBad told count image (Damaged page) = IsBadPage told count image page
EndsAtBad told count image InputTooLong = ⊤
EndsAtBad told count image NoMemory = ⊤

-- some first of the lines are done, and the frames that answer those
pub record FirstOf (old : State) (lines : List (Option (List ℕ))) (frames : List Frame) : Type 0 where
  pub front : List (Option (List ℕ))
  pub rest : List (Option (List ℕ))
  pub lines_are : lines ≡ front ++ rest
  pub shown : List Frame
  pub later : List Frame
  pub frames_are : frames ≡ shown ++ later
  pub state : State
  pub replied : RepliesToAll old front shown state

-- what a serving moves, whatever the pages are
pub record Serves (told_old told_new : Type 0) (old new : View) : Type 0 where
  pub told : told_old → told_new
  pub was_told : told_new → told_old
  pub size : new.size ≡ old.size
  pub faults : old.faults ≤ new.faults
  pub syncs : old.syncs ≤ new.syncs
  pub writes : old.writes ≤ new.writes

-- the pages stay
pub record KeepsPages (told_old told_new : Type 0) (old new under under' : View) : Type 0 where
  pub disk : DiskKept old new
  pub told : told_old → told_new
  pub was_told : told_new → told_old
  pub goes_on : GoesOn under under'

-- what a fault of the lines is for the serving
abbrev pub end_of : LineFault → ServeEnd
end_of fault.ReadFault = ReadFault
end_of fault.InputTooLong = InputTooLong

-- and what an error of a step is
abbrev pub end_of_step : ServiceError → ServeEnd
end_of_step step.DiskFault = DiskFault
end_of_step (step.Damaged page) = Damaged page
end_of_step step.NoMemory = NoMemory
