-- How much of an input was done.
use Rattle.std.specs.Prelude.{◌≡◌, ℕ, ◌+◌, ◌-◌, ◌^◌, ◌<◌, ◌⊎◌, List, [], ◌∷◌, ◌++◌, ◌≤◌, length, take, Option, Some, None, IfSome, ⊤}
use Rattle.block_disk.specs.Streams.{sent_after}
use Rattle.block_disk.specs.View.{Image}
use Rattle.chart_world.specs.Faults.{Fault, OfTake}
use Rattle.chart_world.specs.Fronts.{IsWhole}
use Rattle.chart_world.specs.Lines.{NoLineFeed}
use Rattle.chart_world.specs.declared.line_answer.LineFault.TheVariants as fault
use Rattle.line_runs.specs.Carried.{Done}
use Rattle.line_runs.specs.Given.{AreBeforeWithin, AreFirstWithin, EndsPaused, Given, End, given_lines, pauses, unpaused}
use Rattle.line_runs.specs.declared.lines_stop.LinesStop.{LinesStop}
use Rattle.line_runs.specs.declared.lines_stop.LinesStop.TheVariants as stop

-- a part of a line stands there, and these bytes behind it
pub record Unended (rest left : List ℕ) : Type 0 where
  pub partial : List ℕ
  pub taken : rest ≡ partial ++ left
  pub unended : NoLineFeed partial

-- There were no more pauses than so many pieces were taken, and two, where the pieces are counted: one pause before a take,
-- one before the input's end is found, and one before that is answered.
abbrev pub FewPauses : ℕ → ℕ → List Given → Type 0
FewPauses before now given = now < 2 ^ 64 - 1 → before + pauses given ≤ now + 2

module _ (pieces pieces' : ℕ) where
  -- all lines of the input, and behind a pause its end
  pub record AreAll (input : List ℕ) (given : List Given) : Type 0 where
    pub earlier : List Given
    pub given_are : given ≡ earlier ++ End ∷ []
    pub lines_are : unpaused earlier ≡ given_lines input
    pub paused : EndsPaused earlier
    pub few : FewPauses pieces pieces' given

-- of an input of which lines may come from so many first bytes
module _ (limit pieces pieces' : ℕ) where
  -- the lines whose line feeds were among the bytes taken, where the bytes left are told, and a pause
  pub record AreTakenWithin (left : Option (List ℕ)) (input : List ℕ) (given : List Given) : Type 0 where
    pub first : AreFirstWithin limit input given
    pub whole : IsWhole first.front
    pub behind : IfSome left (Unended first.rest)
    pub paused : EndsPaused given
    pub few : FewPauses pieces pieces' given

  -- the lines that ended within the limit, and a pause, and there is a byte past it
  pub record AreUpTo (input : List ℕ) (given : List Given) : Type 0 where
    pub first : AreFirstWithin limit input given
    pub unended : NoLineFeed (take (limit - length first.front) first.rest)
    pub past : limit < length input
    pub paused : EndsPaused given
    pub few : FewPauses pieces pieces' given

-- the same of the first 2^32 bytes
abbrev pub AreTaken : ℕ → ℕ → Option (List ℕ) → List ℕ → List Given → Type 0
AreTaken = AreTakenWithin (2 ^ 32)

abbrev pub AreWithin : ℕ → ℕ → List ℕ → List Given → Type 0
AreWithin = AreUpTo (2 ^ 32)

-- the failed call that a stop tells, and its cause
abbrev pub fault_of : {E : Type 0} → (E → Option Fault) → LinesStop E → Option Fault
fault_of {E} tells (stop.Fault fault.ReadFault) = Some OfTake
fault_of {E} tells (stop.Fault fault.InputTooLong) = None
fault_of {E} tells (stop.Work end) = tells end

abbrev pub harms_of : {E : Type 0} → (E → Type 0) → LinesStop E → Type 0
harms_of {E} harms (stop.Fault why) = ⊥
harms_of {E} harms (stop.Work end) = harms end

abbrev pub cause_of : {E S : Type 0} → (E → S → S → Type 0) → S → S → LinesStop E → Type 0
cause_of {E} {S} cause old new (stop.Fault why) = ⊤
cause_of {E} {S} cause old new (stop.Work end) = cause end old new

-- this was done and no more, and it is so of the input, where that is told
pub record Runs {State : Type 0} (does : State → Given → List ℕ → State → Type 0) (state : State)
    (AreSo : List ℕ → List Given → Type 0) (IsNow : State → Type 0) (input before now : Option (List ℕ)) : Type 0 where
  pub done : Done does state
  pub are : IfSome input (λ bytes. AreSo bytes done.given)
  pub stands : IsNow done.behind
  pub sent : now ≡ sent_after done.text before

-- what is given behind some first lines stopped the work
pub record RunsToWithin {State E : Type 0} (limit : ℕ) (does : State → Given → List ℕ → State → Type 0)
    (stops : State → Given → E → Option (List ℕ) → Type 0) (state : State) (input before : Option (List ℕ)) (pieces pieces' : ℕ)
    (end : E) : Type 0 where
  pub done : Done does state
  pub next : Given
  pub are : IfSome input (λ bytes. AreBeforeWithin limit bytes done.given next)
  pub few : IfSome input (λ bytes. FewPauses pieces pieces' (done.given ++ next ∷ []))
  pub why : stops done.behind next end (sent_after done.text before)

-- why not all was done, what was done and what was sent
abbrev pub StopsSoWithin : {State E : Type 0} (limit : ℕ) (does : State → Given → List ℕ → State → Type 0)
    (stops : State → Given → E → Option (List ℕ) → Type 0) (IsNow : State → Type 0) (state : State)
    (input left before now : Option (List ℕ)) (pieces pieces' : ℕ) → LinesStop E → Type 0
StopsSoWithin {State} {E} limit does stops IsNow state input left before now pieces pieces' (stop.Fault fault.ReadFault) =
    Runs does state (AreTakenWithin limit pieces pieces' left) IsNow input before now
StopsSoWithin {State} {E} limit does stops IsNow state input left before now pieces pieces' (stop.Fault fault.InputTooLong) =
    Runs does state (AreUpTo limit pieces pieces') IsNow input before now
StopsSoWithin {State} {E} limit does stops IsNow state input left before now pieces pieces' (stop.Work end) =
    RunsToWithin limit does stops state input before pieces pieces' end

module _ {State : Type 0} {does : State → Given → List ℕ → State → Type 0} {state : State} (limit : ℕ) (done : Done does state)
    (input before : Option (List ℕ)) (from : ℕ) (image : Image) (sent : ℕ) where
  -- no byte more was sent than their text
  pub record IsBetween (rests : State → Image → Type 0) : Type 0 where
    pub are : IfSome input (λ bytes. AreFirstWithin limit bytes done.given)
    pub rests_so : rests done.behind image
    pub sent_is : IfSome before (λ bytes. sent ≡ from + length done.text)

  -- what comes behind them is on its way, which began after so many bytes
  pub record IsAmid (leaves : State → Given → ℕ → Image → ℕ → Type 0) : Type 0 where
    pub next : Given
    pub are : IfSome input (λ bytes. AreBeforeWithin limit bytes done.given next)
    pub begun : ℕ
    pub begun_is : IfSome before (λ bytes. begun ≡ from + length done.text)
    pub leaves_so : leaves done.behind next begun image sent

-- some first lines were done, and what comes behind them is on its way, or hasn't begun
pub record IsAheadWithin {State : Type 0} (limit : ℕ) (does : State → Given → List ℕ → State → Type 0) (rests : State → Image → Type 0)
    (leaves : State → Given → ℕ → Image → ℕ → Type 0) (state : State) (input before : Option (List ℕ)) (from : ℕ) (image : Image)
    (sent : ℕ) : Type 0 where
  pub done : Done does state
  pub is : IsBetween limit done input before from image sent rests ⊎ IsAmid limit done input before from image sent leaves

-- the same of the first 2^32 bytes
module _ {State : Type 0} (does : State → Given → List ℕ → State → Type 0) where
  abbrev pub RunsTo : {E : Type 0} (stops : State → Given → E → Option (List ℕ) → Type 0) → State → Option (List ℕ) → Option (List ℕ)
      → ℕ → ℕ → E → Type 0
  RunsTo {E} = RunsToWithin (2 ^ 32) does

  abbrev pub StopsSo : {E : Type 0} (stops : State → Given → E → Option (List ℕ) → Type 0) (IsNow : State → Type 0) → State
      → Option (List ℕ) → Option (List ℕ) → Option (List ℕ) → Option (List ℕ) → ℕ → ℕ → LinesStop E → Type 0
  StopsSo {E} = StopsSoWithin (2 ^ 32) does

  abbrev pub IsAhead : (rests : State → Image → Type 0) (leaves : State → Given → ℕ → Image → ℕ → Type 0) → State
      → Option (List ℕ) → Option (List ℕ) → ℕ → Image → ℕ → Type 0
  IsAhead = IsAheadWithin (2 ^ 32) does
