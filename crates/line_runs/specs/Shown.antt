-- What is said of a work, over a store with its streams.
use Rattle.std.specs.Prelude.{◌≡◌, ℕ, ◌⊎◌, List, Option}
use Rattle.block_disk.specs.View.{Image, View, sent_now}
use Rattle.chart_world.specs.Reading.{HasLine, Reading}
use Rattle.line_runs.specs.Carried.{DoesOne}
use Rattle.line_runs.specs.Given.{Given, Pause}
use Rattle.line_runs.specs.Moments.{Since, Through}
use Rattle.line_runs.specs.Runs.{AreAll, IsAheadWithin, Runs, StopsSoWithin}
use Rattle.line_runs.specs.declared.lines_stop.LinesStop.{LinesStop}

-- what is given was done, and what a crash leaves meanwhile
abbrev pub DoesOn : {State S W : Type 0} (sent : S → Option (List ℕ)) (stands : State → W → S → Type 0)
    (does : State → Given → List ℕ → State → Type 0) → State → Given → W → S → S → Type 0
DoesOn {State} {S} {W} sent stands does state it work old new = DoesOne does (λ s. stands s work new) state it (sent old) (sent new)

abbrev pub LeavesOn : {State S : Type 0} (view : S → View) (leaves : State → Given → ℕ → Image → ℕ → Type 0)
    → State → Given → S → S → Type 0
LeavesOn {State} {S} view leaves state it old new = Through (view old) (view new) (leaves state it (sent_now (view old)))

module _ {State S W : Type 0} (left sent : S → Option (List ℕ)) (pieces : S → ℕ) (stands : State → W → S → Type 0)
    (does : State → Given → List ℕ → State → Type 0) (state : State) (work : W) (old new : S) where
  -- all lines of the input were done, and then its end
  abbrev pub RunsAll : Type 0
  RunsAll = Runs does state (AreAll (pieces old) (pieces new)) (λ s. stands s work new) (left old) (sent old) (sent new)

  -- not all of it was, of which lines may come from so many first bytes
  abbrev pub StopsOn : {E : Type 0} (limit : ℕ) (stops : State → Given → E → W → S → Option (List ℕ) → Type 0) → LinesStop E → Type 0
  StopsOn {E} limit stops stop =
      StopsSoWithin limit does (λ s it end before. stops s it end work new before) (λ s. stands s work new) state (left old) (left new)
      (sent old)
      (sent new) (pieces old) (pieces new) stop

-- the next line stands ready, and the state stays; or it doesn't, and the work was paused
abbrev pub PausesSo : {State : Type 0} (reading : Reading) (does : State → Given → List ℕ → State → Type 0) (IsNow : State → Type 0) → State
    → Option (List ℕ) → Option (List ℕ) → Type 0
PausesSo {State} reading does IsNow state before now =
    (HasLine reading × IsNow state × (now ≡ before)) ⊎ ((HasLine reading → ⊥) × DoesOne does IsNow state Pause before now)

abbrev pub PausesOn : {State S W : Type 0} (sent : S → Option (List ℕ)) (stands : State → W → S → Type 0)
    (does : State → Given → List ℕ → State → Type 0) → State → Reading → W → S → S → Type 0
PausesOn {State} {S} {W} sent stands does state reading work old new =
    PausesSo reading does (λ s. stands s work new) state (sent old) (sent new)

-- at each moment a crash leaves what some first lines left, or what comes behind them leaves on its way
abbrev pub LastsOn : {State S : Type 0} (limit : ℕ) (left sent : S → Option (List ℕ)) (view : S → View)
    (does : State → Given → List ℕ → State → Type 0) (rests : State → Image → Type 0)
    (leaves : State → Given → ℕ → Image → ℕ → Type 0) → State → S → S → Type 0
LastsOn {State} {S} limit left sent view does rests leaves state old new =
    Since (view old) (view new) (IsAheadWithin limit does rests leaves state (left old) (sent old) (sent_now (view old)))
