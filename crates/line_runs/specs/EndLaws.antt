-- What is so of a stop is so of its end.
use Rattle.std.proofs.Common.{◌≡◌, ◌≢◌, ℕ, Some, refl, subst}
use Rattle.std.specs.Prelude.{IfErr, OnOk, Result, Ok, Err}
use Rattle.block_disk.specs.Counts.{HasRisen}
use Rattle.block_disk.specs.View.{View}
use Rattle.chart_world.specs.Faults.{CountsFault, OfTake, fault_in}
use Rattle.chart_world.specs.declared.line_answer.LineFault.TheVariants as fault
use Rattle.run_ends.specs.Faults.{end_fault}
use Rattle.run_ends.specs.declared.ending.End.{End}
use Rattle.run_ends.specs.declared.ending.End.TheVariants as ends
use Rattle.line_runs.specs.Ends.{run_end}
use Rattle.line_runs.specs.Runs.{cause_of, fault_of, harms_of}
use Rattle.line_runs.specs.declared.lines_stop.LinesStop.{LinesStop}
use Rattle.line_runs.specs.declared.lines_stop.LinesStop.TheVariants as stop

-- it tells the same failed call
pub same_fault : {T : Type 0} (answer : Result T (LinesStop End)) → end_fault (run_end answer) ≡ fault_in (fault_of end_fault) answer
same_fault {T} (Ok done) = refl
same_fault {T} (Err (stop.Fault fault.ReadFault)) = refl
same_fault {T} (Err (stop.Fault fault.InputTooLong)) = refl
same_fault {T} (Err (stop.Work end)) = refl

-- behind a run that didn't end with the harm a line may be given, where the work has no other
pub harmless : {T Fit : Type 0} (harm : End) (answer : Result T (LinesStop End)) → OnOk answer Fit
    → IfErr answer (λ stop. (harms_of (λ end. end ≡ harm) stop → ⊥) → Fit) → run_end answer ≢ harm → Fit
harmless {T} {Fit} harm (Ok done) fit otherwise other = fit
harmless {T} {Fit} harm (Err (stop.Fault why)) fit otherwise other = otherwise (λ none. none)
harmless {T} {Fit} harm (Err (stop.Work end)) fit otherwise other = otherwise other

-- a run that is done came to the end of its input, where no work stops as done
pub came_to_end : {T S : Type 0} {Whole : Type 0} (cause : End → S → S → Type 0) (old new : S) (answer : Result T (LinesStop End))
    → (cause ends.Done old new → ⊥) → OnOk answer Whole
    → IfErr answer (cause_of cause old new) → run_end answer ≡ ends.Done → Whole
came_to_end {T} {S} {Whole} cause old new (Ok done) never whole why is = whole
came_to_end {T} {S} {Whole} cause old new (Err (stop.Fault fault.ReadFault)) never whole why is = cc
came_to_end {T} {S} {Whole} cause old new (Err (stop.Fault fault.InputTooLong)) never whole why is = cc
came_to_end {T} {S} {Whole} cause old new (Err (stop.Work end)) never whole why is =
    let C : End → Type 0 = λ e. cause e old new in
    absurd (never (subst C is why))

-- a run that ended by its input's length has what is so of a longer input, where no work stops so
pub input_long : {T S : Type 0} {Long : Type 0} (cause : End → S → S → Type 0) (old new : S) (answer : Result T (LinesStop End))
    → (cause ends.InputTooLong old new → ⊥)
    → (answer ≡ Err (stop.Fault fault.InputTooLong) → Long) → IfErr answer (cause_of cause old new) → run_end answer ≡ ends.InputTooLong
    → Long
input_long {T} {S} {Long} cause old new (Ok done) never long why is = cc
input_long {T} {S} {Long} cause old new (Err (stop.Fault fault.ReadFault)) never long why is = cc
input_long {T} {S} {Long} cause old new (Err (stop.Fault fault.InputTooLong)) never long why is = long refl
input_long {T} {S} {Long} cause old new (Err (stop.Work end)) never long why is =
    let C : End → Type 0 = λ e. cause e old new in
    absurd (never (subst C is why))

-- what is so of each cause
pub causes_so : {T S E : Type 0} (cause cause' : E → S → S → Type 0) (old new : S) (answer : Result T (LinesStop E))
    → ((end : E) → cause end old new → cause' end old new)
    → IfErr answer (cause_of cause old new) → IfErr answer (cause_of cause' old new)
causes_so {T} {S} {E} cause cause' old new (Ok done) more why = tt
causes_so {T} {S} {E} cause cause' old new (Err (stop.Fault why)) more is = tt
causes_so {T} {S} {E} cause cause' old new (Err (stop.Work end)) more is = more end is

-- a take that failed raised the count of such faults
takes_risen : (old new : View) (reads reads' : ℕ) → old.beside.read_faults ≡ reads → new.beside.read_faults ≡ reads'
    → CountsFault (Some OfTake) old new → HasRisen reads reads'
takes_risen old new reads reads' were are counts =
    let P : ℕ → Type 0 = λ n. HasRisen n reads' in
    let Q : ℕ → Type 0 = λ n. HasRisen old.beside.read_faults n in
    subst P were (subst Q are counts.1)

-- an end has its cause, where the faults of the input are causes
pub end_cause : {T S : Type 0} (view : S → View) (reads : S → ℕ) → ((at : S) → (view at).beside.read_faults ≡ reads at)
    → (cause : End → S → S → Type 0) (old new : S) (answer : Result T (LinesStop End))
    → (HasRisen (reads old) (reads new) → cause ends.ReadFault old new) → cause ends.InputTooLong old new
    → CountsFault (fault_in (fault_of end_fault) answer) (view old) (view new) → IfErr answer (cause_of cause old new)
    → run_end answer ≢ ends.Done
    → cause (run_end answer) old new
end_cause {T} {S} view reads beside cause old new (Ok done) failed long counts why other = absurd (other refl)
end_cause {T} {S} view reads beside cause old new (Err (stop.Fault fault.ReadFault)) failed long counts why other =
    failed (takes_risen (view old) (view new) (reads old) (reads new) (beside old) (beside new) counts)
end_cause {T} {S} view reads beside cause old new (Err (stop.Fault fault.InputTooLong)) failed long counts why other = long
end_cause {T} {S} view reads beside cause old new (Err (stop.Work end)) failed long counts why other = why
