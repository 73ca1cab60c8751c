-- The failed call that an end of a step tells, by the counts of faults.
use Rattle.std.proofs.Common.{◌≡◌, ◌∙◌, List, ℕ, Option, None, Some, IfSome, Result, Err, refl, ap, sym, subst}
use Rattle.std.specs.Prelude.{⊤}
use Rattle.block_disk.specs.View.{View}
use Rattle.chart_service.specs.Faulting.{step_fault}
use Rattle.chart_service.specs.declared.failure.ServiceError.{ServiceError}
use Rattle.chart_service.specs.declared.failure.ServiceError.TheVariants as step
use Rattle.chart_world.specs.Faults.{CountsFault, Fault}
use Rattle.run_ends.specs.Faults.{end_fault}
use Rattle.run_ends.specs.declared.ending.End.{End}
use Rattle.run_ends.specs.declared.ending.End.TheVariants.{InputTooLong}
use Rattle.hosted_lines.specs.Doing.{step_end}

-- where bytes are told, or not
pub told_any : {Q : Type 0} → Q → (o : Option (List ℕ)) → IfSome o (λ bytes. Q)
told_any {Q} is None = tt
told_any {Q} is (Some bytes) = is

-- what an end tells
step_fault_is : (error : ServiceError) → end_fault (step_end error) ≡ step_fault error
step_fault_is step.DiskFault = refl
step_fault_is (step.Damaged page) = refl
step_fault_is step.NoMemory = refl

-- no end of a step is the input's length
pub step_short : (error : ServiceError) (end : End) → end ≡ step_end error → ◌≡◌ {A = Result ⊤ End} (Err end) (Err InputTooLong) → ⊥
step_short step.DiskFault end is same = cc
step_short (step.Damaged page) end is same = cc
step_short step.NoMemory end is same = cc

-- an answer or a push that failed
pub unmade_counts : (error : ServiceError) (end : End) (old new : View) → end ≡ step_end error → CountsFault (step_fault error) old new
    → CountsFault (end_fault end) old new
unmade_counts error end old new is counts =
    let P : Option Fault → Type 0 = λ f. CountsFault f old new in
    subst P (sym (ap (λ (e : End). end_fault e) is ∙ step_fault_is error)) counts
