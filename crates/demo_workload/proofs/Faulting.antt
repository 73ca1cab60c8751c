-- The counts of faults behind an answer.
use Rattle.std.proofs.Common.{◌≡◌, List, Option, None, refl, sym, ap, subst, ◌∙◌}
use Rattle.block_disk.specs.View.{View}
use Rattle.chart_world.specs.Faults.{Fault, CountsFault}
use Rattle.chart_frames.specs.declared.frame.Frame.{Frame}
use Rattle.chart_client.specs.declared.holding.Holding.{Holding}
use Rattle.chart_service.specs.Faulting.{step_fault}
use Rattle.chart_service.specs.declared.failure.ServiceError.{ServiceError}
use Rattle.chart_service.specs.declared.failure.ServiceError.TheVariants as step
use Rattle.run_ends.specs.declared.ending.End.{End}
use Rattle.run_ends.specs.declared.ending.End.TheVariants.{NoMemory, Missing, BadCoefficient}
use Rattle.demo_workload.specs.Answering.{RejectsAs}
use Rattle.demo_workload.specs.Ending.{end_of_step}
use Rattle.run_ends.specs.Faults.{end_fault}

told_step : (e : ServiceError) → end_fault (end_of_step e) ≡ step_fault e
told_step step.DiskFault = refl
told_step (step.Damaged page) = refl
told_step step.NoMemory = refl

-- an error of a step tells the same fault
pub step_counts : (end : End) (e : ServiceError) (old new : View) → end ≡ end_of_step e → CountsFault (step_fault e) old new
    → CountsFault (end_fault end) old new
step_counts end e old new is counts =
    let P : Option Fault → Type 0 = λ f. CountsFault f old new in
    subst P (sym (ap end_fault is ∙ told_step e)) counts

-- a frame that the client doesn't accept tells none
told_draw : (end : End) (frame : Frame) (holdings : List Holding) → RejectsAs frame holdings end → end_fault end ≡ None
told_draw NoMemory frame holdings why = refl
told_draw (Missing number) frame holdings why = refl
told_draw (BadCoefficient number) frame holdings why = refl
told_draw end frame holdings why = absurd why

pub draw_counts : (end : End) (frame : Frame) (holdings : List Holding) (old new : View) → RejectsAs frame holdings end
    → CountsFault None old new → CountsFault (end_fault end) old new
draw_counts end frame holdings old new why counts =
    let P : Option Fault → Type 0 = λ f. CountsFault f old new in
    subst P (sym (told_draw end frame holdings why)) counts
