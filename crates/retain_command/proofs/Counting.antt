-- The counts of faults of a sweep.
use Rattle.std.proofs.Common.{◌≡◌, ℕ, Option, refl, subst, sym}
use Rattle.block_disk.specs.View.{View}
use Rattle.chart_world.specs.Faults.{Fault, CountsFault}
use Rattle.retention.specs.Faults.{sweep_fault}
use Rattle.retention.specs.declared.sweep_error.SweepError.{SweepError}
use Rattle.retention.specs.declared.sweep_error.SweepError.TheVariants as sweep
use Rattle.run_ends.specs.Faults.{end_fault}
use Rattle.run_ends.specs.declared.ending.End.{End}
use Rattle.retain_command.specs.Doing.{end_at}

-- a sweep that wasn't done
pub sweep_counts : (at : ℕ) (error : SweepError) (end : End) (old new : View) → end ≡ end_at at error
    → CountsFault (sweep_fault error) old new → CountsFault (end_fault end) old new
sweep_counts at error end old new is counts =
    let E : End → Type 0 = λ e. CountsFault (end_fault e) old new in
    let F : Option Fault → Type 0 = λ f. CountsFault f old new in
    subst E (sym is) (subst F (sym (told_so error)) counts)
  where
    told_so : (error : SweepError) → end_fault (end_at at error) ≡ sweep_fault error
    told_so sweep.UnknownSeries = refl
    told_so sweep.DiskFault = refl
    told_so (sweep.Damaged page) = refl
    told_so sweep.NoMemory = refl
