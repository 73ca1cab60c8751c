-- That a command counts the failed call that its status tells, and no other.
use Rattle.std.proofs.Common.{◌≡◌, ◌≢◌, Option, refl, sym, subst}
use Rattle.block_disk.specs.View.{View}
use Rattle.chart_world.specs.Faults.{Fault, CountsFault}
use Rattle.chart_world.specs.FaultLaws.{counts_disk, counts_no_disk}
use Rattle.disk_store.specs.Openings.{Prevents}
use Rattle.disk_store.specs.declared.causes.OpeningCause.{OpeningCause}
use Rattle.disk_store.specs.declared.causes.OpeningCause.TheVariants as opening
use Rattle.run_ends.specs.Statuses.{code_of, status_of}
use Rattle.run_ends.specs.declared.ending.End.{End}
use Rattle.run_ends.specs.declared.ending.End.TheVariants.{Done}
use Rattle.store_commands.specs.Status.{code_fault, opening_end, opening_status}
use Rattle.run_ends.specs.Faults.{end_fault}
use Rattle.run_ends.specs.declared.status.Status.{Status}

-- by a status that is this one
pub counts_as : (end this : Status) (old new : View) → end ≡ this → CountsFault (code_fault this.code) old new
    → CountsFault (code_fault end.code) old new
counts_as end this old new same counts = let P : Status → Type 0 = λ s. CountsFault (code_fault s.code) old new in subst P (sym same) counts

-- by what a result tells
pub counts_told : (told fault : Option Fault) (old new : View) → fault ≡ told → CountsFault told old new → CountsFault fault old new
counts_told told fault old new same counts = let P : Option Fault → Type 0 = λ f. CountsFault f old new in subst P (sym same) counts

-- the fault that an end tells of is that of its code
told_by_code : (end : End) → code_fault (code_of end) ≡ end_fault end
told_by_code Done = refl
told_by_code end = refl

-- by the status of an end
pub counts_end : (end : End) (status : Status) (old new : View) → status ≡ status_of end → CountsFault (end_fault end) old new
    → CountsFault (code_fault status.code) old new
counts_end end status old new same counts = counts_as status (status_of end) old new same
    (counts_told (end_fault end) (code_fault (code_of end)) old new (told_by_code end) counts)

-- a store that isn't opened
pub counts_unopened : (cause : OpeningCause) (old new : View) → new.beside ≡ old.beside → Prevents cause old new
    → (cause ≢ opening.DiskFault → new.faults ≡ old.faults) → CountsFault (code_fault (opening_status cause).code) old new
counts_unopened (opening.TooSmall size) old new beside prevents quiet = counts_no_disk old new beside (quiet (λ is. cc))
counts_unopened (opening.Damaged block) old new beside prevents quiet = counts_no_disk old new beside (quiet (λ is. cc))
counts_unopened opening.DiskFault old new beside prevents quiet = counts_disk old new beside prevents
counts_unopened opening.NoMemory old new beside prevents quiet = counts_no_disk old new beside (quiet (λ is. cc))

-- the same by the end
pub counts_unopened_end : (cause : OpeningCause) (end : End) (old new : View) → end ≡ opening_end cause → new.beside ≡ old.beside
    → Prevents cause old new → (cause ≢ opening.DiskFault → new.faults ≡ old.faults) → CountsFault (end_fault end) old new
counts_unopened_end cause end old new same beside prevents quiet =
    let P : End → Type 0 = λ e. CountsFault (end_fault e) old new in
    subst P (sym same) (counts_told (code_fault (opening_status cause).code) (end_fault (opening_end cause)) old new
    (sym (told_by_code (opening_end cause))) (counts_unopened cause old new beside prevents quiet))
