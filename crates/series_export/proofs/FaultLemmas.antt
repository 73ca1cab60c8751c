-- Which count of faults the sending of a series raises.
use Rattle.std.proofs.Common.{◌≡◌, ◌≢◌, ℕ, refl}
use Rattle.std.specs.Prelude.{Result, Ok, Err, OnOk, IfErr}
use Rattle.std.specs.Result.{IsErrAnd}
use Rattle.block_disk.specs.View.{View}
use Rattle.chart_world.specs.Faults.{CountsFault, fault_in}
use Rattle.chart_world.specs.FaultLaws.{counts_none}
use Rattle.page_space.specs.declared.superblock.Superblock.{Superblock}
use Rattle.series_store.specs.Sending.{IsSeriesCause}
use Rattle.series_store.specs.declared.send_errors.SendError.{SendError}
use Rattle.series_store.specs.declared.send_errors.SendError.TheVariants.{SendFault, DiskFault, Damaged, NoMemory}
use Rattle.series_export.specs.Faults.{send_fault}

-- where values were to be sent
pub counts_sending : (r : Result (Unit {0}) SendError) (told : Type 0) (s : Superblock) (id : ℕ) (old new : View)
    → OnOk r (new.faults ≡ old.faults) → IfErr r (λ e. e ≢ DiskFault → new.faults ≡ old.faults)
    → (r ≢ Err SendFault → new.beside.send_faults ≡ old.beside.send_faults)
    → new.beside.read_faults ≡ old.beside.read_faults → IfErr r (λ e. IsSeriesCause e told s id old new)
    → CountsFault (fault_in send_fault r) old new
counts_sending (Ok done) told s id old new quiet quiet_err quiet_sends takes cause = counts_none old new quiet takes
    (quiet_sends (λ is. cc))
counts_sending (Err SendFault) told s id old new quiet quiet_err quiet_sends takes cause = (quiet_err (λ is. cc), takes, cause)
counts_sending (Err DiskFault) told s id old new quiet quiet_err quiet_sends takes cause = (cause, takes, quiet_sends (λ is. cc))
counts_sending (Err (Damaged page)) told s id old new quiet quiet_err quiet_sends takes cause = counts_none old new
    (quiet_err (λ is. cc)) takes (quiet_sends (λ is. cc))
counts_sending (Err NoMemory) told s id old new quiet quiet_err quiet_sends takes cause = counts_none old new (quiet_err (λ is. cc)) takes
    (quiet_sends (λ is. cc))

-- where nothing was done for want of memory
pub counts_no_memory : (r : Result (Unit {0}) SendError) (view : View) → IsErrAnd r (λ e. e ≡ NoMemory)
    → CountsFault (fault_in send_fault r) view view
counts_no_memory (Ok done) view is = absurd is
counts_no_memory (Err SendFault) view is = absurd (cc)
counts_no_memory (Err DiskFault) view is = absurd (cc)
counts_no_memory (Err (Damaged page)) view is = absurd (cc)
counts_no_memory (Err NoMemory) view is = refl
