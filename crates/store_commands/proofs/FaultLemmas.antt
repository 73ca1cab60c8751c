-- The failed call that an end tells is the one of the end of the run.
use Rattle.std.proofs.Common.{◌≡◌, ◌≢◌, Result, Ok, Err, refl}
use Rattle.block_disk.specs.View.{View}
use Rattle.chart_world.specs.Faults.{CountsFault, fault_in}
use Rattle.chart_world.specs.FaultLaws.{counts_disk, counts_no_disk}
use Rattle.page_space.specs.declared.superblock.Superblock.{Superblock}
use Rattle.run_ends.specs.Faults.{end_fault}
use Rattle.series_store.specs.Counting.{IsCheckCause}
use Rattle.series_store.specs.declared.errors.StoreError.{StoreError}
use Rattle.series_store.specs.declared.errors.StoreError.TheVariants as store
use Rattle.series_store.specs.declared.send_errors.SendError.{SendError}
use Rattle.series_store.specs.declared.send_errors.SendError.TheVariants as send
use Rattle.series_export.specs.Faults.{send_fault}
use Rattle.store_commands.specs.Checking.{check_end}
use Rattle.store_commands.specs.Exporting.{export_end}

-- a store that wasn't checked
pub counts_unchecked : (error : StoreError) (told : Type 0) (s : Superblock) (old new : View) → new.beside ≡ old.beside
    → IsCheckCause error told s old new → (error ≢ store.DiskFault → new.faults ≡ old.faults)
    → CountsFault (end_fault (check_end error)) old new
counts_unchecked (store.Refused refusal) told s old new beside cause quiet = absurd cause
counts_unchecked store.NotAStore told s old new beside cause quiet = absurd cause
counts_unchecked store.DiskFault told s old new beside cause quiet = counts_disk old new beside cause
counts_unchecked (store.Damaged page) told s old new beside cause quiet = counts_no_disk old new beside (quiet (λ is. cc))
counts_unchecked store.NoMemory told s old new beside cause quiet = counts_no_disk old new beside (quiet (λ is. cc))

-- what sending a series answers
pub send_fault_is : (answer : Result (Unit {0}) SendError) → end_fault (export_end answer) ≡ fault_in send_fault answer
send_fault_is (Ok done) = refl
send_fault_is (Err send.SendFault) = refl
send_fault_is (Err send.DiskFault) = refl
send_fault_is (Err (send.Damaged page)) = refl
send_fault_is (Err send.NoMemory) = refl
