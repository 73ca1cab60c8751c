-- The counts of faults from call to call.
use Rattle.std.proofs.Common.{◌≡◌, ◌≢◌, ℕ, None, Result, Ok, Err, IfErr, subst, sym}
use Rattle.std.specs.Prelude.{IsErrAnd}
use Rattle.block_disk.specs.View.{View}
use Rattle.chart_world.specs.Faults.{CountsFault, fault_in}
use Rattle.chart_world.specs.FaultLaws.{counts_disk, counts_no_disk}
use Rattle.page_space.specs.declared.superblock.Superblock.{Superblock}
use Rattle.series_store.specs.Results.{IsEditCause}
use Rattle.series_store.specs.declared.errors.StoreError.{StoreError}
use Rattle.series_store.specs.declared.errors.StoreError.TheVariants as store
use Rattle.run_ends.specs.Faults.{end_fault}
use Rattle.series_load.specs.Steps.{end_at}
use Rattle.run_ends.specs.declared.ending.End.{End}
use Rattle.run_ends.specs.declared.ending.End.TheVariants.{NoMemory}

-- an error that is passed on
pub counts_on : {T : Type 0} (result : Result T End) (e : End) (old new : View) → IsErrAnd result (λ x. x ≡ e)
    → CountsFault (end_fault e) old new → CountsFault (fault_in end_fault result) old new
counts_on (Ok v) e old new is counts = absurd is
counts_on (Err x) e old new is counts = let P : End → Type 0 = λ y. CountsFault (end_fault y) old new in subst P (sym is) counts

-- want of memory behind what counted no fault
pub no_memory_counts : {T : Type 0} (result : Result T End) (old new : View) → IfErr result (λ e. e ≡ NoMemory) → CountsFault None old new
    → CountsFault (fault_in end_fault result) old new
no_memory_counts (Ok v) old new none counts = counts
no_memory_counts (Err e) old new none counts = let P : End → Type 0 = λ y. CountsFault (end_fault y) old new in subst P (sym none) counts

pub no_memory_on : {T : Type 0} (result : Result T End) (e : End) (old new : View) → IsErrAnd result (λ x. x ≡ e) → e ≡ NoMemory
    → CountsFault None old new → CountsFault (fault_in end_fault result) old new
no_memory_on result e old new is none counts =
    let P : End → Type 0 = λ y. CountsFault (end_fault y) old new in
    counts_on result e old new is (subst P (sym none) counts)

-- a set that wasn't done
pub set_counts : (at : ℕ) (e : StoreError) (told : Type 0) (s : Superblock) (old new : View) → new.beside ≡ old.beside
    → (e ≢ store.DiskFault → new.faults ≡ old.faults) → IsEditCause e told s old new → CountsFault (end_fault (end_at at e)) old new
set_counts at (store.Refused refusal) told s old new beside quiet cause = counts_no_disk old new beside (quiet (λ is. cc))
set_counts at store.NotAStore told s old new beside quiet cause = counts_no_disk old new beside (quiet (λ is. cc))
set_counts at store.DiskFault told s old new beside quiet cause = counts_disk old new beside cause
set_counts at (store.Damaged page) told s old new beside quiet cause = counts_no_disk old new beside (quiet (λ is. cc))
set_counts at store.NoMemory told s old new beside quiet cause = counts_no_disk old new beside (quiet (λ is. cc))
