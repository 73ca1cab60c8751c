-- The counts of faults from call to call.
use Rattle.std.proofs.Common.{◌≡◌, ◌≢◌, ℕ, None, Result, Ok, Err, IfErr, subst, sym}
use Rattle.std.specs.Prelude.{IsErrAnd}
use Rattle.block_disk.specs.Counts.{HasRisen}
use Rattle.block_disk.specs.View.{View}
use Rattle.chart_world.specs.Faults.{CountsFault, fault_in}
use Rattle.chart_world.specs.FaultLaws.{counts_disk, counts_no_disk}
use Rattle.om3_coeff.specs.View.{NodesView, HasCause}
use Rattle.om3_coeff.specs.declared.errors.NodeError.{NodeError}
use Rattle.om3_coeff.specs.declared.errors.NodeError.TheVariants as node
use Rattle.page_space.specs.declared.superblock.Superblock.{Superblock}
use Rattle.series_store.specs.Results.{IsEditCause}
use Rattle.series_store.specs.declared.errors.StoreError.{StoreError}
use Rattle.series_store.specs.declared.errors.StoreError.TheVariants as store
use Rattle.retention.specs.Faults.{sweep_fault}
use Rattle.retention.specs.Stepping.{clear_error}
use Rattle.retention.specs.Sweeping.{error_of}
use Rattle.retention.specs.declared.sweep_error.SweepError.{SweepError}
use Rattle.retention.specs.declared.sweep_error.SweepError.TheVariants.{NoMemory}

-- want of memory behind what counted no fault
pub no_memory_counts : {T : Type 0} (result : Result T SweepError) (old new : View) → IfErr result (λ e. e ≡ NoMemory)
    → CountsFault None old new → CountsFault (fault_in sweep_fault result) old new
no_memory_counts (Ok v) old new none counts = counts
no_memory_counts (Err e) old new none counts = let P : SweepError → Type 0 = λ x. CountsFault (sweep_fault x) old new in
    subst P (sym none) counts

pub no_memory_on : {T : Type 0} (result : Result T SweepError) (old new : View) → IsErrAnd result (λ e. e ≡ NoMemory)
    → CountsFault None old new → CountsFault (fault_in sweep_fault result) old new
no_memory_on (Ok v) old new none counts = absurd none
no_memory_on (Err e) old new none counts = let P : SweepError → Type 0 = λ x. CountsFault (sweep_fault x) old new in
    subst P (sym none) counts

-- nodes gave no answer
pub ask_counts : (e : NodeError) (old new : View) (nodes nodes' : NodesView) → new.beside ≡ old.beside → nodes.faults ≡ old.faults
    → nodes'.faults ≡ new.faults → (e ≢ node.DiskFault → new.faults ≡ old.faults) → HasCause nodes nodes' e
    → CountsFault (sweep_fault (error_of e)) old new
ask_counts node.DiskFault old new nodes nodes' beside was is quiet cause =
    let O : ℕ → Type 0 = λ n. HasRisen n nodes'.faults in
    let N : ℕ → Type 0 = λ n. HasRisen old.faults n in
    counts_disk old new beside (subst N is (subst O was cause))
ask_counts (node.Damaged page) old new nodes nodes' beside was is quiet cause = counts_no_disk old new beside (quiet (λ same. cc))
ask_counts (node.Missing key) old new nodes nodes' beside was is quiet cause = counts_no_disk old new beside (quiet (λ same. cc))
ask_counts (node.BadCoefficient key) old new nodes nodes' beside was is quiet cause = counts_no_disk old new beside (quiet (λ same. cc))

-- a clear that wasn't done
pub clear_counts : (e : StoreError) (told : Type 0) (s : Superblock) (old new : View) → new.beside ≡ old.beside
    → (e ≢ store.DiskFault → new.faults ≡ old.faults) → IsEditCause e told s old new → CountsFault (sweep_fault (clear_error e)) old new
clear_counts (store.Refused refusal) told s old new beside quiet cause = counts_no_disk old new beside (quiet (λ is. cc))
clear_counts store.NotAStore told s old new beside quiet cause = counts_no_disk old new beside (quiet (λ is. cc))
clear_counts store.DiskFault told s old new beside quiet cause = counts_disk old new beside cause
clear_counts (store.Damaged page) told s old new beside quiet cause = counts_no_disk old new beside (quiet (λ is. cc))
clear_counts store.NoMemory told s old new beside quiet cause = counts_no_disk old new beside (quiet (λ is. cc))
