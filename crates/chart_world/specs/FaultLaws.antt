-- How counts of faults go on from one call to the next.
use Rattle.std.proofs.Common.{ℕ, ◌≡◌, ◌∙◌, Option, None, Some, refl, sym, subst, ap}
use Rattle.block_disk.specs.Counts.{HasRisen}
use Rattle.block_disk.specs.View.{View, Beside, DiskKept}
use Rattle.chart_world.specs.Faults.{Fault, OfDisk, OfTake, OfSend, FaultCounts, faults_of, CountsBy, CountsFault}

-- three counts that stayed are the same counts
counts_are : (old new : FaultCounts) → new.disk ≡ old.disk → new.take ≡ old.take → new.send ≡ old.send → new ≡ old
counts_are old new disk take send =
    let D : ℕ → Type 0 = λ d. record { disk = d; take = new.take; send = new.send } ≡ old in
    let T : ℕ → Type 0 = λ t. record { disk = old.disk; take = t; send = new.send } ≡ old in
    let S : ℕ → Type 0 = λ s. record { disk = old.disk; take = old.take; send = s } ≡ old in
    subst D (sym disk) (subst T (sym take) (subst S (sym send) refl))

-- no fault was counted
pub counts_none : (old new : View) → new.faults ≡ old.faults → new.beside.read_faults ≡ old.beside.read_faults
    → new.beside.send_faults ≡ old.beside.send_faults → CountsFault None old new
counts_none old new disk take send = counts_are (faults_of old) (faults_of new) disk take send

-- each count by itself, where no fault was counted
pub disk_stays : (old new : View) → CountsFault None old new → new.faults ≡ old.faults
disk_stays old new same = ap (λ (c : FaultCounts). c.disk) same

pub takes_stay : (old new : View) → CountsFault None old new → new.beside.read_faults ≡ old.beside.read_faults
takes_stay old new same = ap (λ (c : FaultCounts). c.take) same

pub sends_stay : (old new : View) → CountsFault None old new → new.beside.send_faults ≡ old.beside.send_faults
sends_stay old new same = ap (λ (c : FaultCounts). c.send) same

-- behind what counted no fault
pub counts_then : (fault : Option Fault) (old mid new : View) → CountsFault None old mid → CountsFault fault mid new
    → CountsFault fault old new
counts_then fault old mid new first then =
    let P : FaultCounts → Type 0 = λ c. CountsBy fault c (faults_of new) in
    subst P first then

-- a call of the disk alone: the streams stay
pub counts_disk : (old new : View) → new.beside ≡ old.beside → HasRisen old.faults new.faults → CountsFault (Some OfDisk) old new
counts_disk old new beside risen = (risen, ap (λ (b : Beside). b.read_faults) beside, ap (λ (b : Beside). b.send_faults) beside)

pub counts_no_disk : (old new : View) → new.beside ≡ old.beside → new.faults ≡ old.faults → CountsFault None old new
counts_no_disk old new beside faults = counts_none old new faults (ap (λ (b : Beside). b.read_faults) beside)
    (ap (λ (b : Beside). b.send_faults) beside)

-- calls of the streams, which keep the disk
module _ {W : Type 0} (view : W → View) (reads sends : W → ℕ) (beside_reads : (world : W)
    → (view world).beside.read_faults ≡ reads world) (beside_sends : (world : W)
    → (view world).beside.send_faults ≡ sends world) (old new : W) (kept : DiskKept (view old) (view new)) where
  -- a take or a send that succeeds
  pub counts_kept : reads new ≡ reads old → sends new ≡ sends old → CountsFault None (view old) (view new)
  counts_kept read send = counts_none (view old) (view new) kept.faults (beside_reads new ∙ read ∙ sym (beside_reads old)) (beside_sends new
      ∙ send ∙ sym (beside_sends old))

  -- a send that fails
  pub counts_unsent : reads new ≡ reads old → HasRisen (sends old) (sends new) → CountsFault (Some OfSend) (view old) (view new)
  counts_unsent read risen =
      let P : ℕ → Type 0 = λ n. HasRisen n (view new).beside.send_faults in
      let Q : ℕ → Type 0 = λ n. HasRisen (sends old) n in (
        kept.faults,
        beside_reads new ∙ read ∙ sym (beside_reads old),
        subst P (sym (beside_sends old)) (subst Q (sym (beside_sends new)) risen),
      )

  -- a take that fails
  pub counts_untaken : HasRisen (reads old) (reads new) → sends new ≡ sends old → CountsFault (Some OfTake) (view old) (view new)
  counts_untaken risen send =
      let P : ℕ → Type 0 = λ n. HasRisen n (view new).beside.read_faults in
      let Q : ℕ → Type 0 = λ n. HasRisen (reads old) n in (
        kept.faults,
        subst P (sym (beside_reads old)) (subst Q (sym (beside_reads new)) risen),
        beside_sends new ∙ send ∙ sym (beside_sends old),
      )
