-- What the parts of a check do.
use Rattle.std.specs.Prelude.{ℕ, ◌≡◌, ◌+◌, ◌≤◌, List, Option}
use Rattle.block_disk.specs.Counts.{HasRisen}
use Rattle.block_disk.specs.View.{Honest, View}
use Rattle.gate_pages.specs.Pages.{GoesOn}
use Rattle.run_ends.specs.Statuses.{block_of}
use Rattle.run_ends.specs.declared.ending.End.{End}
use Rattle.run_ends.specs.declared.ending.End.TheVariants.{Done, NoMemory, SendFault, DiskFault, DamagedPage}
use Rattle.series_store.specs.declared.errors.StoreError.{StoreError}
use Rattle.series_store.specs.declared.errors.StoreError.TheVariants as of_store
use Rattle.series_store.specs.Results.{CommitsNone}
use Rattle.disk_store.specs.Held.{HoldsBook}
use Rattle.store_commands.specs.Damaged.{IsDamagedLater}
use Rattle.store_commands.specs.Books.{OfBook, Never, LeavesSame}
use Rattle.store_commands.specs.Traffic.{Traffic}
use Rattle.store_commands.specs.Checked.{SendsCounts, SendsCountsPart, IsBadForCheck}

-- the end where a store wasn't counted
abbrev pub check_end : StoreError → End
check_end (of_store.Refused refusal) = NoMemory
check_end of_store.NotAStore = NoMemory
check_end of_store.DiskFault = DiskFault
check_end (of_store.Damaged page) = DamagedPage page
check_end of_store.NoMemory = NoMemory

-- how the check of an opened store ended
abbrev pub EndsCheck : End → ℕ → View → View → Option (List ℕ) → Option (List ℕ) → ℕ → ℕ → Type 0
EndsCheck Done count old new before now sends sends_now = SendsCounts count old before now
EndsCheck NoMemory count old new before now sends sends_now = now ≡ before
EndsCheck SendFault count old new before now sends sends_now = HasRisen sends sends_now × SendsCountsPart count old before now
EndsCheck DiskFault count old new before now sends sends_now = HasRisen old.faults new.faults × (now ≡ before)
EndsCheck (DamagedPage page) count old new before now sends sends_now =
    IsDamagedLater IsBadForCheck count old (block_of page) × Never count old × (now ≡ before)
EndsCheck end count old new before now sends sends_now = ⊥

-- So ended the check of an opened store, whose book stays at each moment.
pub record ChecksStore (count : ℕ) (old new : View) (before now : Option (List ℕ)) (sends sends_now : ℕ) (end : End) : Type 0 where
  pub is : EndsCheck end count old new before now sends sends_now
  pub crash : LeavesSame count old new
  pub holds : OfBook count old (λ total book. HoldsBook count total book new)
  pub reads : OfBook count old (λ total book. new.reads ≤ old.reads + total)
  pub unwritten : CommitsNone old new
  -- reads give what a crash may leave, where they did
  pub honest : Honest old → Honest new
  pub goes_on : GoesOn old new

-- the same by what passed through the streams
abbrev pub ChecksOn : ℕ → View → View → Traffic → End → Type 0
ChecksOn count old new t end = ChecksStore count old new t.sent t.sent_now t.sends t.sends_now end
