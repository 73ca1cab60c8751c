-- How `live` ends over the store of a disk.
use Rattle.std.specs.Prelude.{◌≡◌, ◌≢◌, ℕ, ◌+◌, ◌<◌, ◌≤◌, List, Option, IfSome, ⊤}
use Rattle.block_disk.specs.Counts.{HasRisen}
use Rattle.block_disk.specs.View.{Honest, View, sent_now}
use Rattle.chart_service.specs.Moments.{Since}
use Rattle.disk_store.specs.Openings.{SyncsOpening}
use Rattle.gate_pages.specs.Journal.{page_count}
use Rattle.gate_pages.specs.Pages.{GoesOn}
use Rattle.stored_book.specs.Damage.{IsBadForRequest}
use Rattle.stored_book.specs.Standing.{RecoversTo}
use Rattle.store_commands.specs.Books.{HoldsAgain, OfBook, Holds}
use Rattle.store_commands.specs.Damaged.{IsDamagedAtFirst, IsDamagedLater}
use Rattle.store_commands.specs.Traffic.{IsLong, Traffic, WasRead}
use Rattle.run_ends.specs.Statuses.{block_of}
use Rattle.run_ends.specs.declared.ending.End.{End}
use Rattle.run_ends.specs.declared.ending.End.TheVariants.{Done, NoMemory, ReadFault, SendFault, DiskFault, DamagedBlock, DamagedPage}
use Rattle.run_ends.specs.declared.ending.End.TheVariants.{InputTooLong, TooSmall}
use Rattle.hosted_lines.specs.Begun.{begun_live}
use Rattle.hosted_lines.specs.Reads.{ReadsLines}
use Rattle.live_command.specs.Syncs.{SyncsLines}
use Rattle.live_command.specs.Running.{EndsSo, IsAhead, SendsAll, SendsLines, SendsPart, SendsSome, SendsTaken, SendsWithin}

-- all lines of the input are answered, all pushes are made, and all these frames were sent
abbrev pub LivesAll : ℕ → View → View → List ℕ → Option (List ℕ) → Option (List ℕ) → Type 0
LivesAll count old new input before now = OfBook count old
    (λ total book. SendsAll (Holds count total new) input (begun_live total book) before now)

-- some first lines are answered, and all these frames were sent, or all but the last one
abbrev pub LivesSome : ℕ → View → View → List ℕ → Option (List ℕ) → Option (List ℕ) → Type 0
LivesSome count old new input before now = OfBook count old
    (λ total book. SendsSome (Holds count total new) input (begun_live total book) before now)

-- all lines whose line feeds were among the bytes taken are answered, and all their pushes made, where the bytes left are told
abbrev pub LivesTaken : ℕ → View → View → List ℕ → Option (List ℕ) → Option (List ℕ) → Option (List ℕ) → Type 0
LivesTaken count old new input left before now = OfBook count old
    (λ total book. SendsTaken (Holds count total new) input (begun_live total book) before now left)

-- those that ended among the first 2^32 bytes, and there is a byte more
abbrev pub LivesWithin : ℕ → View → View → List ℕ → Option (List ℕ) → Option (List ℕ) → Type 0
LivesWithin count old new input before now = OfBook count old
    (λ total book. SendsWithin (Holds count total new) input (begun_live total book) before now)

-- some first lines are answered, and of the last frame a part was sent
abbrev pub LivesPart : ℕ → View → View → List ℕ → Option (List ℕ) → Option (List ℕ) → Type 0
LivesPart count old new input before now = OfBook count old
    (λ total book. SendsPart (Holds count total new) input (begun_live total book) before now)

-- some first lines are answered, at a fault of the disk: what it holds then is said by the moments of the run
abbrev pub LivesLines : ℕ → View → List ℕ → Option (List ℕ) → Option (List ℕ) → Type 0
LivesLines count old input before now = OfBook count old (λ total book. SendsLines input (begun_live total book) before now)

-- At each moment a crash leaves an image that recovers to a book with each edit whose Done was sent whole by then, and with
-- at most one edit more.
abbrev pub LeavesLived : ℕ → List ℕ → View → View → Type 0
LeavesLived count input old new =
    OfBook count old (λ total book. Since old new (λ image sent. IsAhead (λ after. RecoversTo count image total after) input
    (begun_live total book) (sent_now old) sent))

-- the lines and the pushes read no more blocks than they may, and no other block is read, from this count on
abbrev pub ReadsFrom : ℕ → View → View → List ℕ → ℕ → Type 0
ReadsFrom count old new input from = OfBook count old (λ total book. ReadsLines input (begun_live total book) from new.reads)

-- an opening reads 200 blocks at most, and then they read
abbrev pub ReadsLiving : View → View → List ℕ → Type 0
ReadsLiving old new input = (opened : ℕ) × (opened ≤ old.reads + 200) × ReadsFrom (page_count old.size) old new input opened

-- an opening syncs as often as it may, and then the lines sync
abbrev pub SyncsLiving : View → View → List ℕ → Type 0
SyncsLiving old new input = (opened : ℕ) × SyncsOpening (page_count old.size) old opened × SyncsLines input opened new.syncs

-- Why `live` ended, whatever the disk holds. Where its store wasn't opened no input was taken and nothing was sent.
abbrev pub IsLiveCause : End → View → View → Traffic → Type 0
IsLiveCause Done old new t = WasRead t.left t.left_now
IsLiveCause NoMemory old new t = ⊤
IsLiveCause ReadFault old new t = HasRisen t.reads t.reads_now
IsLiveCause SendFault old new t = HasRisen t.sends t.sends_now
IsLiveCause DiskFault old new t = HasRisen old.faults new.faults
IsLiveCause (DamagedBlock block) old new t = IsDamagedAtFirst old block × ((t.left_now ≡ t.left) × (t.sent_now ≡ t.sent))
IsLiveCause (DamagedPage page) old new t = IsDamagedLater IsBadForRequest (page_count old.size) new (block_of page)
IsLiveCause InputTooLong old new t = IsLong t.left
IsLiveCause (TooSmall blocks) old new t = (blocks ≡ old.size) × (old.size < 128)
IsLiveCause end old new t = ⊥

-- what was done and sent by the book that the disk held, and which it holds now
abbrev pub DoesLive : ℕ → View → View → Traffic → End → Type 0
DoesLive count old new t end = IfSome t.left (λ input. OfBook count old (λ total book.
    EndsSo (Holds count total new) input (begun_live total book) t.left_now t.sent t.sent_now end))

-- Why `live` ended, what it did and sent by the book that the disk held, and what the disk holds: but for a fault of the
-- disk, of which the moments tell, a book again.
pub record LiveEnds (old new : View) (t : Traffic) (end : End) : Type 0 where
  pub cause : IsLiveCause end old new t
  pub does : DoesLive (page_count old.size) old new t end
  pub holds : end ≢ DiskFault → IfSome t.left (λ input. HoldsAgain (page_count old.size) old new)
  pub crash : IfSome t.left (λ input. IfSome t.sent (λ bytes. LeavesLived (page_count old.size) input old new))
  -- reads give what a crash may leave, where they did
  pub honest : Honest old → Honest new
  pub goes_on : GoesOn old new
