-- How `host` ends over the store of a disk.
use Rattle.std.specs.Prelude.{◌≡◌, ◌≢◌, ℕ, ◌+◌, ◌<◌, ◌≤◌, List, IfSome, ⊤}
use Rattle.block_disk.specs.Counts.{HasRisen}
use Rattle.block_disk.specs.View.{Honest, View, sent_now}
use Rattle.chart_service.specs.Moments.{Since}
use Rattle.gate_pages.specs.Journal.{page_count}
use Rattle.gate_pages.specs.Pages.{GoesOn}
use Rattle.run_ends.specs.declared.ending.End.{End}
use Rattle.run_ends.specs.declared.ending.End.TheVariants.{Done, NoMemory, ReadFault, SendFault, DiskFault, DamagedBlock, DamagedPage}
use Rattle.run_ends.specs.declared.ending.End.TheVariants.{InputTooLong, TooSmall}
use Rattle.run_ends.specs.Statuses.{block_of}
use Rattle.stored_book.specs.Standing.{RecoversTo}
use Rattle.store_commands.specs.Books.{HoldsAgain, OfBook, Holds}
use Rattle.store_commands.specs.Damaged.{IsDamagedAtFirst, IsDamagedLater}
use Rattle.store_commands.specs.Traffic.{IsPast, Traffic, WasReadWithin}
use Rattle.hosted_lines.specs.HostCauses.{IsBadForHost}
use Rattle.hosted_lines.specs.Input.{most_bytes}
use Rattle.hosted_lines.specs.Running.{CostsLines, EndsSo, IsAhead}
use Rattle.hosted_lines.specs.Begun.{begun_live}
use Rattle.disk_store.specs.Openings.{SyncsOpening}

-- Why `host` ended, whatever the disk holds. Where its store wasn't opened no input was taken and nothing was sent. A page that is
-- called damaged is so for a request, or is one of the tree of some series that is bad for its place.
abbrev pub IsHostCause : End → View → View → Traffic → Type 0
IsHostCause Done old new t = WasReadWithin most_bytes t.left t.left_now
IsHostCause NoMemory old new t = ⊤
IsHostCause ReadFault old new t = HasRisen t.reads t.reads_now
IsHostCause SendFault old new t = HasRisen t.sends t.sends_now
IsHostCause DiskFault old new t = HasRisen old.faults new.faults
IsHostCause (DamagedBlock block) old new t = IsDamagedAtFirst old block × ((t.left_now ≡ t.left) × (t.sent_now ≡ t.sent))
IsHostCause (DamagedPage page) old new t = IsDamagedLater IsBadForHost (page_count old.size) new (block_of page)
IsHostCause InputTooLong old new t = IsPast most_bytes t.left
IsHostCause (TooSmall blocks) old new t = (blocks ≡ old.size) × (old.size < 128)
IsHostCause end old new t = ⊥

-- At each moment a crash leaves an image that recovers to a book with each edit whose Done was sent whole by then, and with
-- at most 64 edits more.
abbrev pub LeavesHosted : ℕ → List ℕ → View → View → Type 0
LeavesHosted count input old new =
    OfBook count old (λ total book. Since old new (λ image sent. IsAhead (λ after. RecoversTo count image total after) input
    (begun_live total book) (sent_now old) sent))

-- the lines, the groups and the pushes cost no more than they may from these counts on, nothing else is read or synced, and
-- there are few groups
abbrev pub CostsFrom : ℕ → View → View → List ℕ → ℕ → ℕ → Type 0
CostsFrom count old new input reads syncs =
    OfBook count old (λ total book. CostsLines input
    (record { live = begun_live total book; reads = reads; syncs = syncs }) old.beside.pieces new.beside.pieces new.reads new.syncs)

-- an opening reads 200 blocks at most and syncs as often as it may, and then they cost
pub record CostsHosting (old new : View) (input : List ℕ) : Type 0 where
  pub reads : ℕ
  pub syncs : ℕ
  pub few_reads : reads ≤ old.reads + 200
  pub few_syncs : SyncsOpening (page_count old.size) old syncs
  pub costs : CostsFrom (page_count old.size) old new input reads syncs

-- what was done and sent by the book that the disk held, and which it holds now
abbrev pub DoesHost : ℕ → View → View → Traffic → End → Type 0
DoesHost count old new t end = IfSome t.left (λ input. OfBook count old (λ total book.
    EndsSo (Holds count total new) input (begun_live total book) t.left_now t.sent t.sent_now end))

-- Why `host` ended, what it did and sent by the book that the disk held, and what the disk holds: but for a
-- fault of the disk, of which the moments tell, a book again.
pub record HostEnds (old new : View) (t : Traffic) (end : End) : Type 0 where
  pub cause : IsHostCause end old new t
  pub does : DoesHost (page_count old.size) old new t end
  pub holds : end ≢ DiskFault → IfSome t.left (λ input. HoldsAgain (page_count old.size) old new)
  pub crash : IfSome t.left (λ input. IfSome t.sent (λ bytes. LeavesHosted (page_count old.size) input old new))
  -- reads give what a crash may leave, where they did
  pub honest : Honest old → Honest new
  pub goes_on : GoesOn old new
