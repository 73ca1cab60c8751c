-- The page of `init`: an empty store is made on the disk, where there is none.
use Rattle.std.specs.Prelude.{◌≡◌, ◌<◌, ◌≤◌, ⊤}
use Rattle.block_disk.specs.Counts.{HasRisen}
use Rattle.block_disk.specs.View.{Honest, Now, Only, View}
use Rattle.empty_store.specs.Few.{Costs}
use Rattle.empty_store.specs.Kept.{LeavesOld}
use Rattle.empty_store.specs.Stores.{HasStore, IsNewStore, LeavesNew}
use Rattle.gate_pages.specs.Journal.{page_count}
use Rattle.run_ends.specs.Statuses.{code_of}
use Rattle.run_ends.specs.declared.ending.End.{End}
use Rattle.run_ends.specs.declared.ending.End.TheVariants.{Done, NoMemory, DiskFault, TooSmall, IsStore}
use Rattle.store_commands.specs.Away.{IsTurnedAway}
use Rattle.chart_program.specs.Course.{Course, HasFewBlocks, KeptBook, SentNothing, TookNothing}

-- an empty store was made where none was, and a crash now leaves it
pub record MakesStore (old new : View) : Type 0 where
  pub large : 128 ≤ old.size
  pub fresh : Honest old → HasStore (page_count old.size) old.image → ⊥
  pub store : Honest old → IsNewStore (page_count old.size) new.image
  pub rests : Only new.image (Now new)

-- what it did, by how it ended
abbrev pub InitDoes : Course → End → Type 0
InitDoes c Done = MakesStore c.old c.new
InitDoes c NoMemory = ⊤
InitDoes c DiskFault = ⊤
InitDoes c (TooSmall blocks) = HasFewBlocks c blocks
InitDoes c IsStore = (128 ≤ c.old.size) × (Honest c.old → HasStore (page_count c.old.size) c.old.image)
InitDoes c end = ⊥

-- What it leaves at each moment is what stood there before, or an empty store where there was none. Where reads gave what the
-- disk holds, they do so afterwards. At most 68 blocks are read and 102 written, and the disk is synced 7 times at most.
pub record LeavesMade (old new : View) : Type 0 where
  pub beside : new.beside ≡ old.beside
  pub moments : Honest old → LeavesNew (page_count old.size) old new
  pub kept : Honest old → HasStore (page_count old.size) old.image → LeavesOld (page_count old.size) old new
  pub honest : Honest old → Honest new
  pub few : Costs 68 7 102 old new

-- a store fits on the disk, reads give what it is, and it has none
abbrev pub IsFree : View → Type 0
IsFree disk = (128 ≤ disk.size) × Honest disk × (HasStore (page_count disk.size) disk.image → ⊥)

-- done, or there was no memory
abbrev pub IsMadeOrCut : End → Type 0
IsMadeOrCut Done = ⊤
IsMadeOrCut NoMemory = ⊤
IsMadeOrCut end = ⊥

-- the same, and what is so however it ended
pub record OfInit (c : Course) (end : End) : Type 0 where
  pub does : InitDoes c end
  pub untaken : TookNothing c
  pub sent_nothing : SentNothing c
  pub leaves : LeavesMade c.old c.new
  pub kept : KeptBook c
  pub away : c.old.size < 128 → IsTurnedAway c.left c.left_now c.sent c.sent_now (code_of end)
  pub ready : IsFree c.old → (HasRisen c.old.faults c.new.faults → ⊥) → IsMadeOrCut end
