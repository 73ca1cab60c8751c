-- What comes of an opening.
use Rattle.std.specs.Prelude.{ℕ, ◌+◌, ◌≡◌, ◌≤◌, ◌<◌, ◌⊎◌, Result, Ok, Err}
use Rattle.block_disk.specs.Counts.{HasRisen}
use Rattle.block_disk.specs.View.{Image, View, Now, Honest, Passes, Rises}
use Rattle.block_disk.specs.declared.back.Back.{Back}
use Rattle.block_disk.specs.declared.disk.Disk.{Ghosts}
use Rattle.gate_pages.specs.declared.pages.Pages as pages_trait
use Rattle.gate_pages.specs.declared.errors.OpenCause.{OpenCause}
use Rattle.gate_pages.specs.declared.errors.OpenCause.TheVariants as of_pages
use Rattle.gate_pages.specs.declared.gate_pages.GatePages.{GatePages}
use Rattle.gate_pages.specs.GatePages.{HasClosedGate, IsBroken, IsReadable}
use Rattle.gate_pages.specs.Journal.{page_count, pages_of}
use Rattle.gate_pages.specs.Pages.{Quiet}
use Rattle.page_space.specs.Layout.{HasMagic}
use Rattle.series_store.specs.Opening.{IsBrokenPage}
use Rattle.series_store.specs.declared.errors.StoreError.{StoreError}
use Rattle.series_store.specs.declared.errors.StoreError.TheVariants as of_store
use Rattle.series_store.specs.declared.store.Store.{Store}
use Rattle.store_upgrade.specs.OldStores.{HasOldMagic}
use Rattle.store_upgrade.specs.Upgrading.{IsFirstBroken, BeforeOrUpgraded}
use Rattle.store_upgrade.specs.declared.errors.UpgradeError.{UpgradeError}
use Rattle.store_upgrade.specs.declared.errors.UpgradeError.TheVariants as of_upgrade
use Rattle.stored_book.specs.Standing.{book_pages}
use Rattle.disk_store.specs.Shown.{disk_below}
use Rattle.disk_store.specs.declared.causes.OpeningCause.{OpeningCause}
use Rattle.disk_store.specs.declared.causes.OpeningCause.TheVariants.{TooSmall, Damaged, DiskFault, NoMemory}

-- the disk, within a store or handed back
abbrev pub disk_in : {D : Type 0} {disk : Ghosts D} {pages : pages_trait.Ghosts (GatePages D disk)}
    → Result (Store (GatePages D disk) pages) (Back D OpeningCause) → D
disk_in (Ok store) = disk_below store
disk_in (Err back) = back.value

-- Block 1 is the directory of an open journal and breaks its layout. Or, once the journal is replayed and the pages are of
-- version 2, block 66 lacks the magic of a store, or this block breaks the layout of its page. Or this block breaks the
-- rules of version 1 in a store of that version.
abbrev pub IsDamagedBlock : ℕ → Image → ℕ → Type 0
IsDamagedBlock count image block =
    ((block ≡ 1) × IsBroken count image)
    ⊎ (((block ≡ 66) × (HasMagic (book_pages count image 0) → ⊥))
    ⊎ (((page : ℕ) × (block ≡ 66 + page) × IsBrokenPage count (book_pages count image) page)
    ⊎ ((page : ℕ) × (block ≡ 66 + page) × IsFirstBroken (pages_of count image) page)))

-- the block is the directory, or it has page 0 or a page of the catalog
abbrev pub IsFirstBlock : ℕ → Type 0
IsFirstBlock block = (block ≡ 1) ⊎ ((66 ≤ block) × (block ≤ 82))

-- whatever the disk is, a block that is called damaged is one of these
abbrev pub IsOpeningPlace : OpeningCause → Type 0
IsOpeningPlace (TooSmall size) = Unit {0}
IsOpeningPlace (Damaged block) = IsFirstBlock block
IsOpeningPlace DiskFault = Unit {0}
IsOpeningPlace NoMemory = Unit {0}

-- when each cause comes
abbrev pub Prevents : OpeningCause → View → View → Type 0
Prevents (TooSmall size) old new = (size ≡ old.size) × (size < 128)
Prevents (Damaged block) old new =
    (128 ≤ old.size) × (IsFirstBlock block × (Honest old → IsDamagedBlock (page_count old.size) old.image block))
Prevents DiskFault old new = HasRisen old.faults new.faults
Prevents NoMemory old new = Unit {0}

-- why a disk that stands for a book wasn't opened
abbrev pub IsOutside : OpeningCause → Type 0
IsOutside cause = (cause ≡ DiskFault) ⊎ (cause ≡ NoMemory)

-- The image stands for pages for which one of the images stood that a crash might leave before, or for those that these
-- become in version 2, and its journal can be read where that one's could.
pub record StandsOrUpgraded (count : ℕ) (before : View) (image : Image) : Type 0 where
  pub from : Image
  pub was : Now before from
  pub pages : BeforeOrUpgraded (pages_of count from) (pages_of count image)
  pub readable : IsReadable count from → IsReadable count image

-- so where reads give one of the images that a crash might leave before
abbrev pub IsLeftOpening : ℕ → View → Image → Type 0
IsLeftOpening count before image = Honest before → StandsOrUpgraded count before image

-- the pages for which the disk stands aren't those of a store of version 1
abbrev pub IsCurrent : ℕ → View → Type 0
IsCurrent count disk = HasOldMagic (pages_of count disk.image 0) → ⊥

-- How often an opening syncs and writes. Where the pages aren't of version 1 it syncs three times at most, and writes nothing
-- where the gate is closed besides.
pub record WritesFew (count : ℕ) (old new : View) : Type 0 where
  pub syncs : Rises 7 old.syncs new.syncs
  pub writes : Rises 102 old.writes new.writes
  pub current : Honest old → IsCurrent count old → new.syncs ≤ old.syncs + 3
  pub unwritten : HasClosedGate old → IsCurrent count old → new.writes ≡ old.writes

-- as many syncs as an opening may make
abbrev pub SyncsOpening : ℕ → View → ℕ → Type 0
SyncsOpening count old opened = (opened ≤ old.syncs + 7) × (Honest old → IsCurrent count old → opened ≤ old.syncs + 3)

-- What an opening leaves: at each moment a crash leaves pages that it might have left before, or those that they become
-- in version 2, and no byte is sent.
pub record Opens (count : ℕ) (old new : View) : Type 0 where
  pub time : Passes old new (IsLeftOpening count old) (Quiet old)
  pub honest : Honest old → Honest new
  pub was_honest : Honest new → Honest old
  pub beside_is : new.beside ≡ old.beside
  pub faults : old.faults ≤ new.faults
  pub reads : Rises 200 old.reads new.reads
  pub few : WritesFew count old new

-- the cause, by that of the pages
abbrev pub cause_of : OpenCause → OpeningCause
cause_of of_pages.DiskFault = DiskFault
cause_of (of_pages.TooSmall blocks) = TooSmall blocks
cause_of of_pages.BadDirectory = Damaged 1
cause_of of_pages.NoMemory = NoMemory

-- the cause, by why they weren't brought to version 2
abbrev pub upgrade_cause_of : UpgradeError → OpeningCause
upgrade_cause_of (of_upgrade.Damaged page) = Damaged (66 + page)
upgrade_cause_of of_upgrade.DiskFault = DiskFault
upgrade_cause_of of_upgrade.NoMemory = NoMemory

-- the cause, by that of the store on the pages
abbrev pub store_cause_of : StoreError → OpeningCause
store_cause_of (of_store.Refused refusal) = NoMemory
store_cause_of of_store.NotAStore = Damaged 66
store_cause_of of_store.DiskFault = DiskFault
store_cause_of (of_store.Damaged page) = Damaged (66 + page)
store_cause_of of_store.NoMemory = NoMemory
