-- What comes of an upgrade.
use Rattle.std.specs.Prelude.{ℕ, ◌≡◌, ◌≤◌, ◌<◌, ◌⊎◌, List, Some}
use Rattle.block_disk.specs.Counts.{HasRisen}
use Rattle.block_disk.specs.View.{Image, View, Now, Passes, Rises}
use Rattle.gate_pages.specs.Batch.{Entry, page_in}
use Rattle.gate_pages.specs.Pages.{Quiet}
use Rattle.store_upgrade.specs.declared.errors.UpgradeError.{UpgradeError}
use Rattle.store_upgrade.specs.declared.errors.UpgradeError.TheVariants.{Damaged, DiskFault, NoMemory}
use Rattle.store_upgrade.specs.OldStores.{HasOldMagic, KeepsOldRules, IsOldStore}
use Rattle.store_upgrade.specs.Upgraded.{upgraded}

-- a page of the catalog
abbrev pub IsCatalogPage : ℕ → Type 0
IsCatalogPage p = (1 ≤ p) × (p < 17)

-- the pages of the catalog below this one keep the old rules
abbrev pub HasOldCatalog : ℕ → Image → Type 0
HasOldCatalog end image = (p : ℕ) → 1 ≤ p → p < end → KeepsOldRules (image p)

-- the first page of the catalog of version 1 that breaks the old rules
pub record IsFirstBroken (image : Image) (page : ℕ) : Type 0 where
  pub magic : HasOldMagic (image 0)
  pub place : IsCatalogPage page
  pub before : HasOldCatalog page image
  pub breaks : KeepsOldRules (image page) → ⊥

-- when each error comes, where reads may give what the pages are
abbrev pub Prevents : UpgradeError → Type 0 → View → View → Type 0
Prevents (Damaged page) told old new = told → IsFirstBroken old.image page
Prevents DiskFault told old new = HasRisen old.faults new.faults
Prevents NoMemory told old new = Unit {0}

-- a batch has the pages below this one as they become
abbrev pub HasNewPages : ℕ → List Entry → Image → Type 0
HasNewPages end batch image = (p : ℕ) → p < end → page_in batch p ≡ Some (upgraded image p)

-- why this page of the catalog isn't brought to version 2
abbrev pub BreaksAt : ℕ → UpgradeError → Type 0 → View → View → Type 0
BreaksAt p (Damaged page) told old new = (page ≡ p) × (told → KeepsOldRules (old.image p) → ⊥)
BreaksAt p DiskFault told old new = HasRisen old.faults new.faults
BreaksAt p NoMemory told old new = ⊥

-- why the catalog isn't
abbrev pub StopsFirst : UpgradeError → Type 0 → View → View → Type 0
StopsFirst (Damaged page) told old new =
    IsCatalogPage page × (told → HasOldCatalog page old.image × (KeepsOldRules (old.image page) → ⊥))
StopsFirst DiskFault told old new = HasRisen old.faults new.faults
StopsFirst NoMemory told old new = Unit {0}

-- whatever reads give, a page that is called damaged is one of the catalog
abbrev pub IsPlace : UpgradeError → Type 0
IsPlace (Damaged page) = IsCatalogPage page
IsPlace DiskFault = Unit {0}
IsPlace NoMemory = Unit {0}

-- the disk failed, or there was no memory
abbrev pub IsOutside : UpgradeError → Type 0
IsOutside cause = (cause ≡ DiskFault) ⊎ (cause ≡ NoMemory)

-- At most so many pages are read, and nothing else changes. At each moment a crash leaves what it might have left before.
pub record Looks (most : ℕ) (told_old told_new : Type 0) (old new : View) : Type 0 where
  pub time : Passes old new (Now old) (Quiet old)
  pub told : told_old → told_new
  pub was_told : told_new → told_old
  pub image : told_old → new.image ≡ old.image
  pub size : new.size ≡ old.size
  pub beside : new.beside ≡ old.beside
  pub fit : old.fit → new.fit
  pub faults : old.faults ≤ new.faults
  pub reads : Rises most old.reads new.reads
  pub syncs : new.syncs ≡ old.syncs
  pub writes : new.writes ≡ old.writes

-- what an error leaves: pages that were only read, unless the commit failed, after which they aren't sound
abbrev pub Stops : UpgradeError → Type 0 → Type 0 → View → View → Type 0
Stops (Damaged page) told_old told_new old new = Looks 17 told_old told_new old new
Stops DiskFault told_old told_new old new = new.fit → Looks 17 told_old told_new old new
Stops NoMemory told_old told_new old new = Looks 17 told_old told_new old new

-- the pages from before, or where these are of version 1, those that they become
abbrev pub BeforeOrUpgraded : Image → Image → Type 0
BeforeOrUpgraded before pages = (pages ≡ before) ⊎ (IsOldStore before × (pages ≡ upgraded before))

-- At each moment a crash leaves the pages from before or those that they become, where reads tell them, and no byte is sent.
pub record Upgrades (told_old told_new : Type 0) (old new : View) : Type 0 where
  pub time : Passes old new (λ pages. told_old → BeforeOrUpgraded old.image pages) (Quiet old)
  pub told : told_old → told_new
  pub was_told : told_new → told_old
  pub size : new.size ≡ old.size
  pub beside : new.beside ≡ old.beside
  pub faults : old.faults ≤ new.faults
  pub reads : Rises 17 old.reads new.reads
  pub syncs : Rises 4 old.syncs new.syncs
  pub writes : Rises 37 old.writes new.writes
