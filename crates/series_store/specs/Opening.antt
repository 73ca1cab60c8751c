-- How a store is opened, and made.
use Rattle.std.specs.Prelude.{ℕ, ◌≡◌, ◌<◌, ◌⊎◌, Result, Ok, Err, []}
use Rattle.block_disk.specs.Counts.{HasRisen}
use Rattle.block_disk.specs.View.{Image, View, Passes}
use Rattle.block_disk.specs.declared.back.Back.{Back}
use Rattle.gate_pages.specs.Pages.{Quiet}
use Rattle.gate_pages.specs.declared.pages.Pages.{Ghosts}
use Rattle.page_space.specs.Layout.{HasMagic, Keeps}
use Rattle.page_space.specs.Shown as spaces
use Rattle.page_space.specs.declared.superblock.Superblock.{Superblock}
use Rattle.page_space.specs.declared.errors.SpaceError.{SpaceError}
use Rattle.page_space.specs.declared.errors.SpaceError.TheVariants.{NotAStore as NoStore, Full, DiskFault as AtDisk, Damaged as AtPage}
use Rattle.page_space.specs.declared.errors.SpaceError.TheVariants.{NoMemory as AtMemory}
use Rattle.series_catalog.specs.declared.errors.CatalogError.{CatalogError}
use Rattle.series_catalog.specs.declared.errors.CatalogError.TheVariants.{DiskFault as DiskCatalog, Damaged as BadPage, NoMemory as NoRoom}
use Rattle.series_catalog.specs.Reading.{IsBadCatalog}
use Rattle.stored_book.specs.Standing.{StandsForBook}
use Rattle.series_store.specs.declared.errors.StoreError.{StoreError}
use Rattle.series_store.specs.declared.errors.StoreError.TheVariants.{Refused, NotAStore, DiskFault, Damaged, NoMemory}
use Rattle.series_store.specs.declared.store.Store.{Store}

-- the pages, within a store or handed back
abbrev pub pages_in : {P : Type 0} {pages : Ghosts P} → Result (Store P pages) (Back P StoreError) → P
pages_in (Ok store) = spaces.pages store.space
pages_in (Err back) = back.value

-- page 0 has the magic and breaks its layout else, or it keeps it and this page of the catalog is bad
abbrev pub IsBrokenPage : ℕ → Image → ℕ → Type 0
IsBrokenPage count image page =
    ((page ≡ 0) × HasMagic (image 0) × ((s : Superblock) → Keeps count s (image 0) → ⊥))
    ⊎ ((s : Superblock) × Keeps count s (image 0) × IsBadCatalog image s page)

-- whatever the pages are, one that is called damaged is page 0 or one of the catalog
abbrev pub IsFirstPage : StoreError → Type 0
IsFirstPage (Refused refusal) = ⊥
IsFirstPage NotAStore = Unit {0}
IsFirstPage DiskFault = Unit {0}
IsFirstPage (Damaged page) = page < 17
IsFirstPage NoMemory = Unit {0}

-- why pages weren't opened
abbrev pub IsOpenCause : StoreError → Type 0 → View → View → Type 0
IsOpenCause (Refused refusal) told old new = ⊥
IsOpenCause NotAStore told old new = told → HasMagic (old.image 0) → ⊥
IsOpenCause DiskFault told old new = HasRisen old.faults new.faults
IsOpenCause (Damaged page) told old new = told → IsBrokenPage old.size old.image page
IsOpenCause NoMemory told old new = Unit {0}

-- what the errors of a space and of its catalog are in a store; `Full` comes from no opening
abbrev pub space_error_of : SpaceError → StoreError
space_error_of NoStore = NotAStore
space_error_of (Full needed have) = NoMemory
space_error_of AtDisk = DiskFault
space_error_of (AtPage page) = Damaged page
space_error_of AtMemory = NoMemory

abbrev pub catalog_error_of : CatalogError → StoreError
catalog_error_of DiskCatalog = DiskFault
catalog_error_of (BadPage page) = Damaged page
catalog_error_of NoRoom = NoMemory

-- why the catalog of a space wasn't read
abbrev pub IsReadCause : StoreError → Type 0 → Superblock → View → View → Type 0
IsReadCause (Refused refusal) told s old new = ⊥
IsReadCause NotAStore told s old new = ⊥
IsReadCause DiskFault told s old new = HasRisen old.faults new.faults
IsReadCause (Damaged page) told s old new = told → IsBadCatalog old.image s page
IsReadCause NoMemory told s old new = Unit {0}

-- why pages that stand for a book weren't opened, or weren't made a store
abbrev pub IsOutside : StoreError → Type 0
IsOutside e = (e ≡ DiskFault) ⊎ (e ≡ NoMemory)

-- At each moment from old to new a crash leaves the pages of old, or a store without a series.
abbrev pub MakesStore : View → View → Type 0
MakesStore old new = Passes old new (λ image. (image ≡ old.image) ⊎ StandsForBook image old.size []) (Quiet old)
