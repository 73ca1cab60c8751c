-- Why a catalog wasn't read.
use Rattle.std.specs.Prelude.{ℕ, ◌≡◌, ◌≢◌, ◌*◌, ◌<◌, ◌≤◌, ◌⊎◌, List, length, map, min, AllPairs}
use Rattle.block_disk.specs.View.{Image, View}
use Rattle.block_disk.specs.Counts.{HasRisen}
use Rattle.catalog_page.specs.Layout.{KeepsLayout}
use Rattle.catalog_page.specs.Places.{page_of, records_of}
use Rattle.page_space.specs.declared.superblock.Superblock.{Superblock}
use Rattle.stored_book.specs.Records.{entry}
use Rattle.series_catalog.specs.Catalogs.{AreFit}
use Rattle.series_catalog.specs.declared.stored_series.StoredSeries.{StoredSeries}
use Rattle.series_catalog.specs.declared.errors.CatalogError.{CatalogError}
use Rattle.series_catalog.specs.declared.errors.CatalogError.TheVariants.{DiskFault, Damaged, NoMemory}

-- a series whose record is in this page has the name of one before it
pub record HasRepeatedName (image : Image) (count page : ℕ) : Type 0 where
  pub first : ℕ
  pub second : ℕ
  pub before : first < second
  pub within : second < count
  pub in_page : page_of second ≡ page
  pub same : (entry image first).name ≡ (entry image second).name

-- the page of the catalog breaks its layout, or repeats a name
pub record IsBadCatalog (image : Image) (s : Superblock) (page : ℕ) : Type 0 where
  pub low : 1 ≤ page
  pub high : page < 17
  pub bad : (KeepsLayout (records_of page s.series) s.fresh (image page) → ⊥) ⊎ HasRepeatedName image s.series page

-- when each error comes
abbrev pub IsCatalogCause : CatalogError → Type 0 → Superblock → View → View → Type 0
IsCatalogCause DiskFault told s old new = HasRisen old.faults new.faults
IsCatalogCause (Damaged page) told s old new = told → IsBadCatalog old.image s page
IsCatalogCause NoMemory told s old new = Unit {0}

-- whatever the pages are, one that is called damaged is one of the catalog
abbrev pub IsCatalogPage : CatalogError → Type 0
IsCatalogPage DiskFault = Unit {0}
IsCatalogPage (Damaged page) = (1 ≤ page) × (page < 17)
IsCatalogPage NoMemory = Unit {0}

-- why the series of a page weren't added, where it is bad for this reason
abbrev pub IsPageCause : CatalogError → ℕ → Type 0 → Type 0
IsPageCause DiskFault page bad = ⊥
IsPageCause (Damaged at) page bad = (at ≡ page) × bad
IsPageCause NoMemory page bad = Unit {0}

-- of so many series those of the first so many pages of the catalog are there, and no two have one name
pub record AreRead (pages count fresh : ℕ) (series : List StoredSeries) : Type 0 where
  pub len : length series ≡ min (32 * pages) count
  pub fit : AreFit fresh series
  pub distinct : AllPairs (λ one other. one ≢ other) (map (λ one. one.name) series)
