-- When pages stand for a book.
use Rattle.std.specs.Prelude.{ℕ, ◌≡◌, ◌<◌, ◌≤◌, ◌^◌, List, length, slice_get, Some}
use Rattle.block_disk.specs.View.{Image}
use Rattle.gate_pages.specs.GatePages.{IsReadable}
use Rattle.gate_pages.specs.Journal.{pages_of}
use Rattle.series_book.specs.declared.one_series.Series.{Series}
use Rattle.series_book.specs.Books.{IsBook}
use Rattle.catalog_page.specs.Entries.{Entry}
use Rattle.catalog_page.specs.Layout.{KeepsLayout}
use Rattle.catalog_page.specs.Places.{records_of}
use Rattle.page_space.specs.declared.superblock.Superblock.{Superblock}
use Rattle.page_space.specs.Spaces.{Stands}
use Rattle.store_upgrade.specs.OldStores.{HasOldMagic, IsOldStore}
use Rattle.store_upgrade.specs.Upgraded.{current}
use Rattle.tree_walk.specs.Trees.{StandsFor}
use Rattle.stored_book.specs.Records.{entry, tree_of, pages_of_trees}

-- the record says what the series is, beside its slots
pub record IsRecordOf (series : Series) (e : Entry) : Type 0 where
  pub name : e.name ≡ series.name
  pub start : e.start ≡ series.start
  pub step : e.step ≡ series.step
  pub scale : e.scale ≡ series.scale

-- and the tree that it names stands for the slots
pub record IsKept (image : Image) (total : ℕ) (series : Series) (e : Entry) : Type 0 where
  pub record_is : IsRecordOf series e
  pub tree : StandsFor image total (tree_of e) series.slots

-- each page of the catalog keeps its layout, with a record of each series
abbrev pub AreCatalog : Image → ℕ → ℕ → Type 0
AreCatalog image fresh count = (p : ℕ) → 1 ≤ p → p < 17 → KeepsLayout (records_of p count) fresh (image p)

-- Page 0 has these numbers and counts the series, and the catalog has a record of each. Page 0, the catalog and the
-- pages of all trees are in use, each once; all others that were ever in use are in the chain.
pub record IsStore (image : Image) (s : Superblock) (book : List Series) : Type 0 where
  pub is_book : IsBook book
  pub small : s.total < 2 ^ 32
  pub series_are : s.series ≡ length book
  pub catalog : AreCatalog image s.fresh (length book)
  pub kept : (id : ℕ) (series : Series) → slice_get book id ≡ Some series → IsKept image s.total series (entry image id)
  pub freed : List ℕ
  pub stands : Stands s.total image s (pages_of_trees image (length book)) freed

-- the pages stand for the book, with this total of pages
pub record StandsForBook (image : Image) (total : ℕ) (book : List Series) : Type 0 where
  pub superblock : Superblock
  pub total_is : superblock.total ≡ total
  pub store : IsStore image superblock book

-- the pages of a disk's image, in version 2
abbrev pub book_pages : ℕ → Image → Image
book_pages count image = current (pages_of count image)

-- where the image's pages are of version 1, they keep its rules
abbrev pub KeepsOldStore : ℕ → Image → Type 0
KeepsOldStore count image = HasOldMagic (pages_of count image 0) → IsOldStore (pages_of count image)

-- the pages that a disk's image of so many pages has stand for the book
abbrev pub PagesStand : ℕ → Image → ℕ → List Series → Type 0
PagesStand count image total book = StandsForBook (pages_of count image) total book

-- A disk's image of so many pages stands for the book: its journal can be read, a store of version 1 keeps its rules, and
-- the pages, in version 2, stand for the book.
pub record RecoversTo (count : ℕ) (image : Image) (total : ℕ) (book : List Series) : Type 0 where
  pub readable : IsReadable count image
  pub within : total ≤ count
  pub old : KeepsOldStore count image
  pub stands : StandsForBook (book_pages count image) total book
