-- Which block a command calls damaged.
use Rattle.std.specs.Prelude.{ℕ, ◌≡◌, ◌<◌, ◌⊎◌}
use Rattle.block_disk.specs.View.{Image, View, Honest}
use Rattle.disk_store.specs.Openings.{IsDamagedBlock, IsFirstBlock}
use Rattle.gate_pages.specs.Journal.{page_count}
use Rattle.stored_book.specs.Standing.{book_pages}
use Rattle.run_ends.specs.Statuses.{block_of}

-- no store was opened: the block is the directory, page 0 or one of the catalog, and breaks its layout on the disk as it was
-- found, once the journal is replayed and the pages are of version 2, or the rules of version 1, or block 66 has no store
abbrev pub IsDamagedAtFirst : View → ℕ → Type 0
IsDamagedAtFirst disk place = IsFirstBlock place × (Honest disk → IsDamagedBlock (page_count disk.size) disk.image place)

-- a page of an opened store was called damaged: it is one of so many, and bad as the disk is then
pub record IsDamagedLater (IsBad : ℕ → Image → ℕ → Type 0) (count : ℕ) (disk : View) (place : ℕ) : Type 0 where
  pub page : ℕ
  pub place_is : place ≡ block_of page
  pub within : page < count
  pub bad : Honest disk → IsBad count (book_pages count disk.image) page

-- the one or the other
abbrev pub IsDamagedPlace : (ℕ → Image → ℕ → Type 0) → View → View → ℕ → Type 0
IsDamagedPlace IsBad old new place = IsDamagedAtFirst old place ⊎ IsDamagedLater IsBad (page_count old.size) new place
