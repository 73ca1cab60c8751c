-- A series without slots is added to a store.
use Rattle.std.specs.Prelude.{ℕ, ◌≡◌, ◌≢◌, ◌+◌, []}
use Rattle.block_disk.specs.View.{Image}
use Rattle.catalog_page.specs.Entries.{Entry}
use Rattle.page_space.specs.declared.superblock.Superblock.{Superblock}
use Rattle.page_space.specs.Layout.{superblock_page, with_series}
use Rattle.series_book.specs.declared.one_series.Series.{Series}
use Rattle.stored_book.specs.Changing.{IsRecordSet, AddsRecord}

-- the series without slots of which a record says this
abbrev pub series_of : Entry → Series
series_of e = record { name = e.name; start = e.start; step = e.step; scale = e.scale; slots = [] }

-- page 0 counts a series more than these numbers, and its record stands behind those of the others
pub record IsRecordAdded (before after : Image) (s : Superblock) (id : ℕ) (e : Entry) : Type 0 where
  pub mid : Image
  pub spelled : mid 0 ≡ superblock_page (with_series s (id + 1))
  pub others : (p : ℕ) → p ≢ 0 → mid p ≡ before p
  pub set : IsRecordSet mid after id e
  pub adds : AddsRecord mid after id s.fresh
