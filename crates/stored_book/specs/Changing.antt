-- The pages of a book while one of its series is changed.
use Rattle.std.specs.Prelude.{ℕ, ℤ, ◌≡◌, ◌≢◌, ◌+◌, ◌<◌, ◌≤◌, List, Option}
use Rattle.block_disk.specs.View.{Image}
use Rattle.catalog_page.specs.Entries.{Entry, entry_at}
use Rattle.catalog_page.specs.Fields.{record_bytes}
use Rattle.catalog_page.specs.Layout.{KeepsLayout}
use Rattle.catalog_page.specs.Places.{page_of, number_of}
use Rattle.page_space.specs.declared.superblock.Superblock.{Superblock}
use Rattle.path_repair.specs.Edited.{IsEditedTree}
use Rattle.path_repair.specs.Keeping.{KeepsCatalog}
use Rattle.tree_walk.specs.declared.tree.Tree.{Tree}
use Rattle.stored_book.specs.Records.{pages_of_others}

-- the same pages
abbrev pub IsSameImage : Image → Image → Type 0
IsSameImage old new = (p : ℕ) → new p ≡ old p

-- the numbers of page 0 after a change of a tree
pub record IsLater (before after : Superblock) : Type 0 where
  pub total : after.total ≡ before.total
  pub series : after.series ≡ before.series
  pub fresh : before.fresh ≤ after.fresh

-- of so many series one has another tree, which stands for these slots; its record isn't changed yet
pub record IsTreeChanged (before after : Image) (count id : ℕ) (s : Superblock) (tree : Tree) (slots : List (Option ℤ)) : Type 0 where
  pub edited : IsEditedTree s.total before after s tree slots (pages_of_others before count id)
  pub catalog : KeepsCatalog before after

-- the record of a series says this, and nothing else of the pages is changed
pub record IsRecordSet (before after : Image) (id : ℕ) (e : Entry) : Type 0 where
  pub others : (p : ℕ) → p ≢ page_of id → after p ≡ before p
  pub set : entry_at (after (page_of id)) (number_of id) ≡ e
  pub records : (i : ℕ) → i < 32 → i ≢ number_of id → record_bytes (after (page_of id)) i ≡ record_bytes (before (page_of id)) i

-- the page of a series keeps its layout with a changed record, or with a new one behind the others
abbrev pub KeepsRecords : Image → Image → ℕ → ℕ → Type 0
KeepsRecords before after id fresh = (count : ℕ) → number_of id < count → count ≤ 32
    → KeepsLayout count fresh (before (page_of id)) → KeepsLayout count fresh (after (page_of id))

abbrev pub AddsRecord : Image → Image → ℕ → ℕ → Type 0
AddsRecord before after id fresh = KeepsLayout (number_of id) fresh (before (page_of id))
    → KeepsLayout (number_of id + 1) fresh (after (page_of id))
