-- Laws of stored books.
use Rattle.std.specs.Prelude.{◌≡◌, ◌≢◌, ◌≤◌, ◌<◌, ◌+◌, ◌++◌, ◌∷◌, [], ℕ, ℤ, List, Option, None, Some, length, slice_get}
use Rattle.block_disk.specs.View.{Image}
use Rattle.catalog_page.specs.Entries.{Entry}
use Rattle.page_space.specs.declared.superblock.Superblock.{Superblock}
use Rattle.page_space.specs.Layout.{superblock_page, in_use, with_series}
use Rattle.path_repair.specs.Edited.{IsHeldTree, IsFullFor}
use Rattle.series_book.specs.declared.limits.TheConstants.{MOST_SLOTS}
use Rattle.series_book.specs.declared.one_series.Series.{Series}
use Rattle.series_book.specs.Books.{IsBook}
use Rattle.series_book.specs.Edits.{with_slots}
use Rattle.series_book.specs.Pages.{pages_of}
use Rattle.tree_walk.specs.declared.tree.Tree.{Tree}
use Rattle.stored_book.specs.Records.{entry, tree_of, pages_of_others}
use Rattle.stored_book.specs.Standing.{IsRecordOf, IsStore}
use Rattle.stored_book.specs.Changing.{IsLater, IsTreeChanged, IsRecordSet, KeepsRecords, AddsRecord}

-- Each series of a stored book has its tree, on pages that no other series uses.
abbrev pub SeriesHaveTheirTrees : Type 0
SeriesHaveTheirTrees =
    (image : Image) (s : Superblock) (book : List Series) (id : ℕ) (series : Series)
    → IsStore image s book → slice_get book id ≡ Some series
    → IsHeldTree s.total image s (tree_of (entry image id)) series.slots (pages_of_others image (length book) id)

-- Where the tree of one series was changed and its record set, the pages hold the changed book.
abbrev pub ChangedSeriesStand : Type 0
ChangedSeriesStand =
    (before mid after : Image) (s s' : Superblock) (book : List Series) (id : ℕ) (series : Series) (slots : List (Option ℤ)) (tree : Tree)
    (e : Entry)
    → IsStore before s book → slice_get book id ≡ Some series → IsLater s s' → IsTreeChanged before mid (length book) id s' tree slots
    → IsRecordOf series e → tree_of e ≡ tree → IsRecordSet mid after id e → KeepsRecords mid after id s'.fresh
    → IsBook (with_slots book id series slots) → IsStore after s' (with_slots book id series slots)

-- Where the record of an empty series was added, the pages hold the book with that series.
abbrev pub AddedSeriesStand : Type 0
AddedSeriesStand =
    (before mid after : Image) (s : Superblock) (book : List Series) (series : Series) (e : Entry)
    → IsStore before s book → length book < 512 → mid 0 ≡ superblock_page (with_series s (length book + 1))
    → ((p : ℕ) → p ≢ 0 → mid p ≡ before p)
    → IsRecordOf series e → series.slots ≡ [] → e.slots ≡ 0 → e.root ≡ 0 → e.span ≡ None → IsRecordSet mid after (length book) e
    → AddsRecord mid after (length book) s.fresh → IsBook (book ++ series ∷ [])
    → IsStore after (with_series s (length book + 1)) (book ++ series ∷ [])

-- A tree that finds no room needs the pages that the book would.
abbrev pub FullTreesAreFullBooks : Type 0
FullTreesAreFullBooks =
    (image : Image) (s : Superblock) (book : List Series) (id : ℕ) (series : Series) (slots : List (Option ℤ)) (needed have : ℕ)
    → IsStore image s book → slice_get book id ≡ Some series → length slots ≤ MOST_SLOTS
    → IsFullFor s.total (in_use s) series.slots slots needed have
    → (pages_of (with_slots book id series slots) ≡ needed) × (have ≡ s.total) × (s.total < needed)
