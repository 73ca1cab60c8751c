-- What becomes of pages of version 1.
use Rattle.std.specs.Prelude.{ℕ, zero, suc, ◌+◌, ◌*◌, ◌==◌, nat_lt, if◌then◌else◌, List, ◌++◌, drop, slice_set}
use Rattle.block_disk.specs.View.{Image}
use Rattle.om3_coeff.specs.Keys.{page_levels}
use Rattle.page_space.specs.Layout.{magic}
use Rattle.catalog_page.specs.Fields.{record_bytes, used_at, slots_at}
use Rattle.store_upgrade.specs.OldStores.{has_old_magic}

-- page 0 with the magic of version 2
abbrev pub renewed : List ℕ → List ℕ
renewed page = magic ++ drop 8 page

-- the page levels that the slots of record i of a page need
abbrev pub levels_of : List ℕ → ℕ → ℕ
levels_of page i = page_levels (slots_at (record_bytes page i))

-- a page with the levels of record n set, where that is in use
abbrev pub with_level : List ℕ → ℕ → List ℕ
with_level page n = if used_at (record_bytes page n) == 0 then page else slice_set page (88 + 96 * n) (levels_of page n)

-- a page of the catalog with the levels of the first n records set
unfoldable pub with_levels : List ℕ → ℕ → List ℕ
with_levels page zero = page
with_levels page (suc n) = with_level (with_levels page n) n

-- and the kind of version 2
abbrev pub upgraded_page : List ℕ → List ℕ
upgraded_page page = slice_set (with_levels page 32) 0 4

-- page 0, the pages of the catalog, and those behind them
unfoldable pub upgraded : Image → Image
upgraded image p = if p == 0 then renewed (image 0) else (if nat_lt p 17 then upgraded_page (image p) else image p)

-- the pages in version 2, in whichever of the two they are
unfoldable pub current : Image → Image
current image = if has_old_magic (image 0) then upgraded image else image
