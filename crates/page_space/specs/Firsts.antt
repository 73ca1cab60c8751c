-- The pages of an empty store.
use Rattle.std.specs.Prelude.{ℕ, zero, suc, ◌==◌, nat_lt, if◌then◌else◌, List, [], ◌∷◌}
use Rattle.block_disk.specs.View.{Image}
use Rattle.gate_pages.specs.Batch.{Entry}
use Rattle.page_space.specs.Layout.{superblock_page, catalog_page, empty_of}

-- page 0 over so many pages, and else an empty page of the catalog
abbrev pub first_page : ℕ → ℕ → List ℕ
first_page count p = if p == 0 then superblock_page (empty_of count) else catalog_page

-- the pages below a number
abbrev pub first_below : ℕ → ℕ → List Entry
first_below count zero = []
first_below count (suc n) = (n, first_page count n) ∷ first_below count n

-- page 0, and sixteen empty pages of the catalog
abbrev pub first_pages : ℕ → List Entry
first_pages count = first_below count 17

-- those pages in their places, and else the pages from before
abbrev pub empty_over : ℕ → Image → Image
empty_over count image p = if nat_lt p 17 then first_page count p else image p
