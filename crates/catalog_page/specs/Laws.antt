-- Laws of catalog pages.
use Rattle.std.specs.Prelude.{◌≡◌, ◌<◌, ℕ, List, slice_index}
use Rattle.block_disk.specs.Blocks.{IsBlock}
use Rattle.catalog_page.specs.Entries.{entry_at}
use Rattle.catalog_page.specs.Layout.{KeepsLayout}

-- A page that keeps the layout has no byte but its records.
abbrev pub PagesAreTheirRecords : Type 0
PagesAreTheirRecords =
    (one other : List ℕ) (count fresh fresh' : ℕ)
    → IsBlock one → IsBlock other → ((k : ℕ) → slice_index one k < 256) → ((k : ℕ) → slice_index other k < 256)
    → KeepsLayout count fresh one
    → KeepsLayout count fresh' other → ((i : ℕ) → i < count → entry_at one i ≡ entry_at other i) → one ≡ other
