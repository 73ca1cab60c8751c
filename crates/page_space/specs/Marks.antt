-- What a cache says of its copies beside their bytes.
use Rattle.std.specs.Prelude.{ℕ, ◌≡◌, ◌≢◌, ◌⊎◌, List, Option, None, Some, slice_index_or}
use Rattle.block_disk.specs.MemDisk.{blocks_of}
use Rattle.node_page.specs.Fields.{level_at}
use Rattle.node_page.specs.Layout.{KeepsLayout}
use Rattle.page_space.specs.declared.page_cache.Kept.{Kept}

-- these bytes are a tree page of this page level that keeps its layout
pub record IsTreePage (level : ℕ) (bytes : List ℕ) : Type 0 where
  pub keeps : KeepsLayout bytes
  pub level_is : level_at bytes ≡ level

-- they break its layout, or are of another page level
abbrev pub IsNoTreePage : ℕ → List ℕ → Type 0
IsNoTreePage level bytes = (KeepsLayout bytes → ⊥) ⊎ (level_at bytes ≡ level → ⊥)

-- where a place names a page level, its copy is a tree page of this level
abbrev pub IsMarked : Kept → List ℕ → Type 0
IsMarked kept bytes = kept.level ≢ 0 → IsTreePage kept.level (blocks_of bytes kept.copy)

abbrev pub AreMarked : List (Option Kept) → List ℕ → Type 0
AreMarked places bytes = (at : ℕ) (kept : Kept) → slice_index_or places at None ≡ Some kept → IsMarked kept bytes
