-- When pages stand for the tree over a list of slots.
use Rattle.std.specs.Prelude.{ℕ, ℤ, zero, suc, ◌≡◌, ◌≢◌, ◌+◌, ◌*◌, ◌^◌, ◌<◌, ◌≤◌, ◌⊎◌, List, length, Option, None, IsSome}
use Rattle.block_disk.specs.View.{Image}
use Rattle.om3_coeff.specs.declared.key.Key.{Key}
use Rattle.om3_coeff.specs.Keys.{page_levels, top_key}
use Rattle.om3_coeff.specs.Spans.{AreSlots, span}
use Rattle.om3_coeff.specs.Coefs.{coef}
use Rattle.node_page.specs.Fields.{level_at, coef_at, child_at}
use Rattle.node_page.specs.Layout.{KeepsLayout}
use Rattle.node_page.specs.Places.{page_level, page_index, node_number}
use Rattle.tree_walk.specs.declared.tree.Tree.{Tree}

-- the key at the top of the page of this page level with this index
abbrev pub top_of_page : ℕ → ℕ → Key
top_of_page level index = record { level = 7 * level; index = index }

-- the page keeps its layout, and its nodes hold the list's coefficients of their keys
pub record HoldsNodes (list : List (Option ℤ)) (level index : ℕ) (page : List ℕ) : Type 0 where
  pub keeps : KeepsLayout page
  pub level_is : level_at page ≡ level
  pub nodes : (k : Key) → 1 ≤ k.level → page_level k.level ≡ level → page_index k ≡ index → coef_at page (node_number k) ≡ coef list k

-- The page is that of the range of 128^level slots with this index: where the range has a stored value,
-- a page below the total that holds its nodes and names the pages of its 128 parts; else 0.
abbrev pub IsTree : Image → ℕ → List (Option ℤ) → ℕ → ℕ → ℕ → Type 0
IsTree image total list zero index page = page ≡ 0
IsTree image total list (suc level) index page =
    ((page ≡ 0) × (span list (top_of_page (suc level) index) ≡ None))
    ⊎ ((page ≢ 0) × (page < total) × IsSome (span list (top_of_page (suc level) index)) × HoldsNodes list (suc level) index (image page)
    × ((child : ℕ) → child < 128 → IsTree image total list level (128 * index + child) (child_at (image page) child)))

-- these pages and this tree stand for the list
pub record StandsFor (image : Image) (total : ℕ) (tree : Tree) (list : List (Option ℤ)) : Type 0 where
  pub values : AreSlots list
  pub few : length list ≤ 2 ^ 35
  pub slots : tree.slots ≡ length list
  pub root_span : tree.span ≡ span list (top_key (length list))
  pub pages : IsTree image total list (page_levels (length list)) 0 tree.root
