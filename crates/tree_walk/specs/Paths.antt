-- The pages on the way from a tree's root to a key, and the coefficient that stands at its end.
use Rattle.std.specs.Prelude.{ℕ, zero, suc, ◌≡◌, ◌-◌, ◌*◌, ◌/◌, ◌%◌, ◌^◌, ◌<◌, ◌≤◌, ◌⊎◌, ◌==◌, if◌then◌else◌, List, Option, None, Some}
use Rattle.std.specs.Option.{option_map}
use Rattle.block_disk.specs.View.{Image}
use Rattle.om3_coeff.specs.declared.key.Key.{Key}
use Rattle.om3_coeff.specs.declared.span.Span.{Span}
use Rattle.om3_coeff.specs.declared.coef.Coef.{Coef}
use Rattle.om3_coeff.specs.Keys.{page_levels, height, IsNode}
use Rattle.om3_coeff.specs.Coefs.{parts}
use Rattle.om3_coeff.specs.Known.{known}
use Rattle.node_page.specs.Fields.{level_at, coef_at, child_at}
use Rattle.node_page.specs.Layout.{KeepsLayout}
use Rattle.node_page.specs.Places.{page_level, node_number}
use Rattle.tree_walk.specs.declared.tree.Tree.{Tree}

-- the key of the top of the page of this level that is on the way to a key, by its index
unfoldable pub path_index : Key → ℕ → ℕ
path_index k level = k.index / 2 ^ (7 * level - k.level)

-- which child of that page is on the way to a key that stands below it
unfoldable pub path_child : Key → ℕ → ℕ
path_child k level = path_index k (level - 1) % 128

-- a child's page, where there is one
abbrev pub child_page : Image → Option ℕ → ℕ → Option ℕ
child_page image None child = None
child_page image (Some page) child = if child_at (image page) child == 0 then None else Some (child_at (image page) child)

-- The page that lies so many page levels below the root and holds the range with this index there. Each
-- page has 128 ranges below it.
unfoldable pub page_below : Image → ℕ → ℕ → ℕ → Option ℕ
page_below image root zero index = Some root
page_below image root (suc depth) index = child_page image (page_below image root depth (index / 128)) (index % 128)

-- the page of this page level on the way to a key
abbrev pub page_on_path : Image → Tree → Key → ℕ → Option ℕ
page_on_path image tree k level = page_below image tree.root (page_levels tree.slots - level) (path_index k level)

-- the coefficient of a key that the pages tell
unfoldable pub told_by_pages : Image → Tree → Key → Option Coef
told_by_pages image tree k = option_map (λ page. coef_at (image page) (node_number k)) (page_on_path image tree k (page_level k.level))

-- the page names one past the total
pub record NamesBeyond (total : ℕ) (page : List ℕ) : Type 0 where
  pub child : ℕ
  pub within : child < 128
  pub beyond : total ≤ child_at page child

-- the page on the way to the key, of this page level, has a fault: it breaks the layout, isn't of this
-- level, names a page past the total, or has a coefficient of the key that doesn't split the key's span
abbrev pub HasFault : ℕ → Key → Span → ℕ → List ℕ → Type 0
HasFault total k s level page =
    (KeepsLayout page → ⊥)
    ⊎ ((level_at page ≡ level → ⊥)
    ⊎ (NamesBeyond total page
    ⊎ ((page_level k.level ≡ level) × (parts s (coef_at page (node_number k)) ≡ None))))

-- a page with a fault is on the way to a key of the tree that the root and the coefficients above it
-- give a span
pub record IsDamaged (image : Image) (total : ℕ) (tree : Tree) (page : ℕ) : Type 0 where
  pub key : Key
  pub node : IsNode (height tree.slots) key
  pub span : Span
  pub seen : known tree.span (told_by_pages image tree) (height tree.slots) key ≡ Some (Some span)
  pub level : ℕ
  pub above : page_level key.level ≤ level
  pub below : level ≤ page_levels tree.slots
  pub there : page_on_path image tree key level ≡ Some page
  pub fault : HasFault total key span level (image page)

-- a page with a fault is on the way to this key, which has this span
pub record IsDamagedFor (image : Image) (total : ℕ) (tree : Tree) (key : Key) (span : Span) (page : ℕ) : Type 0 where
  pub level : ℕ
  pub above : page_level key.level ≤ level
  pub below : level ≤ page_levels tree.slots
  pub there : page_on_path image tree key level ≡ Some page
  pub fault : HasFault total key span level (image page)
