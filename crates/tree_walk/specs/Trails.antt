-- What a trail holds: pages on the way from the root to the key asked last.
use Rattle.std.specs.Prelude.{ℕ, ◌≡◌, ◌≢◌, ◌+◌, ◌-◌, ◌<◌, List, [], map, slice_index, slice_index_or, Option, None, Some}
use Rattle.block_disk.specs.View.{Image}
use Rattle.om3_coeff.specs.declared.key.Key.{Key}
use Rattle.om3_coeff.specs.Keys.{page_levels, height, IsNode}
use Rattle.node_page.specs.Fields.{level_at, child_at}
use Rattle.node_page.specs.Layout.{KeepsLayout}
use Rattle.node_page.specs.Places.{page_level}
use Rattle.tree_walk.specs.declared.tree.Tree.{Tree}
use Rattle.tree_walk.specs.declared.held_page.HeldPage.{HeldPage}
use Rattle.tree_walk.specs.Paths.{path_child}

-- the number of the page at a depth of a trail, and its bytes
unfoldable pub number_at : List HeldPage → ℕ → ℕ
number_at pages depth = slice_index (map (λ (page : HeldPage). page.number) pages) depth

unfoldable pub bytes_at : List HeldPage → ℕ → List ℕ
bytes_at pages depth = slice_index_or (map (λ (page : HeldPage). page.bytes.items) pages) depth []

-- a page that was read was found to keep its layout and to be of its page level, and is as the pages
-- are, where they tell it
pub record IsHeld (tells : Type 0) (image : Image) (total level number : ℕ) (bytes : List ℕ) : Type 0 where
  pub below : number < total
  pub keeps : KeepsLayout bytes
  pub level_is : level_at bytes ≡ level
  pub as_told : tells → bytes ≡ image number

-- the first `len` pages are held, one of each page level from the root's down
abbrev pub AreHeld : Type 0 → Image → ℕ → ℕ → List HeldPage → ℕ → Type 0
AreHeld tells image total levels pages len =
    (depth : ℕ) → depth < len → IsHeld tells image total (levels - depth) (number_at pages depth) (bytes_at pages depth)

-- the page below this depth is the child of the one at it that is on the way to the key
pub record IsLinked (pages : List HeldPage) (k : Key) (levels depth : ℕ) : Type 0 where
  pub is : number_at pages (depth + 1) ≡ child_at (bytes_at pages depth) (path_child k (levels - depth))
  pub there : number_at pages (depth + 1) ≢ 0

-- the held pages from the root's on are those on the way to the key, down to the page of its node
pub record LeadsTo (tree : Tree) (pages : List HeldPage) (len : ℕ) (k : Key) : Type 0 where
  pub node : IsNode (height tree.slots) k
  pub long : page_levels tree.slots - page_level k.level < len
  pub root : number_at pages 0 ≡ tree.root
  pub links : (depth : ℕ) → depth < page_levels tree.slots - page_level k.level → IsLinked pages k (page_levels tree.slots) depth

abbrev pub LeadsToAny : Tree → List HeldPage → ℕ → Option Key → Type 0
LeadsToAny tree pages len None = Unit {0}
LeadsToAny tree pages len (Some k) = LeadsTo tree pages len k

-- the trail was filled over this tree and these pages
pub record IsTrailOf (tells : Type 0) (image : Image) (total : ℕ) (tree : Tree) (pages : List HeldPage) (len : ℕ)
    (asked : Option Key) : Type 0 where
  pub held : AreHeld tells image total (page_levels tree.slots) pages len
  pub leads : LeadsToAny tree pages len asked

-- the trail is one of any tree over any pages
abbrev pub IsTrailOfAny : List HeldPage → ℕ → Option Key → Type 0
IsTrailOfAny pages len asked = (image : Image) (total : ℕ) (tree : Tree) → IsTrailOf (Unit {0}) image total tree pages len asked
