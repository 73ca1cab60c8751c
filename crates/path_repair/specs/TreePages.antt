-- The pages of a tree, and how many a list needs.
use Rattle.std.specs.Prelude.{ℕ, ℤ, zero, suc, ◌≡◌, ◌≢◌, ◌+◌, ◌*◌, ◌^◌, ◌<◌, ◌≤◌, ◌⊎◌, ◌==◌, Bool, ◌||◌, nat_le, is_some, if◌then◌else◌}
use Rattle.std.specs.Prelude.{List, [], ◌∷◌, length, Option}
use Rattle.block_disk.specs.View.{Image}
use Rattle.om3_coeff.specs.Spans.{span}
use Rattle.node_page.specs.Fields.{child_at}
use Rattle.tree_walk.specs.Trees.{top_of_page, IsTree}
use Rattle.path_repair.specs.Sums.{sum_below, join_below}

-- the pages of the tree below a page of this page level, the page itself first
unfoldable pub tree_pages : Image → ℕ → ℕ → List ℕ
tree_pages image zero page = []
tree_pages image (suc level) page =
    if page == 0 then [] else page ∷ join_below (λ child. tree_pages image level (child_at (image page) child)) 128

-- how many of the ranges that are so have a page: one of a page level's range, and those of its 128 parts
unfoldable pub count_where : (ℕ → ℕ → Bool) → ℕ → ℕ → ℕ
count_where has zero index = 0
count_where has (suc level) index =
    if has (suc level) index then suc (sum_below (λ child. count_where has level (128 * index + child)) 128) else 0

-- the range of the page of this page level and index holds a stored value
abbrev pub is_stored : List (Option ℤ) → ℕ → ℕ → Bool
is_stored list level index = is_some (span list (top_of_page level index))

abbrev pub is_stored_in_either : List (Option ℤ) → List (Option ℤ) → ℕ → ℕ → Bool
is_stored_in_either list list' level index = is_stored list level index || is_stored list' level index

-- how many pages a list needs in the range of a page: one on each page level for each range with a stored value
abbrev pub page_count : List (Option ℤ) → ℕ → ℕ → ℕ
page_count list level index = count_where (is_stored list) level index

-- the lower of the height of a tree and a page level
abbrev pub low : ℕ → ℕ → ℕ
low height level = if nat_le level height then level else height

-- the page stands for its whole range
pub record IsWhole (image : Image) (total : ℕ) (list : List (Option ℤ)) (height level index page : ℕ) : Type 0 where
  pub fits : (level ≤ height) ⊎ (page ≡ 0)
  pub tree : IsTree image total list level index page

-- the page is the root of a lower tree for the whole list, which is to grow
pub record IsLower (image : Image) (total : ℕ) (list : List (Option ℤ)) (height level index page : ℕ) : Type 0 where
  pub above : height < level
  pub some : page ≢ 0
  pub first : index ≡ 0
  pub within : length list ≤ 2 ^ (7 * height)
  pub tree : IsTree image total list height 0 page

-- The page stands for the range of this page level and index, in a tree of this height that is to grow to it.
abbrev pub IsRooted : Image → ℕ → List (Option ℤ) → ℕ → ℕ → ℕ → ℕ → Type 0
IsRooted image total list height level index page =
    IsWhole image total list height level index page ⊎ IsLower image total list height level index page
