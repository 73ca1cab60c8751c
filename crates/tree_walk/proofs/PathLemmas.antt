-- The pages on the way to a key, one by one.
use Rattle.std.proofs.Common.{◌≡◌, ◌≢◌, ℕ, zero, suc, ◌+◌, ◌-◌, ◌*◌, ◌/◌, ◌%◌, ◌^◌, ◌<◌, ◌≤◌, List, cond, Option, Some, None, refl, sym, ap}
use Rattle.std.proofs.Common.{subst, inl, inr, ◌∙◌, arith}
use Rattle.std.specs.Option.{option_map}
use Rattle.std.proofs.lemmas.Nat.{shr-shr}
use Rattle.std.proofs.lemmas.Bool.Decides.{eqb_tells}
use Rattle.block_disk.specs.View.{Image}
use Rattle.om3_coeff.specs.declared.key.Key.{Key}
use Rattle.om3_coeff.specs.Keys.{page_levels}
use Rattle.node_page.specs.Fields.{coef_at, child_at}
use Rattle.node_page.specs.Places.{page_level, page_index, below_top, node_number}
use Rattle.tree_walk.specs.declared.tree.Tree.{Tree}
use Rattle.tree_walk.specs.declared.held_page.HeldPage.{HeldPage}
use Rattle.tree_walk.specs.Paths.{path_index, path_child, child_page, page_below, page_on_path, told_by_pages}
use Rattle.tree_walk.specs.Trails.{number_at, bytes_at, AreHeld, IsLinked}

-- the page levels of keys
pub level_low : (level p : ℕ) → page_level level ≤ p → level ≤ 7 * p
unfolding page_level
level_low level p within = omega (arith, within)

pub level_few : (level p : ℕ) → level ≤ 7 * p → page_level level ≤ p
unfolding page_level
level_few level p within = omega (arith, within)

pub level_some : (level : ℕ) → 1 ≤ level → 1 ≤ page_level level
unfolding page_level
level_some level low = omega (arith, low)

pub level_grows : (level : ℕ) → page_level (suc level) ≤ suc (page_level level)
unfolding page_level
level_grows level = omega arith

pub level_more : (low high : ℕ) → low ≤ high → page_level low ≤ page_level high
unfolding page_level
level_more low high more = omega (arith, more)

pub top_page : (level p : ℕ) → level ≡ 7 * p → page_level level ≡ p
unfolding page_level
top_page level p is = omega (arith, is)

-- the page of a key's node is the last one on the way
pub own_page : (k : Key) → path_index k (page_level k.level) ≡ page_index k
unfolding path_index page_index below_top
own_page k = refl

-- the page above holds 128 ranges
pub path_up : (k : Key) (level : ℕ) → k.level ≤ 7 * level → path_index k level / 128 ≡ path_index k (suc level)
unfolding path_index
path_up k level low =
    let sum : (7 * level - k.level) + 7 ≡ 7 * suc level - k.level = omega (arith, low) in
    shr-shr k.index (7 * level - k.level) 7 ∙ ap (λ n. k.index / 2 ^ n) sum

pub child_on : (k : Key) (level : ℕ) → path_child k (suc level) ≡ path_index k level % 128
unfolding path_child
child_on k level = let e : suc level - 1 ≡ level = omega arith in ap (λ n. path_index k n % 128) e

pub child_few : (k : Key) (level : ℕ) → path_child k level < 128
unfolding path_child
child_few k level = omega arith

-- a page's child
pub child_some : (image : Image) (o : Option ℕ) (page child : ℕ) → o ≡ Some page → child_at (image page) child ≢ 0
    → child_page image o child ≡ Some (child_at (image page) child)
child_some image o page child is there =
    ap (λ (o : Option ℕ). child_page image o child) is
    ∙ elim (eqb_tells (child_at (image page) child) 0) [
      | inl none ↦ absurd (there none.1)
      | inr some ↦ ap (λ b. cond b None (Some (child_at (image page) child))) some.0
    ]

-- the page below on the way to a key
pub next_below : (image : Image) (root depth : ℕ) (k : Key) (level page : ℕ) → k.level ≤ 7 * level
    → page_below image root depth (path_index k (suc level)) ≡ Some page → child_at (image page) (path_child k (suc level)) ≢ 0
    → page_below image root (suc depth) (path_index k level) ≡ Some (child_at (image page) (path_child k (suc level)))
unfolding page_below
next_below image root depth k level page low is there =
    let above : page_below image root depth (path_index k level / 128) ≡ Some page = ap (page_below image root depth) (path_up k level low)
    ∙ is in
    ap (λ c. child_page image (page_below image root depth (path_index k level / 128)) c) (sym (child_on k level))
    ∙ child_some image (page_below image root depth (path_index k level / 128)) page (path_child k (suc level)) above there

pub root_below : (image : Image) (root index : ℕ) → page_below image root 0 index ≡ Some root
unfolding page_below
root_below image root index = refl

linked_page : (image : Image) (root depth : ℕ) (k : Key) (levels level next number : ℕ) (bytes : List ℕ) → k.level ≤ 7 * level
    → levels - depth ≡ suc level
    → page_below image root depth (path_index k (levels - depth)) ≡ Some number → bytes ≡ image number
    → next ≡ child_at bytes (path_child k (levels - depth)) → next ≢ 0
    → page_below image root (suc depth) (path_index k level) ≡ Some next
linked_page image root depth k levels level next number bytes low up above told is there =
    let P : ℕ → Type 0 = λ n. page_below image root depth (path_index k n) ≡ Some number in
    let same : next ≡ child_at (image number) (path_child k (suc level)) =
    is ∙ ap (λ b. child_at b (path_child k (levels - depth))) told ∙ ap (λ n. child_at (image number) (path_child k n)) up in
    next_below image root depth k level number low (subst P up above) (λ none. there (same ∙ none))
    ∙ ap (λ n. Some n) (sym same)

-- the held pages are those on the way to a key, where each is linked to the next
pub held_below : (tells : Type 0) (image : Image) (total root levels : ℕ) (pages : List HeldPage) (len : ℕ) (k : Key) (depth : ℕ)
    → AreHeld tells image total levels pages len → number_at pages 0 ≡ root → ((d : ℕ) → d < depth → IsLinked pages k levels d)
    → depth < len → depth < levels → k.level ≤ 7 * (levels - depth) → tells
    → page_below image root depth (path_index k (levels - depth)) ≡ Some (number_at pages depth)
held_below tells image total root levels pages len k zero held first links long deep low told =
    root_below image root (path_index k (levels - 0)) ∙ ap (λ n. Some n) (sym first)
held_below tells image total root levels pages len k (suc depth) held first links long deep low told =
    let up : levels - depth ≡ suc (levels - suc depth) = omega (arith, deep) in
    let here : k.level ≤ 7 * (levels - depth) = omega (arith, low, up) in
    let link = links depth (omega arith) in
    let above = held_below tells image total root levels pages len k depth held first (λ d below. links d (omega (arith, below)))
    (omega (arith, long)) (omega (arith, deep)) here told in
    let next : depth + 1 ≡ suc depth = omega arith in
    linked_page image root depth k levels (levels - suc depth) (number_at pages (depth + 1)) (number_at pages depth) (bytes_at pages depth)
    low up above ((held depth (omega (arith, long))).as_told told) link.is link.there
    ∙ ap (λ n. Some (number_at pages n)) next

-- by page levels in place of depths
pub on_path : (image : Image) (tree : Tree) (k : Key) (level page depth : ℕ) → level ≤ page_levels tree.slots
    → depth ≡ page_levels tree.slots - level
    → page_below image tree.root depth (path_index k level) ≡ Some page → page_on_path image tree k level ≡ Some page
on_path image tree k level page depth within is there =
    ap (λ d. page_below image tree.root d (path_index k level)) (sym is) ∙ there

-- the coefficient that stands at the end of the way
pub told_at : (image : Image) (tree : Tree) (k : Key) (page : ℕ) → page_on_path image tree k (page_level k.level) ≡ Some page
    → told_by_pages image tree k ≡ Some (coef_at (image page) (node_number k))
unfolding told_by_pages
told_at image tree k page there = ap (option_map (λ page. coef_at (image page) (node_number k))) there
