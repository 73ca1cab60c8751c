-- How many pages a tree has.
use Rattle.std.proofs.Common.{◌≡◌, ◌≢◌, ℕ, ℤ, zero, suc, ◌+◌, ◌-◌, ◌*◌, ◌≤◌, ◌⊎◌, ◌||◌, Bool, true, false, cond, is_some, List, length}
use Rattle.std.proofs.Common.{Option, None, Some, IsSome, refl, sym, ap, subst, arith, inl, inr, ◌∙◌}
use Rattle.block_disk.specs.View.{Image}
use Rattle.om3_coeff.specs.declared.span.Span.{Span}
use Rattle.om3_coeff.specs.Keys.{first_slot, end_slot}
use Rattle.om3_coeff.specs.Spans.{span}
use Rattle.node_page.specs.Fields.{child_at}
use Rattle.tree_walk.specs.Trees.{top_of_page, IsTree}
use Rattle.path_repair.specs.Sums.{sum_below}
use Rattle.path_repair.specs.TreePages.{tree_pages, low, count_where, is_stored, is_stored_in_either, page_count, IsRooted}
use Rattle.path_repair.proofs.SumLemmas.{sum_le, sum_same, sum_upto, length_join}
use Rattle.path_repair.proofs.TreeLemmas.{no_pages, own_pages, no_slots, low_fits, low_above}
use Rattle.path_repair.proofs.ListLemmas.{part_none, child_first, child_end}

pub count_one : (has : ℕ → ℕ → Bool) (level index : ℕ) → has (suc level) index ≡ true
    → count_where has (suc level) index ≡ suc (sum_below (λ child. count_where has level (128 * index + child)) 128)
unfolding count_where
count_one has level index is = ap (λ b. cond b (suc (sum_below (λ child. count_where has level (128 * index + child)) 128)) 0) is

pub count_no : (has : ℕ → ℕ → Bool) (level index : ℕ) → has (suc level) index ≡ false → count_where has (suc level) index ≡ 0
unfolding count_where
count_no has level index is = ap (λ b. cond b (suc (sum_below (λ child. count_where has level (128 * index + child)) 128)) 0) is

pub count_slots : (has : ℕ → ℕ → Bool) (index : ℕ) → count_where has 0 index ≡ 0
unfolding count_where
count_slots has index = refl

pub truth : (b : Bool) → (b ≡ true) ⊎ (b ≡ false)
truth true = inl refl
truth false = inr refl

both : (b : Bool) → b ≡ true → b ≡ false → ⊥
both b is never = grind (arith, is, never)

pub count_le : (has more : ℕ → ℕ → Bool) (level index : ℕ) → ((l q : ℕ) → has l q ≡ true → more l q ≡ true)
    → count_where has level index ≤ count_where more level index
count_le has more zero index if = omega (arith, count_slots has index)
count_le has more (suc level) index if = elim (truth (has (suc level) index)) [
  | inl is ↦ omega (
    arith,
    count_one has level index is,
    count_one more level index (if (suc level) index is),
    sum_le (λ child. count_where has level (128 * index + child)) (λ child. count_where more level (128 * index + child)) 128
        (λ c low. count_le has more level (128 * index + c) if),
  )
  | inr none ↦ omega (arith, count_no has level index none)
]

pub stored_is : (s : Option Span) → IsSome s → is_some s ≡ true
stored_is s some = some

pub none_is : (s : Option Span) → s ≡ None → is_some s ≡ false
none_is s none = ap (λ t. is_some t) none

-- a tree has as many pages as the list needs
pub pages_length : (image : Image) (total : ℕ) (list : List (Option ℤ)) (level index page : ℕ) → IsTree image total list level index page
    → length (tree_pages image level page) ≡ page_count list level index
pages_length image total list zero index page tree = ap (λ l. length l) (no_slots image page) ∙ sym (count_slots (is_stored list) index)
pages_length image total list (suc level) index page (inl (none, empty)) =
    ap (λ l. length l) (no_pages image (suc level) page none)
    ∙ sym (count_no (is_stored list) level index (none_is (span list (top_of_page (suc level) index)) empty))
pages_length image total list (suc level) index page (inr (some, low, stored, nodes, children)) =
    let one = count_one (is_stored list) level index (stored_is (span list (top_of_page (suc level) index)) stored) in
    let each = sum_same (λ child. length (tree_pages image level (child_at (image page) child)))
    (λ child. page_count list level (128 * index + child)) 128
    (λ c within. pages_length image total list level (128 * index + c) (child_at (image page) c) (children c within)) in
    omega (
      arith,
      one,
      each,
      ap (λ l. length l) (own_pages image level page some),
      length_join (λ child. tree_pages image level (child_at (image page) child)) 128,
    )

pub either_first : (a b : Bool) → a ≡ true → a || b ≡ true
either_first true b is = refl
either_first false b is = absurd (grind (arith, is))

pub either_right : (a b : Bool) → b ≡ true → a || b ≡ true
either_right true b is = refl
either_right false b is = is

pub count_left : (list list' : List (Option ℤ)) (level index : ℕ)
    → page_count list level index ≤ count_where (is_stored_in_either list list') level index
count_left list list' level index = count_le (is_stored list) (is_stored_in_either list list') level index
    (λ l q is. either_first (is_stored list l q) (is_stored list' l q) is)

pub count_right : (list list' : List (Option ℤ)) (level index : ℕ)
    → page_count list' level index ≤ count_where (is_stored_in_either list list') level index
count_right list list' level index = count_le (is_stored list') (is_stored_in_either list list') level index
    (λ l q is. either_right (is_stored list l q) (is_stored list' l q) is)

pub none_of : (s : Option Span) → is_some s ≡ false → s ≡ None
none_of None is = refl
none_of (Some s) is = absurd (grind (arith, is))

-- where something is stored in the first range of a page level, so there is in that above
up_stored : (list : List (Option ℤ)) (level : ℕ) → is_stored list level 0 ≡ true → is_stored list (suc level) 0 ≡ true
up_stored list level is = elim (truth (is_stored list (suc level) 0)) [
  | inl there ↦ there
  | inr none ↦
      let P : ℕ → Type 0 = λ q. span list (top_of_page level q) ≡ None in
      let first : 128 * 0 + 0 ≡ 0 = omega arith in
      let here : span list (top_of_page level 0) ≡ None = subst P first
      (part_none list (first_slot (top_of_page (suc level) 0)) (end_slot (top_of_page (suc level) 0))
      (first_slot (top_of_page level (128 * 0 + 0))) (end_slot (top_of_page level (128 * 0 + 0)))
      (child_first level 0 0) (child_end level 0 0 (omega arith)) (none_of (span list (top_of_page (suc level) 0)) none)) in
      absurd (both (is_stored list level 0) is (none_is (span list (top_of_page level 0)) here))
]

-- a list needs as many pages at least, where its tree is to grow
up_count : (list : List (Option ℤ)) (n height : ℕ) → is_stored list height 0 ≡ true
    → (is_stored list (n + height) 0 ≡ true) × (page_count list height 0 ≤ page_count list (n + height) 0)
up_count list zero height is =
    let P : ℕ → Type 0 = λ level. (is_stored list level 0 ≡ true) × (page_count list height 0 ≤ page_count list level 0) in
    let next : height ≡ 0 + height = omega arith in
    subst P next (is, omega arith)
up_count list (suc n) height is =
    let before = up_count list n height is in
    let next : suc (n + height) ≡ suc n + height = omega arith in
    let P : ℕ → Type 0 = λ level. (is_stored list level 0 ≡ true) × (page_count list height 0 ≤ page_count list level 0) in
    let there = up_stored list (n + height) before.0 in
    let first : 128 * 0 + 0 ≡ 0 = omega arith in
    subst P next (
      there,
      omega (
        arith,
        before.1,
        count_one (is_stored list) (n + height) 0 there,
        sum_upto (λ child. page_count list (n + height) (128 * 0 + child)) 0 128 (omega arith),
        ap (λ q. page_count list (n + height) q) first,
      ),
    )

-- the root of a tree that is to grow has a stored value below it
pub lower_stored : (image : Image) (total : ℕ) (list : List (Option ℤ)) (height page : ℕ) → page ≢ 0 → IsTree image total list height 0 page
    → is_stored list height 0 ≡ true
lower_stored image total list zero page some tree = absurd (some tree)
lower_stored image total list (suc height) page some (inl (none, empty)) = absurd (some none)
lower_stored image total list (suc height) page some (inr (there, low, stored, nodes, children)) = stored_is
    (span list (top_of_page (suc height) 0)) stored

pub lower_up : (image : Image) (total : ℕ) (list : List (Option ℤ)) (height level page : ℕ) → page ≢ 0 → height ≤ level
    → IsTree image total list height 0 page
    → (is_stored list level 0 ≡ true) × (page_count list height 0 ≤ page_count list level 0)
lower_up image total list height level page some fits tree =
    let P : ℕ → Type 0 = λ l. (is_stored list l 0 ≡ true) × (page_count list height 0 ≤ page_count list l 0) in
    let sum : (level - height) + height ≡ level = omega (arith, fits) in
    subst P sum (up_count list (level - height) height (lower_stored image total list height page some tree))

-- a root has as many pages at most as both lists together
pub rooted_length : (image : Image) (total : ℕ) (list list' : List (Option ℤ)) (height level index page : ℕ)
    → IsRooted image total list height level index page
    → length (tree_pages image (low height level) page) ≤ count_where (is_stored_in_either list list') level index
rooted_length image total list list' height level index page (inl whole) = elim whole.fits [
  | inl fits ↦ omega (
    arith,
    ap (λ l. length (tree_pages image l page)) (low_fits height level fits),
    pages_length image total list level index page whole.tree,
    count_left list list' level index,
  )
  | inr none ↦ omega (arith, ap (λ l. length l) (no_pages image (low height level) page none))
]
rooted_length image total list list' height level index page (inr lower) =
    omega (
      arith,
      ap (λ l. length (tree_pages image l page)) (low_above height level lower.above),
      pages_length image total list height 0 page lower.tree,
      (lower_up image total list height level page lower.some (omega (arith, lower.above)) lower.tree).1,
      count_left list list' level 0,
      ap (λ q. count_where (is_stored_in_either list list') level q) lower.first,
    )
