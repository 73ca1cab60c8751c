-- A page is opened: none of its children is changed yet.
use Rattle.std.proofs.Common.{◌≡◌, ◌≢◌, ℕ, ℤ, zero, suc, ◌+◌, ◌*◌, ◌^◌, ◌<◌, ◌≤◌, ◌⊎◌, ◌++◌, Bool, true, false, eqb, ltb, ◌&&◌, List, []}
use Rattle.std.proofs.Common.{◌∷◌, length, Option, None, Some, IsSome, refl, sym, ap, ap₂, subst, arith, inl, inr, ◌∙◌}
use Rattle.std.proofs.lemmas.Bool.{cases_lt, le-ltb}
use Rattle.std.proofs.lemmas.Option.{slice_get_within}
use Rattle.std.proofs.Math.Nat.{mul-le-mul_right, pow-le-pow_right}
use Rattle.std.proofs.lemmas.Bool.Decides.{eqb_tells}
use Rattle.std.proofs.lemmas.List.{length-append}
use Rattle.block_disk.specs.View.{Image}
use Rattle.om3_coeff.specs.declared.span.Span.{Span}
use Rattle.om3_coeff.specs.Keys.{first_slot, end_slot}
use Rattle.om3_coeff.specs.Spans.{span, span_over, span_of}
use Rattle.om3_coeff.proofs.ExtremeLemmas.{clear-none}
use Rattle.om3_coeff.proofs.SpanLemmas.{span_over-all}
use Rattle.node_page.specs.Fields.{child_at}
use Rattle.page_space.specs.declared.superblock.Superblock.{Superblock}
use Rattle.page_space.specs.Spaces.{times, Stands}
use Rattle.page_space.proofs.Counting.{times_append, times_shift, once_low}
use Rattle.tree_walk.specs.Trees.{top_of_page, IsTree, HoldsNodes}
use Rattle.path_repair.specs.Costs.{is_new_root}
use Rattle.path_repair.specs.Forms.{AreTops}
use Rattle.path_repair.specs.Sums.{sum_below}
use Rattle.path_repair.specs.TreePages.{tree_pages, low, count_where, is_stored, is_stored_in_either, IsLower, IsRooted}
use Rattle.path_repair.specs.Standing.{SameOn, part, IsPlaced, IsTaken, IsPartWay}
use Rattle.path_repair.proofs.SumLemmas.{sum_upto, times_swap, join_same, join_none}
use Rattle.path_repair.proofs.TreeLemmas.{no_pages, own_pages, low_fits, low_above, pages_frame}
use Rattle.path_repair.proofs.ListLemmas.{part_none, child_first, child_end}
use Rattle.path_repair.proofs.StayLemmas.{same_pages, rooted_none, rooted_whole}
use Rattle.path_repair.proofs.CountLemmas.{count_one, rooted_length, stored_is, either_right, either_first, lower_up}
use Rattle.path_repair.proofs.PartLemmas.{piece, piece_left, rooted_frame}

-- there is room for the children where there is for the page
children_room : (list list' : List (Option ℤ)) (level index total : ℕ) (others : List ℕ)
    → is_stored_in_either list list' (suc level) index ≡ true
    → 17 + length others + count_where (is_stored_in_either list list') (suc level) index ≤ total
    → 18 + length others + sum_below (λ child. count_where (is_stored_in_either list list') level (128 * index + child)) 128 ≤ total
children_room list list' level index total others stored room = omega (
  arith,
  room,
  count_one (is_stored_in_either list list') level index stored,
)

-- a page that stands for its range
pub record IsThere (image : Image) (total : ℕ) (list : List (Option ℤ)) (level index page : ℕ) : Type 0 where
  pub stored : IsSome (span list (top_of_page (suc level) index))
  pub nodes : HoldsNodes list (suc level) index (image page)
  pub children : (child : ℕ) → child < 128 → IsTree image total list level (128 * index + child) (child_at (image page) child)

pub there : (image : Image) (total : ℕ) (list : List (Option ℤ)) (level index page : ℕ) → page ≢ 0
    → IsTree image total list (suc level) index page → IsThere image total list level index page
there image total list level index page some (inl (none, empty)) = absurd (some none)
there image total list level index page some (inr (is, low, stored, nodes, children)) = record {
  stored = stored;
  nodes = nodes;
  children = children;
}

-- the page is read
pub read_nodes : (count : ℕ) (image : Image) (s : Superblock) (list list' : List (Option ℤ)) (height level index page : ℕ)
    (top : Option Span) (others : List ℕ) → page ≢ 0 → is_new_root height (suc level) index ≡ false
    → IsPlaced count image s list list' height (suc level) index page top others
    → HoldsNodes list (suc level) index (image page) × IsSome top
read_nodes count image s list list' height level index page top others some low_is placed =
    let whole = rooted_whole image s.total list height (suc level) index page some low_is placed.rooted in
    let page_is = there image s.total list level index page some whole.1 in
    let S : Option Span → Type 0 = λ t. IsSome t in
    (page_is.nodes, subst S (sym placed.top_is) page_is.stored)

pub child_below : (image : Image) (total : ℕ) (list : List (Option ℤ)) (level index page : ℕ) → 0 < total
    → IsTree image total list level index page → page < total
child_below image total list zero index page some tree = omega (arith, some, tree)
child_below image total list (suc level) index page some (inl (none, empty)) = omega (arith, some, none)
child_below image total list (suc level) index page some (inr (is, low, stored, nodes, children)) = low

pub read_below : (count : ℕ) (image : Image) (s : Superblock) (list list' : List (Option ℤ)) (height level index page : ℕ)
    (top : Option Span) (others : List ℕ) → page ≢ 0 → is_new_root height (suc level) index ≡ false → 0 < s.total
    → IsPlaced count image s list list' height (suc level) index page top others → (child : ℕ) → child < 128
    → child_at (image page) child < s.total
read_below count image s list list' height level index page top others some low_is positive placed child within =
    let whole = rooted_whole image s.total list height (suc level) index page some low_is placed.rooted in
    child_below image s.total list level (128 * index + child) (child_at (image page) child) positive
    ((there image s.total list level index page some whole.1).children child within)

pub open_read : (count : ℕ) (image : Image) (s : Superblock) (list list' : List (Option ℤ)) (height level index page : ℕ)
    (top : Option Span) (tops : ℕ → Option Span) (others : List ℕ) (bytes : List ℕ) → page ≢ 0
    → is_new_root height (suc level) index ≡ false
    → IsPlaced count image s list list' height (suc level) index page top others → bytes ≡ image page → AreTops list level index tops
    → IsPartWay count image image s list list' height level index page bytes tops 0 others
open_read count image s list list' height level index page top tops others bytes some low_is placed read tops_are =
    let whole = rooted_whole image s.total list height (suc level) index page some low_is placed.rooted in
    let page_is = there image s.total list level index page some whole.1 in
    let fits : level ≤ height = omega (arith, whole.0) in
    record {
      done = λ c none. absurd (omega (arith, none));
      left = λ c high within.
          let P : List ℕ → Type 0 = λ b. IsRooted image s.total list height level (128 * index + c) (child_at b c) in
          subst P (sym read) (inl (record { fits = inl fits; tree = page_is.children c within }));
      tops_done = λ c none. absurd (omega (arith, none));
      tops_left = λ c high within. tops_are c within;
      freed = placed.freed;
      stands = same_pages count image s (tree_pages image (low height (suc level)) page ++ others)
          (page ∷ (part image height level bytes 0 128 ++ others)) placed.freed placed.stands (λ p.
          ap (λ l. times p (tree_pages image l page ++ others)) (low_fits height (suc level) whole.0)
          ∙ ap (λ l. times p (l ++ others)) (own_pages image level page some
          ∙ ap (λ l. page ∷ l) (join_same (λ child. tree_pages image level (child_at (image page) child))
          (piece image height level bytes 0) 128
          (λ c within. sym (piece_left image height level bytes 0 c (omega arith)
          ∙ ap (λ l. tree_pages image l (child_at bytes c)) (low_fits height level fits)
          ∙ ap (λ b. tree_pages image level (child_at b c)) read)))));
      same = λ p is. refl;
      roomy = children_room list list' level index s.total others
          (either_first (is_stored list (suc level) index) (is_stored list' (suc level) index)
          (stored_is (span list (top_of_page (suc level) index)) page_is.stored)) placed.roomy;
    }

-- pages behind the catalog
taken_some : (count : ℕ) (image : Image) (s : Superblock) (used freed : List ℕ) (p : ℕ) → Stands count image s used freed → 0 < times p used
    → 0 < p
taken_some count image s used freed p stands is = elim (cases_lt p 17) [
  | inl low ↦ absurd (omega (arith, is, stands.parted p, once_low s.fresh p low))
  | inr high ↦ omega (arith, high)
]

powers : (a b : ℕ) → a ≤ b → 2 ^ a ≤ 2 ^ b
powers a b less = pow-le-pow_right (omega arith) less

-- Nothing is stored in a part behind the list's end.
past_none : (list : List (Option ℤ)) (height level child : ℕ) → length list ≤ 2 ^ (7 * height) → height ≤ level → 0 < child
    → span list (top_of_page level child) ≡ None
past_none list height level child within fits some =
    let wide : 2 ^ (7 * height) ≤ 2 ^ (7 * level) = powers (7 * height) (7 * level) (omega (arith, fits)) in
    let start : 1 * 2 ^ (7 * level) ≤ child * 2 ^ (7 * level) = mul-le-mul_right {m = 1} {n = child} (2 ^ (7 * level))
    (omega (arith, some)) in
    clear-none list (first_slot (top_of_page level child)) (end_slot (top_of_page level child))
    (λ i v low high holds. omega (arith, low, within, wide, start, slice_get_within list i (Some v) holds))

-- the root of a new page, or of one above a lower tree
pub record IsFirst (image : Image) (total : ℕ) (list : List (Option ℤ)) (height level index page : ℕ) (top : Option Span) : Type 0 where
  pub first : IsRooted image total list height level (128 * index + 0) page
  pub first_top : top ≡ span list (top_of_page level (128 * index + 0))
  pub others : (child : ℕ) → 0 < child → child < 128 → span list (top_of_page level (128 * index + child)) ≡ None
  pub pages : tree_pages image (low height (suc level)) page ≡ tree_pages image (low height level) page

pub none_rooted : (image : Image) (total : ℕ) (list : List (Option ℤ)) (height level index page : ℕ) → page ≡ 0
    → span list (top_of_page level index) ≡ None → IsRooted image total list height level index page
none_rooted image total list height zero index page none empty = inl (record { fits = inr none; tree = none })
none_rooted image total list height (suc level) index page none empty = inl (record { fits = inr none; tree = inl (none, empty) })

pub first_none : (image : Image) (total : ℕ) (list : List (Option ℤ)) (height level index page : ℕ) (top : Option Span) → page ≡ 0
    → top ≡ span list (top_of_page (suc level) index) → span list (top_of_page (suc level) index) ≡ None
    → IsFirst image total list height level index page top
first_none image total list height level index page top none top_is empty =
    let part : (child : ℕ) → child < 128 → span list (top_of_page level (128 * index + child)) ≡ None
    = λ child within. part_none list (first_slot (top_of_page (suc level) index)) (end_slot (top_of_page (suc level) index))
    (first_slot (top_of_page level (128 * index + child))) (end_slot (top_of_page level (128 * index + child)))
    (child_first level index child) (child_end level index child within) empty in
    record {
      first = none_rooted image total list height level (128 * index + 0) page none (part 0 (omega arith));
      first_top = top_is ∙ empty ∙ sym (part 0 (omega arith));
      others = λ child some within. part child within;
      pages = no_pages image (low height (suc level)) page none ∙ sym (no_pages image (low height level) page none);
    }

pub first_lower : (image : Image) (total : ℕ) (list : List (Option ℤ)) (height level index page : ℕ) (top : Option Span)
    → IsLower image total list height (suc level) index page → top ≡ span list (top_of_page (suc level) index)
    → IsFirst image total list height level index page top
first_lower image total list height level index page top lower top_is =
    let fits : height ≤ level = omega (arith, lower.above) in
    let zero_is : 128 * index + 0 ≡ 0 = omega (arith, lower.first) in
    let wide : 2 ^ (7 * height) ≤ 2 ^ (7 * level) = powers (7 * height) (7 * level) (omega (arith, fits)) in
    let wider : 2 ^ (7 * level) ≤ 2 ^ (7 * suc level) = powers (7 * level) (7 * suc level) (omega arith) in
    let whole : (l : ℕ) → length list ≤ 2 ^ (7 * l) → span list (top_of_page l 0) ≡ span_of list
    = λ l long. ap₂ (λ a b. span_over list a b) (omega arith) (omega arith) ∙ span_over-all list (2 ^ (7 * l)) long in
    record {
      first = elim (cases_lt height level) [
        | inl above ↦ inr (record { above = above; some = lower.some; first = zero_is; within = lower.within; tree = lower.tree })
        | inr at ↦
            let same : height ≡ level = omega (arith, fits, at) in
            let P : ℕ → ℕ → Type 0 = λ l q. IsTree image total list l q page in
            let here : IsTree image total list level 0 page = subst (λ l. P l 0) same lower.tree in
            inl (record { fits = inl at; tree = subst (λ q. P level q) (sym zero_is) here })
      ];
      first_top = top_is ∙ ap (λ q. span list (top_of_page (suc level) q)) lower.first
          ∙ whole (suc level) (omega (arith, lower.within, wide, wider)) ∙ sym (whole level (omega (arith, lower.within, wide)))
          ∙ ap (λ q. span list (top_of_page level q)) (sym zero_is);
      others = λ child some within. past_none list height level (128 * index + child) lower.within fits (omega (arith, some));
      pages = ap (λ l. tree_pages image l page) (low_above height (suc level) lower.above)
          ∙ ap (λ l. tree_pages image l page) (sym (low_again height level fits));
    }
  where
    low_again : (height level : ℕ) → height ≤ level → low height level ≡ height
    low_again height level fits = elim (cases_lt height level) [
      | inl above ↦ low_above height level above
      | inr at ↦ low_fits height level at ∙ omega (arith, fits, at)
    ]

pub root_above : (height level index : ℕ) → is_new_root height level index ≡ true → height < level
unfolding is_new_root
root_above height level index is = elim (cases_lt height level) [
  | inl above ↦ above
  | inr fits ↦ absurd (none (eqb index 0) (ltb height level) (le-ltb height level fits) is)
]
  where
    none : (a b : Bool) → b ≡ false → a && b ≡ true → ⊥
    none a b low both = grind (arith, low, both)

pub lower_of : (image : Image) (total : ℕ) (list : List (Option ℤ)) (height level index page : ℕ) → page ≢ 0 → height < level
    → IsRooted image total list height level index page → IsLower image total list height level index page
lower_of image total list height level index page some above (inl whole) = elim whole.fits [
  | inl fits ↦ absurd (omega (arith, fits, above))
  | inr none ↦ absurd (some none)
]
lower_of image total list height level index page some above (inr lower) = lower

-- what a new page begins with
pub record IsNew (image : Image) (total : ℕ) (list list' : List (Option ℤ)) (height level index page : ℕ) (top : Option Span) : Type 0 where
  pub first : IsFirst image total list height level index page top
  pub stored : is_stored_in_either list list' (suc level) index ≡ true

pub new_first : (count : ℕ) (image : Image) (s : Superblock) (list list' : List (Option ℤ)) (height level index page : ℕ)
    (top : Option Span) (others : List ℕ) → IsPlaced count image s list list' height (suc level) index page top others
    → (page ≡ 0) ⊎ (is_new_root height (suc level) index ≡ true) → (page ≡ 0 → is_stored list' (suc level) index ≡ true)
    → IsNew image s.total list list' height level index page top
new_first count image s list list' height level index page top others placed new gives = elim (eqb_tells page 0) [
  | inl is ↦
      record {
        first = first_none image s.total list height level index page top is.1 placed.top_is
            (rooted_none image s.total list height level index page is.1 placed.rooted);
        stored = either_right (is_stored list (suc level) index) (is_stored list' (suc level) index) (gives is.1);
      }
  | inr is ↦
      let above : height < suc level = elim new [
        | inl none ↦ absurd (is.1 none)
        | inr root ↦ root_above height (suc level) index root
      ] in
      let lower = lower_of image s.total list height (suc level) index page is.1 above placed.rooted in
      let up = (lower_up image s.total list height (suc level) page is.1 (omega (arith, above)) lower.tree).0 in
      record {
        first = first_lower image s.total list height level index page top lower placed.top_is;
        stored = either_first (is_stored list (suc level) index) (is_stored list' (suc level) index)
            (ap (λ q. is_stored list (suc level) q) lower.first ∙ up);
      }
]

-- a new page is taken
pub open_new : (count : ℕ) (before image : Image) (s s' : Superblock) (list list' : List (Option ℤ)) (height level index page number : ℕ)
    (top : Option Span) (tops : ℕ → Option Span) (others : List ℕ) (bytes : List ℕ)
    → IsPlaced count before s list list' height (suc level) index page top others
    → IsNew before s.total list list' height level index page top → s'.total ≡ s.total
    → IsTaken count before image s' (tree_pages before (low height (suc level)) page ++ others) number
    → child_at bytes 0 ≡ page → ((c : ℕ) → 0 < c → c < 128 → child_at bytes c ≡ 0) → tops 0 ≡ top
    → ((c : ℕ) → 0 < c → c < 128 → tops c ≡ None)
    → IsPartWay count before image s' list list' height level index number bytes tops 0 others
open_new count before image s s' list list' height level index page number top tops others bytes placed new total taken first_is none_are
    top_is no_tops =
    let first = new.first in
    let used : (p : ℕ) → 0 < times p (tree_pages before (low height (suc level)) page ++ others) → 0 < p
    = λ p is. taken_some count before s (tree_pages before (low height (suc level)) page ++ others) placed.freed p placed.stands is in
    let kept : (p : ℕ) → 0 < times p (tree_pages before (low height level) page) → image p ≡ before p
    = λ p is. taken.same p (used p (omega (
      arith,
      is,
      ap (λ l. times p l) first.pages,
      times_append p (tree_pages before (low height (suc level)) page) others,
    ))) in
    let same : SameOn others before image = λ p is. taken.same p
    (used p (omega (arith, is, times_append p (tree_pages before (low height (suc level)) page) others))) in
    record {
      done = λ c none. absurd (omega (arith, none));
      left = λ c high within. elim (cases_lt 0 c) [
        | inl some ↦
            let P : ℕ → Type 0 = λ p. IsRooted image s'.total list height level (128 * index + c) p in
            subst P (sym (none_are c some within)) (none_rooted image s'.total list height level (128 * index + c) 0 refl
            (first.others c some within))
        | inr none ↦
            let zero_is : 0 ≡ c = omega (arith, none) in
            let P : ℕ → Type 0 = λ at. IsRooted image s'.total list height level (128 * index + at) (child_at bytes at) in
            let Q : ℕ → Type 0 = λ t. IsRooted image t list height level (128 * index + 0) page in
            let R : ℕ → Type 0 = λ p. IsRooted image s'.total list height level (128 * index + 0) p in
            subst P zero_is (subst R (sym first_is)
            (subst Q (sym total) (rooted_frame before image s.total list height level (128 * index + 0) page kept first.first)))
      ];
      tops_done = λ c none. absurd (omega (arith, none));
      tops_left = λ c high within. elim (cases_lt 0 c) [
        | inl some ↦ no_tops c some within ∙ sym (first.others c some within)
        | inr none ↦
            let zero_is : 0 ≡ c = omega (arith, none) in
            let P : ℕ → Type 0 = λ at. tops at ≡ span list (top_of_page level (128 * index + at)) in
            subst P zero_is (top_is ∙ first.first_top)
      ];
      freed = taken.freed;
      stands = same_pages count image s' (number ∷ (tree_pages before (low height (suc level)) page ++ others))
          (number ∷ (part image height level bytes 0 128 ++ others)) taken.freed taken.stands (λ p.
          let nothing : ℕ → List ℕ = λ c. [] in
          let swap = times_swap p (piece image height level bytes 0) nothing 0 128 (omega arith) (λ c within apart.
          sym (piece_left image height level bytes 0 c (omega arith)
          ∙ no_pages image (low height level) (child_at bytes c) (none_are c (positive c apart) within))) in
          let own = piece_left image height level bytes 0 0 (omega arith) ∙ ap (λ q. tree_pages image (low height level) q) first_is
          ∙ pages_frame before image (low height level) page kept ∙ sym first.pages in
          let part_is : times p (part image height level bytes 0 128) ≡ times p (tree_pages before (low height (suc level)) page)
          = omega (arith, swap, ap (λ l. times p l) own, ap (λ l. times p l) (join_none nothing 128 (λ c low. refl))) in
          let whole : times p (tree_pages before (low height (suc level)) page ++ others) ≡ times p
          (part image height level bytes 0 128 ++ others)
          = omega (
            arith,
            part_is,
            times_append p (tree_pages before (low height (suc level)) page) others,
            times_append p (part image height level bytes 0 128) others,
          ) in
          omega (
            arith,
            whole,
            times_shift p number (tree_pages before (low height (suc level)) page ++ others)
                (part image height level bytes 0 128 ++ others),
          ));
      same = same;
      roomy = omega (arith, total, children_room list list' level index s.total others new.stored placed.roomy);
    }
  where
    positive : (c : ℕ) → c ≢ 0 → 0 < c
    positive c some = elim (cases_lt 0 c) [
      | inl is ↦ is
      | inr none ↦ absurd (some (omega (arith, none)))
    ]

-- the same at a page level that is one more than the children's
pub open_read_at : (count : ℕ) (image : Image) (s : Superblock) (list list' : List (Option ℤ)) (height level below index page : ℕ)
    (top : Option Span) (tops : ℕ → Option Span) (others : List ℕ) (bytes : List ℕ) → level ≡ suc below → page ≢ 0
    → is_new_root height level index ≡ false
    → IsPlaced count image s list list' height level index page top others → bytes ≡ image page
    → (HoldsNodes list level index (image page) → top ≡ span list (top_of_page level index) → AreTops list below index tops)
    → IsPartWay count image image s list list' height below index page bytes tops 0 others
open_read_at count image s list list' height level below index page top tops others bytes is some old placed read tops_are =
    let P : ℕ → Type 0 = λ l. IsPlaced count image s list list' height l index page top others in
    let N : ℕ → Type 0 = λ l. is_new_root height l index ≡ false in
    let T : ℕ → Type 0 = λ l. HoldsNodes list l index (image page) → top ≡ span list (top_of_page l index)
    → AreTops list below index tops in
    let placed' = subst P is placed in
    let old' = subst N is old in
    open_read count image s list list' height below index page top tops others bytes some old' placed' read
    (subst T is tops_are (read_nodes count image s list list' height below index page top others some old' placed').0 placed'.top_is)

pub record IsReadable (image : Image) (s : Superblock) (list : List (Option ℤ)) (level index page : ℕ) (top : Option Span) : Type 0 where
  pub nodes : HoldsNodes list level index (image page)
  pub top_is : top ≡ span list (top_of_page level index)
  pub some : IsSome top
  pub below : (child : ℕ) → child < 128 → child_at (image page) child < s.total

pub readable_at : (count : ℕ) (image : Image) (s : Superblock) (list list' : List (Option ℤ)) (height level below index page : ℕ)
    (top : Option Span) (others : List ℕ) → level ≡ suc below → page ≢ 0 → is_new_root height level index ≡ false → 0 < s.total
    → IsPlaced count image s list list' height level index page top others → IsReadable image s list level index page top
readable_at count image s list list' height level below index page top others is some old positive placed =
    let P : ℕ → Type 0 = λ l. IsPlaced count image s list list' height l index page top others in
    let N : ℕ → Type 0 = λ l. is_new_root height l index ≡ false in
    let R : ℕ → Type 0 = λ l. IsReadable image s list l index page top in
    let placed' = subst P is placed in
    let old' = subst N is old in
    let nodes = read_nodes count image s list list' height below index page top others some old' placed' in
    subst R (sym is) (record {
      nodes = nodes.0;
      top_is = placed'.top_is;
      some = nodes.1;
      below = read_below count image s list list' height below index page top others some old' positive placed';
    })

pub open_new_at : (count : ℕ) (before image : Image) (s s' : Superblock) (list list' : List (Option ℤ))
    (height level below index page number : ℕ) (top : Option Span) (tops : ℕ → Option Span) (others : List ℕ) (bytes : List ℕ)
    → level ≡ suc below
    → IsPlaced count before s list list' height level index page top others → (page ≡ 0) ⊎ (is_new_root height level index ≡ true)
    → (page ≡ 0 → is_stored list' level index ≡ true) → s'.total ≡ s.total
    → IsTaken count before image s' (tree_pages before (low height level) page ++ others) number
    → child_at bytes 0 ≡ page → ((c : ℕ) → 0 < c → c < 128 → child_at bytes c ≡ 0) → tops 0 ≡ top → ((c : ℕ) → 0 < c → tops c ≡ None)
    → IsPartWay count before image s' list list' height below index number bytes tops 0 others
open_new_at count before image s s' list list' height level below index page number top tops others bytes is placed new gives total taken
    first none top_is no_tops =
    let P : ℕ → Type 0 = λ l. IsPlaced count before s list list' height l index page top others in
    let N : ℕ → Type 0 = λ l. (page ≡ 0) ⊎ (is_new_root height l index ≡ true) in
    let G : ℕ → Type 0 = λ l. page ≡ 0 → is_stored list' l index ≡ true in
    let T : ℕ → Type 0 = λ l. IsTaken count before image s' (tree_pages before (low height l) page ++ others) number in
    let placed' = subst P is placed in
    open_new count before image s s' list list' height below index page number top tops others bytes placed'
    (new_first count before s list list' height below index page top others placed' (subst N is new) (subst G is gives)) total
    (subst T is taken) first none top_is (λ c some within. no_tops c some)

-- there is a page to be taken
pub room_at : (count : ℕ) (before : Image) (s : Superblock) (list list' : List (Option ℤ)) (height level below index page : ℕ)
    (top : Option Span) (others : List ℕ) → level ≡ suc below
    → IsPlaced count before s list list' height level index page top others → (page ≡ 0) ⊎ (is_new_root height level index ≡ true)
    → (page ≡ 0 → is_stored list' level index ≡ true)
    → 18 + length (tree_pages before (low height level) page ++ others) ≤ s.total
room_at count before s list list' height level below index page top others is placed new gives =
    let P : ℕ → Type 0 = λ l. IsPlaced count before s list list' height l index page top others in
    let N : ℕ → Type 0 = λ l. (page ≡ 0) ⊎ (is_new_root height l index ≡ true) in
    let G : ℕ → Type 0 = λ l. page ≡ 0 → is_stored list' l index ≡ true in
    let R : ℕ → Type 0 = λ l. 18 + length (tree_pages before (low height l) page ++ others) ≤ s.total in
    let placed' = subst P is placed in
    let first = new_first count before s list list' height below index page top others placed' (subst N is new) (subst G is gives) in
    let sum = sum_upto (λ child. count_where (is_stored_in_either list list') below (128 * index + child)) 0 128 (omega arith) in
    subst R (sym is) (omega (
      arith,
      placed'.roomy,
      count_one (is_stored_in_either list list') below index first.stored,
      sum,
      length-append (tree_pages before (low height (suc below)) page) others,
      ap (λ l. length l) first.first.pages,
      rooted_length before s.total list list' height below (128 * index + 0) page first.first.first,
    ))
