-- A tree before and after a change.
use Rattle.std.proofs.Common.{◌≡◌, ℕ, ℤ, zero, suc, ◌+◌, ◌*◌, ◌^◌, ◌<◌, ◌≤◌, ◌++◌, ◌∷◌, ◌||◌, Bool, true, false, List, [], length}
use Rattle.std.proofs.Common.{slice_get, Option, None, Some, refl, sym, ap, ap₂, subst, arith, inl, inr, ◌∙◌}
use Rattle.std.proofs.lemmas.Bool.{cases_lt}
use Rattle.std.proofs.lemmas.Bool.Decides.{eqb_tells, nat_tests}
use Rattle.std.proofs.lemmas.List.{length-append}
use Rattle.std.proofs.Math.Nat.{pow-le-pow_right}
use Rattle.block_disk.specs.View.{Image}
use Rattle.om3_coeff.specs.declared.span.Span.{Span}
use Rattle.om3_coeff.specs.Keys.{page_levels, first_slot, end_slot}
use Rattle.om3_coeff.specs.Spans.{span, span_over, span_of}
use Rattle.whole_number.specs.Range.{IsValue}
use Rattle.om3_coeff.proofs.SpanLemmas.{span_over-all}
use Rattle.om3_coeff.proofs.KeyLemmas.{height_covers, height_few, height_some}
use Rattle.page_space.specs.Layout.{in_use}
use Rattle.page_space.specs.declared.superblock.Superblock.{Superblock}
use Rattle.page_space.specs.Spaces.{Stands, times}
use Rattle.page_space.proofs.Spacing.{stands_used}
use Rattle.tree_walk.specs.declared.tree.Tree.{Tree}
use Rattle.tree_walk.specs.Trees.{top_of_page, IsTree, StandsFor}
use Rattle.path_repair.specs.Changes.{IsEdited, IsChanged}
use Rattle.path_repair.specs.TreePages.{tree_pages, low, count_where, is_stored, is_stored_in_either, page_count, IsRooted}
use Rattle.path_repair.specs.Standing.{AreLists, IsPlaced, IsRepaired}
use Rattle.path_repair.specs.Edited.{IsHeldTree, IsEditedTree, IsFullFor, IsErrorFor}
use Rattle.page_space.specs.declared.txn.Txn.{Txn}
use Rattle.path_repair.specs.declared.errors.RepairError.{RepairError}
use Rattle.path_repair.specs.declared.errors.RepairError.TheVariants.{DiskFault}
use Rattle.path_repair.proofs.TreeLemmas.{low_fits, low_above}
use Rattle.path_repair.proofs.CountLemmas.{truth, none_of, none_is, count_le, pages_length}
use Rattle.path_repair.proofs.StayLemmas.{same_pages, still_none}
use Rattle.path_repair.proofs.OpenLemmas.{none_rooted}
use Rattle.path_repair.proofs.SeenLemmas.{stored_stays}

pub levels_more : (a b : ℕ) → a ≤ b → page_levels a ≤ page_levels b
unfolding page_levels
levels_more a b less = grind (arith, nat_tests, less)

pub levels_few : (n : ℕ) → page_levels n ≤ 5
levels_few n = omega (arith, height_few n)

pub levels_some : (n : ℕ) → 1 ≤ page_levels n
levels_some n = omega (arith, height_some n)

-- the whole tree's range is small
pub top_small : (n : ℕ) → end_slot (top_of_page (page_levels n) 0) ≤ 2 ^ 35
top_small n = omega (arith, pow-le-pow_right {n = 2} (omega arith) {i = 7 * page_levels n} {j = 35} (omega (arith, levels_few n)))

-- the span of the whole list, at each page level that holds it
top_whole : (list : List (Option ℤ)) (k : ℕ) → length list ≤ 2 ^ (7 * k) → span list (top_of_page k 0) ≡ span_of list
top_whole list k long = ap₂ (λ a b. span_over list a b) (omega arith) (omega arith) ∙ span_over-all list (2 ^ (7 * k)) long

-- the root of a tree that is to grow
pub root_for : (image : Image) (total : ℕ) (tree : Tree) (list : List (Option ℤ)) (len : ℕ) → StandsFor image total tree list
    → tree.slots ≤ len → len ≤ 2 ^ 35 → IsRooted image total list (page_levels tree.slots) (page_levels len) 0 tree.root
root_for image total tree list len stands less few =
    let up : page_levels tree.slots ≤ page_levels len = levels_more tree.slots len less in
    let I : ℕ → Type 0 = λ n. IsTree image total list (page_levels n) 0 tree.root in
    let here : IsTree image total list (page_levels tree.slots) 0 tree.root = subst I (sym stands.slots) stands.pages in
    let long : length list ≤ 2 ^ (7 * page_levels tree.slots) = omega (
      arith,
      stands.slots,
      height_covers tree.slots (omega (arith, stands.few, stands.slots)),
    ) in
    elim (cases_lt (page_levels tree.slots) (page_levels len)) [
      | inr same ↦
          let at : page_levels tree.slots ≡ page_levels len = omega (arith, up, same) in
          inl (record { fits = inl same; tree = subst (λ l. IsTree image total list l 0 tree.root) at here })
      | inl above ↦ elim (eqb_tells tree.root 0) [
        | inl none ↦
            let longer : length list ≤ 2 ^ (7 * page_levels len) = omega (arith, less, stands.slots, height_covers len few) in
            let empty : span list (top_of_page (page_levels tree.slots) 0) ≡ None = root_none image total list
            (page_levels tree.slots) tree.root (levels_some tree.slots) none.1 here in
            none_rooted image total list (page_levels tree.slots) (page_levels len) 0 tree.root none.1
            (top_whole list (page_levels len) longer ∙ sym (top_whole list (page_levels tree.slots) long) ∙ empty)
        | inr some ↦ inr (record { above = above; some = some.1; first = refl; within = long; tree = here })
      ]
    ]
  where
    root_none : (image : Image) (total : ℕ) (list : List (Option ℤ)) (level page : ℕ) → 1 ≤ level → page ≡ 0
        → IsTree image total list level 0 page → span list (top_of_page level 0) ≡ None
    root_none image total list zero page low none tree = absurd (omega (arith, low))
    root_none image total list (suc level) page low none (inl (is, empty)) = empty
    root_none image total list (suc level) page low none (inr (some, below, stored, nodes, children)) = absurd (some none)

pub root_top : (image : Image) (total : ℕ) (tree : Tree) (list : List (Option ℤ)) (len : ℕ) → StandsFor image total tree list
    → tree.slots ≤ len → len ≤ 2 ^ 35 → tree.span ≡ span list (top_of_page (page_levels len) 0)
root_top image total tree list len stands less few =
    let long : length list ≤ 2 ^ (7 * page_levels (length list)) = height_covers (length list) stands.few in
    let longer : length list ≤ 2 ^ (7 * page_levels len) = omega (arith, less, stands.slots, height_covers len few) in
    stands.root_span ∙ top_whole list (page_levels (length list)) long ∙ sym (top_whole list (page_levels len) longer)

low_same : (a b : ℕ) → a ≤ b → low a b ≡ a
low_same a b less = elim (cases_lt a b) [
  | inl above ↦ low_above a b above
  | inr same ↦ low_fits a b same ∙ omega (arith, less, same)
]

pub lists_of : (first end len : ℕ) (values list list' : List (Option ℤ)) → IsEdited first end len values list list'
    → AreLists first end values list list'
lists_of first end len values list list' edited = record {
  old_values = edited.old_values;
  new_values = edited.new_values;
  changed = edited.slots_are;
}

-- where no slot is cleared, the changed list needs all pages
either_new : (first end : ℕ) (values list list' : List (Option ℤ)) (level index : ℕ) → IsChanged first end values list list'
    → end ≤ first + length values
    → count_where (is_stored_in_either list list') level index ≤ page_count list' level index
either_new first end values list list' level index changed fills = count_le (is_stored_in_either list list') (is_stored list') level index
    (λ l q is. elim (truth (is_stored list l q)) [
      | inl old ↦ stored_stays first end values list list' l q changed fills old
      | inr none ↦ the_other (is_stored list l q) (is_stored list' l q) none is
    ])
  where
    the_other : (a b : Bool) → a ≡ false → a || b ≡ true → b ≡ true
    the_other a b none is = grind (arith, none, is)

pub placed_for : (count : ℕ) (image : Image) (s : Superblock) (tree : Tree) (first end len more : ℕ) (values list list' : List (Option ℤ))
    (others : List ℕ) → IsHeldTree count image s tree list others → IsEdited first end len values list list' → tree.slots ≤ len
    → len ≤ 2 ^ 35 → end ≤ first + length values
    → more + length (tree_pages image (low (page_levels tree.slots) (page_levels len)) tree.root) ≡ page_count list' (page_levels len) 0
    → in_use s + more ≤ s.total
    → IsPlaced count image s list list' (page_levels tree.slots) (page_levels len) 0 tree.root tree.span others
placed_for count image s tree first end len more values list list' others holds edited less few fills counted room =
    let height = page_levels tree.slots in
    let level = page_levels len in
    let same : low height level ≡ height = low_same height level (levels_more tree.slots len less) in
    record {
      rooted = root_for image s.total tree list len holds.is_tree less few;
      top_is = root_top image s.total tree list len holds.is_tree less few;
      freed = holds.freed;
      stands = same_pages count image s (tree_pages image height tree.root ++ others)
          (tree_pages image (low height level) tree.root ++ others) holds.freed holds.stands
          (λ p. ap (λ l. times p (tree_pages image l tree.root ++ others)) (sym same));
      roomy = omega (
        arith,
        either_new first end values list list' level 0 edited.slots_are fills,
        counted,
        room,
        stands_used count image s (tree_pages image height tree.root ++ others) holds.freed holds.stands,
        length-append (tree_pages image height tree.root) others,
        ap (λ l. length (tree_pages image l tree.root)) same,
      );
    }

pub edited_for : (count : ℕ) (before image : Image) (s : Superblock) (first end len root : ℕ) (top : Option Span) (new : Tree)
    (values list list' : List (Option ℤ)) (others : List ℕ) → IsEdited first end len values list list' → len ≤ 2 ^ 35
    → IsRepaired count before image s list' (page_levels len) 0 root top others → new.slots ≡ len → new.root ≡ root → new.span ≡ top
    → IsEditedTree count before image s new list' others
edited_for count before image s first end len root top new values list list' others edited few repaired slots_is root_is span_is =
    let L : ℕ → Type 0 = λ n. IsTree image s.total list' (page_levels n) 0 root in
    let R : ℕ → Type 0 = λ r. IsTree image s.total list' (page_levels (length list')) 0 r in
    let S : ℕ → Type 0 = λ n. Stands count image s (tree_pages image (page_levels n) root ++ others) repaired.freed in
    let Q : ℕ → Type 0 = λ r. Stands count image s (tree_pages image (page_levels new.slots) r ++ others) repaired.freed in
    record {
      holds = record {
        is_tree = record {
          values = edited.new_values;
          few = omega (arith, few, edited.length_is);
          slots = slots_is ∙ sym edited.length_is;
          root_span = span_is ∙ repaired.top_is ∙ ap (λ n. span list' (top_of_page (page_levels n) 0)) (sym edited.length_is);
          pages = subst R (sym root_is) (subst L (sym edited.length_is) repaired.tree);
        };
        freed = repaired.freed;
        stands = subst Q (sym root_is) (subst S (sym slots_is) repaired.stands);
      };
      others_same = repaired.same;
    }

pub full_for : (count : ℕ) (image : Image) (s : Superblock) (tree : Tree) (first end len more needed have : ℕ)
    (values list list' : List (Option ℤ)) (others : List ℕ) → IsHeldTree count image s tree list others
    → IsEdited first end len values list list' → tree.slots ≤ len
    → more + length (tree_pages image (low (page_levels tree.slots) (page_levels len)) tree.root) ≡ page_count list' (page_levels len) 0
    → needed ≡ in_use s + more → have ≡ s.total → have < needed
    → IsFullFor s.total (in_use s) list list' needed have
full_for count image s tree first end len more needed have values list list' others holds edited less counted needs has full =
    let same : low (page_levels tree.slots) (page_levels len) ≡ page_levels tree.slots = low_same (page_levels tree.slots) (page_levels len)
    (levels_more tree.slots len less) in
    let old = pages_length image s.total list (page_levels (length list)) 0 tree.root holds.is_tree.pages in
    record {
      needs = omega (
        arith,
        counted,
        needs,
        old,
        ap (λ n. length (tree_pages image (page_levels n) tree.root)) holds.is_tree.slots,
        ap (λ l. length (tree_pages image l tree.root)) same,
        ap (λ n. page_count list' (page_levels n) 0) edited.length_is,
      );
      has = has;
      more = omega (arith, has, full);
    }

pub one_value : (value : ℤ) (i : ℕ) (v : ℤ) → IsValue value → slice_get (Some value ∷ []) i ≡ Some (Some v) → IsValue v
one_value value zero v fits is = subst (λ w. IsValue w) (some_is value v is) fits
  where
    some_is : (a b : ℤ) → Some (Some a) ≡ Some (Some b) → a ≡ b
    some_is a b is = grind (arith, is)
one_value value (suc i) v fits is = absurd (grind (arith, is))

-- a clear needs no page
pub cleared_for : (count : ℕ) (image : Image) (s : Superblock) (tree : Tree) (first end : ℕ) (list list' : List (Option ℤ))
    (others : List ℕ) → IsHeldTree count image s tree list others → IsEdited first end tree.slots [] list list' → tree.slots ≤ 2 ^ 35
    → ((l q : ℕ) → is_stored list' l q ≡ true → is_stored list l q ≡ true)
    → IsPlaced count image s list list' (page_levels tree.slots) (page_levels tree.slots) 0 tree.root tree.span others
cleared_for count image s tree first end list list' others holds edited few fewer =
    let level = page_levels tree.slots in
    let same : low level level ≡ level = low_fits level level (omega arith) in
    let pages : length (tree_pages image level tree.root) ≡ page_count list level
    0 = ap (λ n. length (tree_pages image (page_levels n) tree.root)) holds.is_tree.slots
    ∙ pages_length image s.total list (page_levels (length list)) 0 tree.root holds.is_tree.pages
    ∙ ap (λ n. page_count list (page_levels n) 0) (sym holds.is_tree.slots) in
    let most = count_le (is_stored_in_either list list') (is_stored list) level 0 (λ l q is. elim (truth (is_stored list l q)) [
      | inl old ↦ old
      | inr none ↦ fewer l q (the_other (is_stored list l q) (is_stored list' l q) none is)
    ]) in
    record {
      rooted = root_for image s.total tree list tree.slots holds.is_tree (omega arith) few;
      top_is = root_top image s.total tree list tree.slots holds.is_tree (omega arith) few;
      freed = holds.freed;
      stands = same_pages count image s (tree_pages image level tree.root ++ others)
          (tree_pages image (low level level) tree.root ++ others) holds.freed holds.stands
          (λ p. ap (λ l. times p (tree_pages image l tree.root ++ others)) (sym same));
      roomy = omega (
        arith,
        most,
        pages,
        stands_used count image s (tree_pages image level tree.root ++ others) holds.freed holds.stands,
        length-append (tree_pages image level tree.root) others,
        holds.stands.rules.fresh_high,
      );
    }
  where
    the_other : (a b : Bool) → a ≡ false → a || b ≡ true → b ≡ true
    the_other a b none is = grind (arith, none, is)

pub disk_error : (old new : Txn) (list list' : List (Option ℤ)) (e : RepairError) → e ≡ DiskFault → IsErrorFor old new list list' e
disk_error old new list list' e is =
    let P : RepairError → Type 0 = λ x. IsErrorFor old new list list' x in
    subst P (sym is) tt

-- a clear stores nothing
pub cleared_fewer : (first end : ℕ) (list list' : List (Option ℤ)) → IsChanged first end [] list list' → (l q : ℕ)
    → is_stored list' l q ≡ true → is_stored list l q ≡ true
cleared_fewer first end list list' changed l q is = elim (truth (is_stored list l q)) [
  | inl there ↦ there
  | inr none ↦
      let a = first_slot (top_of_page l q) in
      let b = end_slot (top_of_page l q) in
      let empty : span list' (top_of_page l q) ≡ None = still_none first end [] list list' a b changed
      (none_of (span list (top_of_page l q)) none) (λ new. absurd (grind (arith, new.is))) in
      absurd (grind (arith, is, none_is (span list' (top_of_page l q)) empty))
]
