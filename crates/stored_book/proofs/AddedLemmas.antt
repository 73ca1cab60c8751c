-- A series without slots is added behind the others.
use Rattle.std.proofs.Common.{◌≡◌, ◌≢◌, ℕ, ℤ, zero, suc, ◌+◌, ◌<◌, ◌≤◌, List, [], ◌∷◌, ◌++◌, length, slice_get, Option, None, Some, refl}
use Rattle.std.proofs.Common.{sym, ap, subst, ◌∙◌, arith, inl, inr}
use Rattle.std.proofs.lemmas.Bool.{cases_lt}
use Rattle.std.proofs.lemmas.Bool.Decides.{eqb_tells}
use Rattle.std.proofs.lemmas.List.{append-nil, length_push}
use Rattle.std.proofs.lemmas.Option.{same_Some, slice_get_within}
use Rattle.block_disk.specs.View.{Image}
use Rattle.om3_coeff.specs.Keys.{page_levels}
use Rattle.om3_coeff.specs.Spans.{span_over}
use Rattle.om3_coeff.proofs.ExtremeLemmas.{clear-none}
use Rattle.page_space.specs.declared.superblock.Superblock.{Superblock}
use Rattle.page_space.specs.Layout.{superblock_page, with_series}
use Rattle.page_space.specs.Spaces.{times, Stands}
use Rattle.page_space.proofs.Apart.{stands_on}
use Rattle.page_space.proofs.Spacing.{freed_given, stands_series}
use Rattle.series_book.specs.declared.one_series.Series.{Series}
use Rattle.series_book.specs.Books.{IsBook}
use Rattle.tree_walk.specs.declared.tree.Tree.{Tree}
use Rattle.tree_walk.specs.Trees.{IsTree, StandsFor}
use Rattle.catalog_page.specs.Entries.{Entry, entry_at}
use Rattle.catalog_page.specs.Layout.{KeepsLayout}
use Rattle.catalog_page.specs.Places.{page_of, number_of, records_of}
use Rattle.catalog_page.proofs.RecordPlaces.{next_record, other_pages}
use Rattle.path_repair.specs.Sums.{join_below}
use Rattle.path_repair.specs.TreePages.{tree_pages}
use Rattle.path_repair.proofs.SumLemmas.{join_same}
use Rattle.path_repair.proofs.TreeLemmas.{no_pages}
use Rattle.stored_book.specs.Records.{entry, tree_of, pages_of_tree, pages_of_trees}
use Rattle.stored_book.specs.Standing.{IsRecordOf, IsKept, IsStore}
use Rattle.stored_book.specs.Changing.{IsRecordSet, AddsRecord}
use Rattle.stored_book.proofs.TreesLemmas.{tree_behind}
use Rattle.stored_book.proofs.FrameLemmas.{page_low, page_high, kept_frame, tree_stays, entry_stays}

get_left : (book : List Series) (new : Series) (c : ℕ) → c < length book → slice_get (book ++ new ∷ []) c ≡ slice_get book c
get_left [] new c low = absurd (omega (arith, low))
get_left (one ∷ book) new zero low = refl
get_left (one ∷ book) new (suc c) low = get_left book new c (omega (arith, low))

get_last : (book : List Series) (new : Series) → slice_get (book ++ new ∷ []) (length book) ≡ Some new
get_last [] new = refl
get_last (one ∷ book) new = get_last book new

trees_next : (image : Image) (n : ℕ) → pages_of_trees image (n + 1) ≡ pages_of_trees image n ++ pages_of_tree image n
unfolding join_below
trees_next image n = let next : n + 1 ≡ suc n = omega arith in ap (λ m. join_below (pages_of_tree image) m) next

one_level : page_levels 0 ≡ 1
unfolding page_levels
one_level = refl

no_span : (a b : ℕ) → span_over [] a b ≡ None
no_span a b = clear-none [] a b (λ i v low high holds. absurd (cc))

no_values : (i : ℕ) (v : ℤ) → slice_get {X = Option ℤ} [] i ≡ Some (Some v) → ⊥
no_values i v holds = absurd (cc)

-- a tree without pages stands for no slots
pub no_slots : (image : Image) (total : ℕ) (tree : Tree) → tree.slots ≡ 0 → tree.root ≡ 0 → tree.span ≡ None → StandsFor image total tree []
no_slots image total tree slots root span =
    let P : ℕ → Type 0 = λ levels. IsTree image total [] levels 0 tree.root in
    record {
      values = λ i v holds. absurd (no_values i v holds);
      few = omega arith;
      slots = slots;
      root_span = span ∙ sym (no_span _ _);
      pages = subst P (sym one_level) (inl (root, no_span _ _));
    }

-- the record of the new series
new_kept : (image : Image) (total : ℕ) (series : Series) (e : Entry) → IsRecordOf series e → series.slots ≡ [] → e.slots ≡ 0 → e.root ≡ 0
    → e.span ≡ None → IsKept image total series e
new_kept image total series e is_of empty slots root span =
    let L : List (Option ℤ) → Type 0 = λ list. StandsFor image total (tree_of e) list in
    record { record_is = is_of; tree = subst L (sym empty) (no_slots image total (tree_of e) slots root span) }

pub added_store : (before mid after : Image) (s : Superblock) (book : List Series) (series : Series) (e : Entry)
    → IsStore before s book → length book < 512 → mid 0 ≡ superblock_page (with_series s (length book + 1))
    → ((p : ℕ) → p ≢ 0 → mid p ≡ before p)
    → IsRecordOf series e → series.slots ≡ [] → e.slots ≡ 0 → e.root ≡ 0 → e.span ≡ None → IsRecordSet mid after (length book) e
    → AddsRecord mid after (length book) s.fresh
    → IsBook (book ++ series ∷ []) → IsStore after (with_series s (length book + 1)) (book ++ series ∷ [])
added_store before mid after s book series e was room spelled same is_of empty slots root span put adds book_is =
    let count : ℕ = length book in
    let s' : Superblock = with_series s (count + 1) in
    let whole : List Series = book ++ series ∷ [] in
    let long : length whole ≡ count + 1 = length_push book series in
    let mid_stands : Stands s.total mid s' (pages_of_trees before count) was.freed =
    stands_series s.total before mid s (count + 1) (pages_of_trees before count) was.freed (omega (arith, room)) spelled
    (λ q some. same q (λ none. omega (arith, some, none))) was.stands in
    let few : (c : ℕ) → c < count → c < 512 = λ c low. omega (arith, low, room) in
    let behind : (p : ℕ) → 17 ≤ p → after p ≡ mid p = λ p from. put.others p (λ is. omega (arith, is, from, page_high count room)) in
    let stays : (p : ℕ) → 17 ≤ p → after p ≡ before p = λ p from. behind p from ∙ same p (λ none. omega (arith, none, from)) in
    let entry_same : (c : ℕ) → c < count → entry after c ≡ entry before c =
    λ c low. entry_stays mid after count e c put (λ is. omega (arith, is, low))
    ∙ ap (λ page. entry_at page (number_of c)) (same (page_of c) (λ none. omega (arith, none, page_low c))) in
    let tree_page : (c p : ℕ) → c < count → 0 < times p (pages_of_tree before c)
    → after p ≡ before p = λ c p low in_it. stays p (tree_behind before s book c p was low in_it) in
    let trees : pages_of_trees after count ≡ pages_of_trees before count =
    join_same (pages_of_tree after) (pages_of_tree before) count
    (λ c low. tree_stays before after c (entry_same c low) (λ p in_it. tree_page c p low in_it)) in
    let new_tree : pages_of_tree after count ≡ [] =
    ap (λ (x : Entry). tree_pages after (page_levels x.slots) x.root) put.set ∙ no_pages after (page_levels e.slots) e.root root in
    let all_trees : pages_of_trees after (length whole) ≡ pages_of_trees before count =
    ap (λ n. pages_of_trees after n) long ∙ trees_next after count ∙ ap (λ l. pages_of_trees after count ++ l) new_tree
    ∙ append-nil (pages_of_trees after count) ∙ trees in
    let new_is : IsKept after s.total series (entry after count) =
    (let E : Entry → Type 0 = λ x. IsKept after s.total series x in
    subst E (sym put.set) (new_kept after s.total series e is_of empty slots root span)) in
    record {
      is_book = book_is;
      small = was.small;
      series_are = sym long;
      catalog = λ p from to.
          let N : ℕ → Type 0 = λ n. KeepsLayout (records_of p n) s.fresh (after p) in
          let M : List ℕ → Type 0 = λ page. KeepsLayout (records_of p count) s.fresh page in
          let at_mid : M (mid p) = subst M (sym (same p (λ none. omega (arith, none, from)))) (was.catalog p from to) in
          subst N (sym long) (elim (eqb_tells p (page_of count)) [
            | inl is ↦
                let Q : ℕ → Type 0 = λ q. KeepsLayout (records_of q (count + 1)) s.fresh (after q) in
                let R : ℕ → Type 0 = λ q. KeepsLayout (records_of q count) s.fresh (mid q) in
                let A : ℕ → Type 0 = λ n. KeepsLayout n s.fresh (after (page_of count)) in
                let B : ℕ → Type 0 = λ n. KeepsLayout n s.fresh (mid (page_of count)) in
                subst Q (sym is.1) (subst A (sym (next_record count).1) (adds (subst B (next_record count).0 (subst R is.1 at_mid))))
            | inr is ↦
                let K : ℕ → Type 0 = λ n. KeepsLayout n s.fresh (after p) in
                subst K (sym (other_pages count p from is.1)) (subst M (sym (put.others p is.1)) at_mid)
          ]);
      kept = λ c other found. elim (cases_lt c count) [
        | inl low ↦
            let E : Entry → Type 0 = λ x. IsKept after s.total other x in
            subst E (sym (entry_same c low))
            (kept_frame before after s.total other (entry before c) (was.kept c other (sym (get_left book series c low) ∙ found))
            (λ p in_it. tree_page c p low in_it))
        | inr high ↦
            let at : count ≡ c = omega (arith, high, slice_get_within whole c other found, long) in
            let P : ℕ → Series → Type 0 = λ i x. IsKept after s.total x (entry after i) in
            let last : series ≡ other = same_Some series other (sym (get_last book series) ∙ ap (λ i. slice_get whole i) at ∙ found) in
            subst (P c) last (subst (λ i. P i series) at new_is)
      ];
      freed = was.freed;
      stands = stands_on s.total mid after s' (pages_of_trees before count) (pages_of_trees after (length whole)) was.freed
          (put.others 0 (λ is. omega (arith, is, page_low count)))
          (λ p in_it. behind p (freed_given s.total mid s' (pages_of_trees before count) was.freed mid_stands p in_it).0)
          (λ p. ap (λ l. times p l) all_trees)
          mid_stands;
    }
