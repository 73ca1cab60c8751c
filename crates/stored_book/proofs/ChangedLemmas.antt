-- The tree of a series is changed, and then its record.
use Rattle.std.proofs.Common.{◌≡◌, ◌≢◌, ℕ, ℤ, zero, suc, ◌<◌, ◌≤◌, List, [], ◌∷◌, ◌++◌, length, set, slice_get, Option, Some, refl, sym, ap}
use Rattle.std.proofs.Common.{subst, ◌∙◌, arith, inl, inr}
use Rattle.std.proofs.lemmas.Bool.Decides.{eqb_tells}
use Rattle.std.proofs.lemmas.List.{length-set}
use Rattle.std.proofs.lemmas.Option.{same_Some, slice_get_within}
use Rattle.block_disk.specs.View.{Image}
use Rattle.om3_coeff.specs.Keys.{page_levels}
use Rattle.page_space.specs.declared.superblock.Superblock.{Superblock}
use Rattle.page_space.specs.Spaces.{times}
use Rattle.page_space.proofs.Apart.{stands_on}
use Rattle.page_space.proofs.Counting.{times_append, once_given}
use Rattle.page_space.proofs.Spacing.{freed_given}
use Rattle.series_book.specs.declared.one_series.Series.{Series}
use Rattle.series_book.specs.Books.{IsBook}
use Rattle.series_book.specs.Edits.{with_slots}
use Rattle.tree_walk.specs.declared.tree.Tree.{Tree}
use Rattle.tree_walk.specs.Trees.{StandsFor}
use Rattle.catalog_page.specs.Entries.{Entry, entry_at}
use Rattle.catalog_page.specs.Layout.{KeepsLayout}
use Rattle.catalog_page.specs.Places.{page_of, number_of, records_of}
use Rattle.catalog_page.proofs.RecordPlaces.{in_use}
use Rattle.path_repair.specs.Edited.{IsHeldTree}
use Rattle.path_repair.specs.TreePages.{tree_pages}
use Rattle.path_repair.proofs.TreeLemmas.{pages_frame}
use Rattle.stored_book.specs.Records.{entry, tree_of, pages_of_tree, pages_of_trees, pages_of_others}
use Rattle.stored_book.specs.Standing.{IsRecordOf, IsKept, IsStore}
use Rattle.stored_book.specs.Changing.{IsLater, IsTreeChanged, IsRecordSet, KeepsRecords}
use Rattle.stored_book.proofs.TreesLemmas.{with_others, tree_behind, in_others}
use Rattle.stored_book.proofs.FrameLemmas.{page_low, page_high, kept_frame, standing_frame, tree_stays, entry_stays, layout_later}
use Rattle.stored_book.proofs.FrameLemmas.{records_few}

get_set : (book : List Series) (id : ℕ) (old new : Series) → slice_get book id ≡ Some old → slice_get (set book id new) id ≡ Some new
get_set [] id old new there = absurd (cc)
get_set (one ∷ book) zero old new there = refl
get_set (one ∷ book) (suc id) old new there = get_set book id old new there

get_other : (book : List Series) (id c : ℕ) (new : Series) → c ≢ id → slice_get (set book id new) c ≡ slice_get book c
get_other [] id c new other = refl
get_other (one ∷ book) zero zero new other = absurd (other refl)
get_other (one ∷ book) zero (suc c) new other = refl
get_other (one ∷ book) (suc id) zero new other = refl
get_other (one ∷ book) (suc id) (suc c) new other = get_other book id c new (λ is. other (ap suc is))

-- the record of the changed series
own_kept : (image : Image) (total id : ℕ) (series : Series) (slots : List (Option ℤ)) (tree : Tree) (e : Entry) → IsRecordOf series e
    → tree_of e ≡ tree → entry image id ≡ e → StandsFor image total tree slots
    → IsKept image total (record series { slots = slots }) (entry image id)
own_kept image total id series slots tree e is_of names says stands =
    let T : Tree → Type 0 = λ t. StandsFor image total t slots in
    let E : Entry → Type 0 = λ x. IsKept image total (record series { slots = slots }) x in
    subst E (sym says) (record {
      record_is = record { name = is_of.name; start = is_of.start; step = is_of.step; scale = is_of.scale };
      tree = subst T (sym names) stands;
    })

pub changed_store : (before mid after : Image) (s s' : Superblock) (book : List Series) (id : ℕ) (series : Series) (slots : List (Option ℤ))
    (tree : Tree) (e : Entry)
    → IsStore before s book → slice_get book id ≡ Some series → IsLater s s' → IsTreeChanged before mid (length book) id s' tree slots
    → IsRecordOf series e → tree_of e ≡ tree → IsRecordSet mid after id e → KeepsRecords mid after id s'.fresh
    → IsBook (with_slots book id series slots) → IsStore after s' (with_slots book id series slots)
changed_store before mid after s s' book id series slots tree e was there later changed is_of names put keeps book_is =
    let new : Series = record series { slots = slots } in
    let count : ℕ = length book in
    let others : List ℕ = pages_of_others before count id in
    let own : List ℕ = tree_pages mid (page_levels tree.slots) tree.root in
    let held : IsHeldTree s'.total mid s' tree slots others = changed.edited.holds in
    let within : id < count = slice_get_within book id series there in
    let long : length (set book id new) ≡ count = length-set book id new in
    let few : (c : ℕ) → c < count → c < 512 = λ c low. omega (arith, low, was.series_are, was.stands.rules.series_high) in
    let catalog_mid : (p : ℕ) → 1 ≤ p → p < 17 → mid p ≡ before p =
    λ p from to. changed.catalog p from to (λ kind. absurd (omega (arith, kind, (was.catalog p from to).kind))) in
    let behind : (p : ℕ) → 17 ≤ p → after p ≡ mid p = λ p from. put.others p
    (λ is. omega (arith, is, from, page_high id (few id within))) in
    let entry_same : (c : ℕ) → c < count → c ≢ id → entry after c ≡ entry before c =
    λ c low other. entry_stays mid after id e c put other
    ∙ ap (λ page. entry_at page (number_of c)) (catalog_mid (page_of c) (page_low c) (page_high c (few c low))) in
    let other_page : (c p : ℕ) → c < count → c ≢ id → 0 < times p (pages_of_tree before c) → after p ≡ before p =
    λ c p low other in_it. behind p (tree_behind before s book c p was low in_it)
    ∙ changed.edited.others_same p (in_others before count id c p low other in_it) in
    let trees : (c : ℕ) → c < count → c ≢ id → pages_of_tree after c ≡ pages_of_tree before c =
    λ c low other. tree_stays before after c (entry_same c low other) (λ p in_it. other_page c p low other in_it) in
    let own_behind : (p : ℕ) → 0 < times p own → 17 ≤ p =
    λ p in_it. (once_given s'.fresh p (omega (arith, in_it, held.stands.parted p, times_append p own others))).0 in
    let own_page : (p : ℕ) → 0 < times p own → after p ≡ mid p = λ p in_it. behind p (own_behind p in_it) in
    let own_tree : pages_of_tree after id ≡ own =
    ap (λ (x : Entry). tree_pages after (page_levels x.slots) x.root) put.set
    ∙ ap (λ (t : Tree). tree_pages after (page_levels t.slots) t.root) names
    ∙ pages_frame mid after (page_levels tree.slots) tree.root own_page in
    let own_is : IsKept after s'.total new (entry after id) =
    own_kept after s'.total id series slots tree e is_of names put.set
    (standing_frame mid after s'.total tree slots held.is_tree own_page) in
    record {
      is_book = book_is;
      small = omega (arith, was.small, later.total);
      series_are = later.series ∙ was.series_are ∙ sym long;
      catalog = λ p from to.
          let N : ℕ → Type 0 = λ n. KeepsLayout (records_of p n) s'.fresh (after p) in
          let M : List ℕ → Type 0 = λ page. KeepsLayout (records_of p count) s'.fresh page in
          let at_mid : M (mid p) = subst M (sym (catalog_mid p from to))
          (layout_later (before p) (records_of p count) s.fresh s'.fresh later.fresh (was.catalog p from to)) in
          subst N (sym long) (elim (eqb_tells p (page_of id)) [
            | inl is ↦
                let Q : ℕ → Type 0 = λ q. KeepsLayout (records_of q count) s'.fresh (after q) in
                let R : ℕ → Type 0 = λ q. KeepsLayout (records_of q count) s'.fresh (mid q) in
                subst Q (sym is.1) (keeps (records_of (page_of id) count) ((in_use id count).0 within) (records_few (page_of id) count)
                (subst R is.1 at_mid))
            | inr is ↦ subst M (sym (put.others p is.1)) at_mid
          ]);
      kept = λ c other found. elim (eqb_tells c id) [
        | inl is ↦
            let same : new ≡ other = same_Some new other (sym (get_set book id series new there)
            ∙ ap (λ i. slice_get (set book id new) i) (sym is.1) ∙ found) in
            let P : Series → Type 0 = λ x. IsKept after s'.total x (entry after c) in
            let Q : ℕ → Type 0 = λ i. IsKept after s'.total new (entry after i) in
            subst P same (subst Q (sym is.1) own_is)
        | inr is ↦
            let old : slice_get book c ≡ Some other = sym (get_other book id c new is.1) ∙ found in
            let low : c < count = slice_get_within book c other old in
            let T : ℕ → Type 0 = λ total. IsKept before total other (entry before c) in
            let E : Entry → Type 0 = λ x. IsKept after s'.total other x in
            subst E (sym (entry_same c low is.1))
            (kept_frame before after s'.total other (entry before c) (subst T (sym later.total) (was.kept c other old))
            (λ p in_it. other_page c p low is.1 in_it))
      ];
      freed = held.freed;
      stands = stands_on s'.total mid after s' (own ++ others) (pages_of_trees after (length (set book id new))) held.freed
          (put.others 0 (λ is. omega (arith, is, page_low id)))
          (λ p in_it. behind p (freed_given s'.total mid s' (own ++ others) held.freed held.stands p in_it).0)
          (λ p. ap (λ n. times p (pages_of_trees after n)) long ∙ with_others after before count id p within trees
          ∙ ap (λ l. times p (l ++ others)) own_tree)
          held.stands;
    }
