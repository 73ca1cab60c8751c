-- A series without slots is added to a store.
use Rattle.std.proofs.Common.{◌≡◌, ◌≢◌, ℕ, zero, suc, ◌+◌, ◌<◌, ◌^◌, List, [], ◌∷◌, ◌++◌, length, Option, Some, None, Result, Ok, ℤ, IsTrue}
use Rattle.std.proofs.Common.{All, is_some, unwrap_or, refl, sym, ap, subst, ◌∙◌, arith, inl, inr}
use Rattle.std.specs.List.{slice_get}
use Rattle.std.proofs.lemmas.Bool.{cases_lt}
use Rattle.std.proofs.lemmas.Bool.Decides.{eqb_tells}
use Rattle.std.proofs.lemmas.List.{length_push}
use Rattle.std.proofs.lemmas.Option.{same_Some, slice_get_within}
use Rattle.block_disk.specs.View.{Image}
use Rattle.page_space.specs.declared.superblock.Superblock.{Superblock}
use Rattle.page_space.specs.declared.txn.Txn.{Txn}
use Rattle.page_space.specs.Layout.{superblock_page, with_series, IsSuperblock}
use Rattle.page_space.specs.Transactions.{OnlyFirst, left_by}
use Rattle.catalog_page.specs.Entries.{Entry, IsEntry, entry_at}
use Rattle.catalog_page.specs.Layout.{KeepsLayout}
use Rattle.catalog_page.specs.Places.{page_of, number_of, records_of}
use Rattle.catalog_page.proofs.RecordPlaces.{next_record, other_pages}
use Rattle.series_book.specs.declared.one_series.Series.{Series}
use Rattle.series_book.specs.declared.refusals.Refusal.{Refusal}
use Rattle.whole_number.proofs.SlotTimes.{none_in_time}
use Rattle.series_book.specs.Books.{IsBook, IsSeries}
use Rattle.series_book.specs.Edits.{Edited, IsEdit, id_of, created}
use Rattle.series_book.specs.Names.{is_name}
use Rattle.series_book.specs.declared.edits.Edit.TheVariants.{Create}
use Rattle.series_book.proofs.BookLemmas.{IsBook-push, IsSeries-new}
use Rattle.series_book.proofs.EditLemmas.{created-ok}
use Rattle.series_catalog.specs.declared.stored_series.StoredSeries.{StoredSeries}
use Rattle.series_catalog.specs.Catalogs.{ForEntry, entry_of, entry_with, AreFit, AreAsTold}
use Rattle.stored_book.proofs.FrameLemmas.{page_low, entry_stays}
use Rattle.stored_book.proofs.AddedLemmas.{added_store}
use Rattle.stored_book.specs.Changing.{IsRecordSet, AddsRecord}
use Rattle.stored_book.specs.Records.{entry}
use Rattle.tree_walk.specs.declared.tree.Tree.{Tree}
use Rattle.stored_book.specs.Standing.{IsStore, StandsForBook, AreCatalog}
use Rattle.series_store.specs.declared.errors.StoreError.{StoreError}
use Rattle.series_store.specs.Staging.{IsCatalogOf, IsStagedBy}
use Rattle.series_store.specs.declared.staged.Staged.{Staged}
use Rattle.series_store.specs.Creating.{series_of, IsRecordAdded}
use Rattle.series_store.proofs.StageLemmas.{first_page}
use Rattle.series_store.proofs.StoreLemmas.{store_of}

-- What it has with the new series.

get_left : (items : List StoredSeries) (new : StoredSeries) (c : ℕ) → c < length items → slice_get (items ++ new ∷ []) c ≡ slice_get items c
get_left [] new c low = absurd (omega (arith, low))
get_left (one ∷ items) new zero low = refl
get_left (one ∷ items) new (suc c) low = get_left items new c (omega (arith, low))

get_last : (items : List StoredSeries) (new : StoredSeries) → slice_get (items ++ new ∷ []) (length items) ≡ Some new
get_last [] new = refl
get_last (one ∷ items) new = get_last items new

-- what holds of each series and of the new one holds of all
push_each : (P : ℕ → StoredSeries → Type 0) (items : List StoredSeries) (new : StoredSeries)
    → ((id : ℕ) (one : StoredSeries) → slice_get items id ≡ Some one → P id one) → P (length items) new
    → (id : ℕ) (one : StoredSeries) → slice_get (items ++ new ∷ []) id ≡ Some one → P id one
push_each P items new each last id one there = elim (cases_lt id (length items)) [
  | inl low ↦ each id one (sym (get_left items new id low) ∙ there)
  | inr high ↦
      let at : length items ≡ id = omega (arith, high, slice_get_within (items ++ new ∷ []) id one there, length_push items new) in
      let is : new ≡ one = same_Some new one (sym (get_last items new) ∙ ap (λ i. slice_get (items ++ new ∷ []) i) at ∙ there) in
      subst (P id) is (subst (λ i. P i new) at last)
]

pub fits_push : (s s' : Superblock) (n : ℕ) (items items' : List StoredSeries) (new : StoredSeries) → s' ≡ with_series s n
    → items' ≡ items ++ new ∷ [] → AreFit s.fresh items → IsEntry s.fresh (entry_of new) → AreFit s'.fresh items'
fits_push s s' n items items' new is are fit fits =
    let P : List StoredSeries → Type 0 = λ list. AreFit s'.fresh list in
    let Q : Superblock → Type 0 = λ t. AreFit t.fresh (items ++ new ∷ []) in
    subst P (sym are) (subst Q (sym is) (push_each (λ id one. IsEntry s.fresh (entry_of one)) items new fit fits))

-- the records of the others stay
entry_kept : (before after : Image) (s : Superblock) (count : ℕ) (e : Entry) (c : ℕ) → IsRecordAdded before after s count e → c ≢ count
    → entry after c ≡ entry before c
entry_kept before after s count e c added other =
    entry_stays added.mid after count e c added.set other
    ∙ ap (λ page. entry_at page (number_of c)) (added.others (page_of c) (λ none. omega (arith, none, page_low c)))

pub told_push : (before after : Image) (s : Superblock) (items : List StoredSeries) (new : StoredSeries)
    → IsRecordAdded before after s (length items) (entry_of new) → AreAsTold before items → AreAsTold after (items ++ new ∷ [])
told_push before after s items new added are =
    push_each (λ id one. entry after id ≡ entry_of one) items new
    (λ id one there. entry_kept before after s (length items) (entry_of new) id added
    (λ is. omega (arith, is, slice_get_within items id one there)) ∙ are id one there)
    added.set.set

pub whole_push : (before after : Image) (s : Superblock) (count : ℕ) (e : Entry) → IsRecordAdded before after s count e
    → AreCatalog before s.fresh count → AreCatalog after s.fresh (count + 1)
whole_push before after s count e added was = λ p from to.
    let M : List ℕ → Type 0 = λ page. KeepsLayout (records_of p count) s.fresh page in
    let at_mid : M (added.mid p) = subst M (sym (added.others p (λ none. omega (arith, none, from)))) (was p from to) in
    elim (eqb_tells p (page_of count)) [
      | inl is ↦
          let Q : ℕ → Type 0 = λ q. KeepsLayout (records_of q (count + 1)) s.fresh (after q) in
          let R : ℕ → Type 0 = λ q. KeepsLayout (records_of q count) s.fresh (added.mid q) in
          let A : ℕ → Type 0 = λ n. KeepsLayout n s.fresh (after (page_of count)) in
          let B : ℕ → Type 0 = λ n. KeepsLayout n s.fresh (added.mid (page_of count)) in
          subst Q (sym is.1) (subst A (sym (next_record count).1) (added.adds (subst B (next_record count).0 (subst R is.1 at_mid))))
      | inr is ↦
          let K : ℕ → Type 0 = λ n. KeepsLayout n s.fresh (after p) in
          subst K (sym (other_pages count p from is.1)) (subst M (sym (added.set.others p is.1)) at_mid)
    ]

-- a record without a tree is put behind the others in a transaction that counts its series
pub record_added : (old mid new : Txn) (base : Image) (count : ℕ) (one : StoredSeries) (tree : Tree)
    → mid.superblock ≡ with_series old.superblock (count + 1) → OnlyFirst old mid → one.tree ≡ tree
    → IsEntry old.superblock.fresh (entry_of one)
    → IsRecordSet (left_by mid base) (left_by new base) count (entry_with one tree)
    → ForEntry (entry_with one tree) (AddsRecord (left_by mid base) (left_by new base) count)
    → IsRecordAdded (left_by old base) (left_by new base) old.superblock count (entry_of one)
record_added old mid new base count one tree numbers first empty is put adds =
    let S : Tree → Type 0 = λ t. IsRecordSet (left_by mid base) (left_by new base) count (entry_with one t) in
    let A : Tree → Type 0 = λ t. ForEntry (entry_with one t) (AddsRecord (left_by mid base) (left_by new base) count) in
    record {
      mid = left_by mid base;
      spelled = first_page mid base ∙ ap superblock_page numbers;
      others = λ p some. ap (λ o. unwrap_or o (base p)) (first.others p (omega (arith, some)));
      set = subst S (sym empty) put;
      adds = subst A (sym empty) adds old.superblock.fresh is;
    }

-- the catalog in memory is that of the pages with the new record
pub pushed_catalog : (told : Type 0) (before after : Image) (s : Superblock) (count : ℕ) (items : List StoredSeries) (one : StoredSeries)
    → count ≡ length items → IsEntry s.fresh (entry_of one) → (told → IsRecordAdded before after s count (entry_of one))
    → IsCatalogOf told before s items → IsCatalogOf told after (with_series s (count + 1)) (items ++ one ∷ [])
pushed_catalog told before after s count items one counted is added are =
    let N : ℕ → Type 0 = λ n. IsRecordAdded before after s n (entry_of one) in
    let C : ℕ → Type 0 = λ n. AreCatalog before s.fresh n in
    record {
      small = are.small;
      count = omega (arith, length_push items one, counted);
      fits = fits_push s (with_series s (count + 1)) (count + 1) items (items ++ one ∷ []) one refl refl are.fits is;
      are_told = λ now. told_push before after s items one (subst N counted (added now)) (are.are_told now);
      whole = λ now. whole_push before after s count (entry_of one) (added now) (subst C (sym are.count ∙ sym counted) (are.whole now));
    }

-- what the pages are that a record was added to
pub added_stands : (count : ℕ) (s : Superblock) (before after : Image) (n : ℕ) (e : Entry) (total : ℕ) (book : List Series)
    → s.total < 2 ^ 32 → IsSuperblock count s → before 0 ≡ superblock_page s
    → n ≡ s.series → n < 512 → e.slots ≡ 0 → e.root ≡ 0 → e.span ≡ None → IsRecordAdded before after s n e → StandsForBook before total book
    → IsBook (book ++ series_of e ∷ [])
    → StandsForBook after total (book ++ series_of e ∷ [])
added_stands count s before after n e total book small rules spelled counted few slots root span added stands book_is =
    let found = store_of count before s total book small rules spelled stands in
    let store : IsStore before s book = found.0 in
    let long : n ≡ length book = counted ∙ store.series_are in
    let N : ℕ → Type 0 = λ m. IsRecordAdded before after s m e in
    let here : IsRecordAdded before after s (length book) e = subst N long added in
    record {
      superblock = with_series s (length book + 1);
      total_is = found.1;
      store = added_store before here.mid after s book (series_of e) e store (omega (arith, few, long)) here.spelled here.others
          (record { name = refl; start = refl; step = refl; scale = refl }) refl slots root span here.set here.adds book_is;
    }

no_values : (value : Option ℤ → Type 0) → All value []
no_values value = λ k d within. absurd (omega (arith, within))

-- a series without slots whose fields are in range
pub is_new_series : (name : List ℕ) (start : ℤ) (step scale : ℕ) → IsTrue (is_name name) → IsEdit (Create name start step scale)
    → IsSeries (record { name = name; start = start; step = step; scale = scale; slots = [] })
is_new_series name start step scale named is = IsSeries-new name start step scale _ refl named is.0 is.1 is.2 is.3

-- and its record
pub is_new_entry : (fresh : ℕ) (name : List ℕ) (start begun : ℤ) (step scale : ℕ) → begun ≡ start → IsTrue (is_name name)
    → IsEdit (Create name start step scale)
    → IsEntry fresh (record { name = name; scale = scale; step = step; start = begun; slots = 0; root = 0; span = None })
is_new_entry fresh name start begun step scale same named is =
    let P : ℤ → Type 0 = λ start. IsEntry fresh (record {
      name = name;
      scale = scale;
      step = step;
      start = start;
      slots = 0;
      root = 0;
      span = None;
    }) in
    subst P (sym same) (record {
      named = named;
      scale = is.3;
      step_low = is.1;
      step_high = omega (arith, is.2);
      start = omega (arith, is.0);
      slots = omega arith;
      last = none_in_time start step;
      root = record { low = λ some. absurd (some refl); high = λ some. absurd (some refl); none = λ none. refl };
      rooted = (λ none. refl, λ none. refl);
      span = tt;
    })

-- a series of a new name is added to a book with room
pub created_answer : (total : ℕ) (book : List Series) (one : Series) (result : Result Staged StoreError) (txn txn' : Txn) (image : Image)
    → id_of one.name book ≡ None → IsBook book → IsSeries one → length book < 512
    → (IsBook (book ++ one ∷ []) → IsStagedBy (Ok (record { book = book ++ one ∷ []; slots = 0 })) 0 total result txn txn' image)
    → IsStagedBy (created book one) 0 total result txn txn' image
created_answer total book one result txn txn' image none is in_range room answered =
    let P : Result Edited Refusal → Type 0 = λ answer. IsStagedBy answer 0 total result txn txn' image in
    subst P (sym (created-ok book one (ap (λ o. is_some o) none) room)) (answered (IsBook-push book one is in_range none room))
