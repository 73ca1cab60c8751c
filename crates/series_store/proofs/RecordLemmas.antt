-- A series has another tree in its record, and the others keep theirs.
use Rattle.std.proofs.Common.{◌≡◌, ◌≢◌, ℕ, ℤ, zero, suc, ◌<◌, ◌≤◌, List, [], ◌∷◌, length, set, slice_get, get_or, Option, None, Some, All}
use Rattle.std.proofs.Common.{false, unsigned_abs, IfSome, refl, sym, ap, subst, ◌∙◌, arith, inl, inr}
use Rattle.std.proofs.lemmas.Bool.{le-ltb}
use Rattle.std.proofs.lemmas.Bool.Decides.{eqb_tells}
use Rattle.std.proofs.lemmas.Option.{same_Some, slice_get_within, slice_get-get_or}
use Rattle.block_disk.specs.View.{Image}
use Rattle.om3_coeff.specs.Spans.{AreSlots}
use Rattle.whole_number.specs.Range.{IsValue}
use Rattle.whole_number.specs.SlotTimes.{EndsInTime}
use Rattle.page_space.specs.declared.superblock.Superblock.{Superblock}
use Rattle.path_repair.specs.Keeping.{KeepsCatalog}
use Rattle.catalog_page.specs.Entries.{Entry, IsEntry, entry_at}
use Rattle.catalog_page.specs.Layout.{KeepsLayout}
use Rattle.catalog_page.specs.Places.{page_of, number_of, records_of}
use Rattle.catalog_page.proofs.RecordPlaces.{in_use}
use Rattle.series_book.specs.declared.one_series.Series.{Series}
use Rattle.whole_number.specs.declared.limits.TheConstants.{GREATEST_VALUE}
use Rattle.series_book.specs.Edits.{is_too_large, with_slots}
use Rattle.series_book.proofs.LawLemmas.{IsBook-with_slots}
use Rattle.series_catalog.specs.declared.stored_series.StoredSeries.{StoredSeries}
use Rattle.series_catalog.specs.Catalogs.{entry_of, with_tree, AreFit, AreAsTold}
use Rattle.stored_book.proofs.ChangedLemmas.{changed_store}
use Rattle.stored_book.proofs.FrameLemmas.{page_low, page_high, entry_stays, layout_later, records_few}
use Rattle.stored_book.specs.Records.{entry}
use Rattle.stored_book.specs.Standing.{IsRecordOf, IsStore, AreCatalog, StandsForBook}
use Rattle.stored_book.specs.Changing.{IsLater, IsTreeChanged, IsRecordSet, KeepsRecords}
use Rattle.tree_walk.specs.declared.tree.Tree.{Tree}
use Rattle.series_store.specs.Staging.{HadTree}

get_set : {X : Type 0} (xs : List X) (i : ℕ) (old new : X) → slice_get xs i ≡ Some old → slice_get (set xs i new) i ≡ Some new
get_set {X} [] i old new there = absurd (cc)
get_set {X} (x ∷ xs) zero old new there = refl
get_set {X} (x ∷ xs) (suc i) old new there = get_set xs i old new there

get_other : {X : Type 0} (xs : List X) (i c : ℕ) (new : X) → c ≢ i → slice_get (set xs i new) c ≡ slice_get xs c
get_other {X} [] i c new other = refl
get_other {X} (x ∷ xs) zero zero new other = absurd (other refl)
get_other {X} (x ∷ xs) zero (suc c) new other = refl
get_other {X} (x ∷ xs) (suc i) zero new other = refl
get_other {X} (x ∷ xs) (suc i) (suc c) new other = get_other xs i c new (λ is. other (ap suc is))

-- what holds of the one that is put and of the others
set_each : {X : Type 0} (P : ℕ → X → Type 0) (xs : List X) (i : ℕ) (old new : X) → slice_get xs i ≡ Some old → P i new
    → ((c : ℕ) (x : X) → c ≢ i → slice_get xs c ≡ Some x → P c x)
    → (c : ℕ) (x : X) → slice_get (set xs i new) c ≡ Some x → P c x
set_each {X} P xs i old new there here others c x found = elim (eqb_tells c i) [
  | inl is ↦
      let same : new ≡ x = same_Some new x (sym (get_set xs i old new there) ∙ ap (λ k. slice_get (set xs i new) k) (sym is.1) ∙ found) in
      let Q : ℕ → Type 0 = λ k. P k new in
      let R : X → Type 0 = λ y. P c y in
      subst R same (subst Q (sym is.1) here)
  | inr is ↦ others c x is.1 (sym (get_other xs i c new is.1) ∙ found)
]

-- more pages are given out
pub entry_later : (fresh fresh' : ℕ) (e : Entry) → fresh ≤ fresh' → IsEntry fresh e → IsEntry fresh' e
entry_later fresh fresh' e more is = record {
  named = is.named;
  scale = is.scale;
  step_low = is.step_low;
  step_high = is.step_high;
  start = is.start;
  slots = is.slots;
  last = is.last;
  root = record { low = is.root.low; high = λ some. omega (arith, is.root.high some, more); none = is.root.none };
  rooted = is.rooted;
  span = is.span;
}

pub fit_after : (fresh fresh' : ℕ) (items : List StoredSeries) (id : ℕ) (one : StoredSeries) (tree : Tree) → fresh ≤ fresh'
    → slice_get items id ≡ Some one → IsEntry fresh' (entry_of (record one { tree = tree })) → AreFit fresh items
    → AreFit fresh' (with_tree items id one tree)
fit_after fresh fresh' items id one tree more there is fit =
    set_each (λ i x. IsEntry fresh' (entry_of x)) items id one (record one { tree = tree }) there is
    (λ i x other found. entry_later fresh fresh' (entry_of x) more (fit i x found))

-- a page of the catalog is none of a tree, so that a change of a tree leaves it
pub catalog_stays : (before mid : Image) (fresh count p : ℕ) → AreCatalog before fresh count → KeepsCatalog before mid → 1 ≤ p → p < 17
    → mid p ≡ before p
catalog_stays before mid fresh count p is keeps from to = keeps p from to (λ kind. absurd (omega (arith, kind, (is p from to).kind)))

pub told_after : (before mid after : Image) (fresh count : ℕ) (items : List StoredSeries) (id : ℕ) (one : StoredSeries) (tree : Tree)
    → AreCatalog before fresh count → KeepsCatalog before mid
    → IsRecordSet mid after id (entry_of (record one { tree = tree })) → slice_get items id ≡ Some one → length items ≤ 512
    → AreAsTold before items → AreAsTold after (with_tree items id one tree)
told_after before mid after fresh count items id one tree catalog keeps put there few told =
    set_each (λ i x. entry after i ≡ entry_of x) items id one (record one { tree = tree }) there put.set
    (λ i x other found.
    let low : i < 512 = omega (arith, few, slice_get_within items i x found) in
    entry_stays mid after id (entry_of (record one { tree = tree })) i put other
    ∙ ap (λ page. entry_at page (number_of i)) (catalog_stays before mid fresh count (page_of i) catalog keeps (page_low i)
    (page_high i low))
    ∙ told i x found)

pub whole_after : (before mid after : Image) (fresh fresh' count count' id : ℕ) (e : Entry) → AreCatalog before fresh count → fresh ≤ fresh'
    → count' ≡ count → KeepsCatalog before mid
    → IsRecordSet mid after id e → KeepsRecords mid after id fresh' → id < count → AreCatalog after fresh' count'
whole_after before mid after fresh fresh' count count' id e catalog more same keeps put kept within p from to =
    let N : ℕ → Type 0 = λ n. KeepsLayout (records_of p n) fresh' (after p) in
    let M : List ℕ → Type 0 = λ page. KeepsLayout (records_of p count) fresh' page in
    let at_mid : M (mid p) = subst M (sym (catalog_stays before mid fresh count p catalog keeps from to))
    (layout_later (before p) (records_of p count) fresh fresh' more (catalog p from to)) in
    subst N (sym same) (elim (eqb_tells p (page_of id)) [
      | inl is ↦
          let Q : ℕ → Type 0 = λ q. KeepsLayout (records_of q count) fresh' (after q) in
          let R : ℕ → Type 0 = λ q. KeepsLayout (records_of q count) fresh' (mid q) in
          subst Q (sym is.1) (kept (records_of (page_of id) count) ((in_use id count).0 within) (records_few (page_of id) count)
          (subst R is.1 at_mid))
      | inr is ↦ subst M (sym (put.others p is.1)) at_mid
    ])

-- slots are in range where they are slots of a tree
fits : (value : Option ℤ) → ((v : ℤ) → value ≡ Some v → IsValue v) → is_too_large value ≡ false
fits None each = refl
fits (Some v) each = le-ltb GREATEST_VALUE (unsigned_abs v) (each v refl)

slots_fit : (slots : List (Option ℤ)) → AreSlots slots → All (λ value. is_too_large value ≡ false) slots
slots_fit slots are k d within = fits (get_or slots k d) (λ v is. are k v (slice_get-get_or slots k d within ∙ ap Some is))

-- the record says what the series is
record_of : (image : Image) (s : Superblock) (book : List Series) (id : ℕ) (series : Series) (one : StoredSeries) (tree : Tree)
    → IsStore image s book → slice_get book id ≡ Some series → entry image id ≡ entry_of one
    → IsRecordOf series (entry_of (record one { tree = tree }))
record_of image s book id series one tree store there told =
    let is : IsRecordOf series (entry image id) = (store.kept id series there).record_is in
    record {
      name = sym (ap (λ (e : Entry). e.name) told) ∙ is.name;
      start = sym (ap (λ (e : Entry). e.start) told) ∙ is.start;
      step = sym (ap (λ (e : Entry). e.step) told) ∙ is.step;
      scale = sym (ap (λ (e : Entry). e.scale) told) ∙ is.scale;
    }

-- the pages with another tree of a series and its record
pub saved_book : (before mid after : Image) (s s' : Superblock) (total : ℕ) (book : List Series) (id : ℕ) (series : Series)
    (slots : List (Option ℤ)) (one : StoredSeries) (tree : Tree)
    → IsStore before s book → s.total ≡ total → slice_get book id ≡ Some series → entry before id ≡ entry_of one → IsLater s s'
    → IsTreeChanged before mid (length book) id s' tree slots
    → IsEntry s'.fresh (entry_of (record one { tree = tree })) → IsRecordSet mid after id (entry_of (record one { tree = tree }))
    → KeepsRecords mid after id s'.fresh → StandsForBook after total (with_slots book id series slots)
saved_book before mid after s s' total book id series slots one tree store same there told later changed is put kept =
    let says : IsRecordOf series (entry_of (record one { tree = tree })) = record_of before s book id series one tree store there told in
    let S : ℤ → Type 0 = λ start. EndsInTime start one.step tree.slots in
    let T : ℕ → Type 0 = λ step. EndsInTime series.start step tree.slots in
    let L : ℕ → Type 0 = λ n. EndsInTime series.start series.step n in
    record {
      superblock = s';
      total_is = later.total ∙ same;
      store = changed_store before mid after s s' book id series slots tree
          (entry_of (record one { tree = tree })) store there later changed says refl put kept
          (IsBook-with_slots book id series slots store.is_book there (record {
            short = omega (arith, changed.edited.holds.is_tree.slots, is.slots);
            last = subst L changed.edited.holds.is_tree.slots (subst T says.step (subst S says.start is.last));
            fit = slots_fit slots changed.edited.holds.is_tree.values;
          }));
    }

-- what holds of the value, where it is known
pub known_some : {X : Type 0} (o : Option X) (x : X) (P : X → Type 0) → o ≡ Some x → IfSome o P → P x
known_some {X} o x P is holds = let Q : Option X → Type 0 = λ o. IfSome o P in subst Q is holds

put_back : {X : Type 0} (xs : List X) (i : ℕ) (old new : X) → slice_get xs i ≡ Some old → set (set xs i new) i old ≡ xs
put_back {X} [] i old new there = refl
put_back {X} (x ∷ xs) zero old new there = ap (λ y. y ∷ xs) (sym (same_Some x old there))
put_back {X} (x ∷ xs) (suc i) old new there = ap (λ ys. x ∷ ys) (put_back xs i old new there)

-- a series has its old tree again
pub set_back : (before now after : List StoredSeries) (id : ℕ) (tree : Tree) → HadTree id tree now before
    → IfSome (slice_get now id) (λ one. after ≡ with_tree now id one tree) → after ≡ before
set_back before now after id tree had is =
    let changed : StoredSeries = record had.one { tree = had.changed } in
    let there : slice_get now id ≡ Some changed = ap (λ (l : List StoredSeries). slice_get l id) had.now_are
    ∙ get_set before id had.one changed had.there in
    let I : StoredSeries → Type 0 = λ one. after ≡ with_tree now id one tree in
    known_some (slice_get now id) changed I there is
    ∙ ap (λ (l : List StoredSeries). set l id (record had.one { tree = tree })) had.now_are
    ∙ ap (λ (t : Tree). set (set before id changed) id (record had.one { tree = t })) (sym had.had)
    ∙ put_back before id had.one changed had.there
