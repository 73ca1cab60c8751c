-- The series of a name in the catalog and in the book, and what the book answers of it.
use Rattle.std.proofs.Common.{◌≡◌, ℕ, ℤ, zero, suc, ◌+◌, ◌-◌, ◌<◌, ◌≤◌, ◌⊎◌, min, max, List, [], ◌∷◌, length, replicate, slice_get, Option}
use Rattle.std.proofs.Common.{None, Some, Result, Ok, Err, IfSome, refl, sym, ap, subst, ◌∙◌, arith}
use Rattle.std.proofs.lemmas.List.{length-replicate}
use Rattle.std.proofs.lemmas.Option.{slice_get_within}
use Rattle.block_disk.specs.View.{Image}
use Rattle.page_space.specs.declared.superblock.Superblock.{Superblock}
use Rattle.whole_number.specs.SlotTimes.{EndsInTime}
use Rattle.series_book.specs.declared.axis.Axis.{Axis}
use Rattle.series_book.specs.declared.edits.Edit.TheVariants.{Append, Set, Clear}
use Rattle.series_book.specs.declared.one_series.Series.{Series}
use Rattle.series_book.specs.declared.refusals.Refusal.{Refusal}
use Rattle.series_book.specs.declared.refusals.Refusal.TheVariants.{UnknownSeries}
use Rattle.series_book.specs.Axes.{IsAxisOf}
use Rattle.series_book.specs.Edits.{Edited, apply, id_of, place_of as slot_of, change_at, change_series, within, unbounded, appended}
use Rattle.series_book.specs.Edits.{set_at, cleared_at, cleared, with_slots}
use Rattle.series_catalog.specs.declared.stored_series.StoredSeries.{StoredSeries}
use Rattle.series_catalog.specs.Catalogs.{place_of, AreAsTold}
use Rattle.stored_book.specs.Standing.{IsStore}
use Rattle.series_store.specs.Groups.{touched_at, touched_in}
use Rattle.series_store.proofs.AskLemmas.{as_many, same_id, kept_as}
use Rattle.series_store.proofs.SlotLemmas.{cleared_there, cleared_nothing, length-cleared, same_slots}

-- the book has the series of the catalog at its id
pub record IsFound (book : List Series) (name : List ℕ) (id : ℕ) (one : StoredSeries) : Type 0 where
  pub series : Series
  pub there : slice_get book id ≡ Some series
  pub is_id : id_of name book ≡ Some id
  pub start : one.start ≡ series.start
  pub step : one.step ≡ series.step
  pub slots : one.tree.slots ≡ length series.slots

there_is : {X : Type 0} (xs : List X) (i : ℕ) → i < length xs → (x : X) × (slice_get xs i ≡ Some x)
there_is {X} [] i low = absurd (omega (arith, low))
there_is {X} (x ∷ xs) zero low = (x, refl)
there_is {X} (x ∷ xs) (suc i) low = there_is xs i (omega (arith, low))

pub found : (image : Image) (s : Superblock) (book : List Series) (items : List StoredSeries) (name : List ℕ) (id : ℕ) (one : StoredSeries)
    → IsStore image s book
    → length items ≡ s.series → AreAsTold image items → Some id ≡ place_of name items → slice_get items id ≡ Some one
    → IsFound book name id one
found image s book items name id one store count told at there =
    let many = as_many image s book items store count in
    let it = there_is book id (omega (arith, many, slice_get_within items id one there)) in
    let kept = kept_as image s book items id one it.0 store told there it.1 in
    record {
      series = it.0;
      there = it.1;
      is_id = sym (same_id image s book items name store count told) ∙ sym at;
      start = kept.record_is.start;
      step = kept.record_is.step;
      slots = kept.tree.slots;
    }

pub unknown : (image : Image) (s : Superblock) (book : List Series) (items : List StoredSeries) (name : List ℕ) → IsStore image s book
    → length items ≡ s.series → AreAsTold image items → None ≡ place_of name items → id_of name book ≡ None
unknown image s book items name store count told at = sym (same_id image s book items name store count told) ∙ sym at

-- how many pages an edit touches is that of the series that is found
pub touch_found : (book : List Series) (found : Option ℕ) (id : ℕ) (series : Series) (touched : Series → ℕ) → found ≡ Some id
    → slice_get book id ≡ Some series → touched_at book found touched ≡ touched series
touch_found book found id series touched is there = ap (λ (o : Option ℕ). touched_at book o touched) is
    ∙ ap (λ (o : Option Series). touched_in o touched) there

pub is_axis : (book : List Series) (name : List ℕ) (id : ℕ) (one : StoredSeries) (axis : Axis) (is : IsFound book name id one)
    → axis.start ≡ one.start → axis.step ≡ one.step → axis.slots ≡ one.tree.slots → IsAxisOf is.series axis
is_axis book name id one axis is start step slots = record { start = start ∙ is.start; step = step ∙ is.step; slots = slots ∙ is.slots }

-- there is a series with an axis
pub a_series : (axis : Axis) → (series : Series) × IsAxisOf series axis
a_series axis = (
  record { name = []; start = axis.start; step = axis.step; scale = 0; slots = replicate axis.slots None },
  record { start = refl; step = refl; slots = sym (length-replicate axis.slots None) },
)

-- the last of so many slots stands at a time by the axis, and so it does by the series of the catalog
pub ends_as : (items : List StoredSeries) (id : ℕ) (one : StoredSeries) (axis : Axis) (n m : ℕ) → slice_get items id ≡ Some one
    → axis.start ≡ one.start → axis.step ≡ one.step → axis.slots ≡ one.tree.slots → n ≡ m
    → EndsInTime axis.start axis.step (max axis.slots n)
    → IfSome (slice_get items id) (λ one. EndsInTime one.start one.step (max one.tree.slots m))
ends_as items id one axis n m there start step slots same ends =
    let S : ℤ → Type 0 = λ z. EndsInTime z axis.step (max axis.slots n) in
    let T : ℕ → Type 0 = λ k. EndsInTime one.start k (max axis.slots n) in
    let L : ℕ → Type 0 = λ k. EndsInTime one.start one.step (max k n) in
    let N : ℕ → Type 0 = λ k. EndsInTime one.start one.step (max one.tree.slots k) in
    let Q : Option StoredSeries → Type 0 = λ o. IfSome o (λ one. EndsInTime one.start one.step (max one.tree.slots m)) in
    subst Q (sym there) (subst N same (subst L slots (subst T step (subst S start ends))))

-- the book has no series of the name
pub change_unknown : (book : List Series) (found : Option ℕ) (change : ℕ → Series → Result Edited Refusal) → found ≡ None
    → change_at book found change ≡ Err UnknownSeries
change_unknown book found change none = ap (λ (o : Option ℕ). change_at book o change) none

change_found : (book : List Series) (found : Option ℕ) (id : ℕ) (series : Series) (change : ℕ → Series → Result Edited Refusal)
    → found ≡ Some id → slice_get book id ≡ Some series → change_at book found change ≡ change id series
change_found book found id series change is there = ap (λ (o : Option ℕ). change_at book o change) is
    ∙ ap (λ (o : Option Series). change_series id o change) there

pub append_answer : (book : List Series) (total : ℕ) (name : List ℕ) (values : List (Option ℤ)) (id : ℕ) (series : Series)
    (slots : Result (List (Option ℤ)) Refusal) → id_of name book ≡ Some id → slice_get book id ≡ Some series
    → appended series values ≡ slots
    → apply book total (Append name values) ≡ within total book id series slots
append_answer book total name values id series slots is there says =
    change_found book (id_of name book) id series (λ id series. within total book id series (appended series values)) is there
    ∙ ap (λ (r : Result (List (Option ℤ)) Refusal). within total book id series r) says

pub set_answer : (book : List Series) (total : ℕ) (name : List ℕ) (time : ℤ) (values : List (Option ℤ)) (id : ℕ) (series : Series)
    (slots : Result (List (Option ℤ)) Refusal) → id_of name book ≡ Some id → slice_get book id ≡ Some series
    → set_at series time values ≡ slots → apply book total (Set name time values) ≡ within total book id series slots
set_answer book total name time values id series slots is there says =
    change_found book (id_of name book) id series (λ id series. within total book id series (set_at series time values)) is there
    ∙ ap (λ (r : Result (List (Option ℤ)) Refusal). within total book id series r) says

pub clear_answer : (book : List Series) (total : ℕ) (name : List ℕ) (time : ℤ) (count id : ℕ) (series : Series)
    (slots : Result (List (Option ℤ)) Refusal) → id_of name book ≡ Some id → slice_get book id ≡ Some series
    → cleared_at series time count ≡ slots
    → apply book total (Clear name time count) ≡ unbounded book id series slots
clear_answer book total name time count id series slots is there says =
    change_found book (id_of name book) id series (λ id series. unbounded book id series (cleared_at series time count)) is there
    ∙ ap (λ (r : Result (List (Option ℤ)) Refusal). unbounded book id series r) says

abbrev with_clear : List Series → ℕ → Series → List (Option ℤ) → ℕ → Result Edited Refusal
with_clear book id series slots n = Ok (record { book = with_slots book id series slots; slots = n })

-- the slots that are there are cleared
pub clear_there : (book : List Series) (total : ℕ) (name : List ℕ) (time : ℤ) (count id slot some : ℕ) (series : Series)
    → id_of name book ≡ Some id → slice_get book id ≡ Some series
    → cleared_at series time count ≡ Ok (cleared series.slots (slot_of series time) count) → slot ≡ slot_of series time
    → slot < length series.slots → some ≡ min (slot + count) (length series.slots) - slot
    → apply book total (Clear name time count) ≡ Ok
    (record { book = with_slots book id series (cleared series.slots slot some); slots = length series.slots })
clear_there book total name time count id slot some series is there says at low so =
    let same : cleared series.slots (slot_of series time) count ≡ cleared series.slots slot some =
    ap (λ n. cleared series.slots n count) (sym at) ∙ cleared_there series.slots slot count low
    ∙ ap (λ n. cleared series.slots slot n) (sym so) in
    clear_answer book total name time count id series (Ok (cleared series.slots (slot_of series time) count)) is there says
    ∙ ap (λ (slots : List (Option ℤ)). with_clear book id series slots (length slots)) same
    ∙ ap (λ n. with_clear book id series (cleared series.slots slot some) n)
    (length-cleared series.slots slot some (omega (arith, low, so)))

-- none of them is there
pub clear_none : (book : List Series) (total : ℕ) (name : List ℕ) (time : ℤ) (count id : ℕ) (series : Series) → id_of name book ≡ Some id
    → slice_get book id ≡ Some series
    → cleared_at series time count ≡ Ok (cleared series.slots (slot_of series time) count)
    → ((length series.slots ≤ slot_of series time) ⊎ (count ≡ 0))
    → apply book total (Clear name time count) ≡ Ok (record { book = book; slots = length series.slots })
clear_none book total name time count id series is there says why =
    let same : cleared series.slots (slot_of series time) count ≡ series.slots = cleared_nothing series.slots
    (slot_of series time) count why in
    clear_answer book total name time count id series (Ok (cleared series.slots (slot_of series time) count)) is there says
    ∙ ap (λ (slots : List (Option ℤ)). with_clear book id series slots (length slots)) same
    ∙ ap (λ (b : List Series). Ok (record { book = b; slots = length series.slots })) (same_slots book id series series.slots there refl)
