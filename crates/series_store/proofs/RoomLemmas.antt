-- There is room for an edit, by how many pages it puts at most.
use Rattle.std.proofs.Common.{◌≡◌, ℕ, ℤ, ◌+◌, ◌-◌, ◌-ℤ◌, ◌/◌, ◌<◌, ◌≤◌, ◌⊎◌, min, max, List, length, slice_get, Option, None, Some, IfSome}
use Rattle.std.proofs.Common.{unsigned_abs, refl, sym, ap, subst, arith, inl, inr, ◌∙◌}
use Rattle.path_repair.proofs.CallLemmas.{clear_puts}
use Rattle.path_repair.proofs.EditLemmas.{levels_few}
use Rattle.series_book.specs.declared.axis.Axis.{Axis}
use Rattle.series_book.specs.declared.edits.Edit.{Edit}
use Rattle.series_book.specs.declared.edits.Edit.TheVariants.{Create, Append, Set, Clear}
use Rattle.series_book.specs.declared.limits.TheConstants.{MOST_CLEARED, MOST_SLOTS, MOST_VALUES}
use Rattle.series_book.specs.declared.one_series.Series.{Series}
use Rattle.series_book.specs.Axes.{IsAxisOf}
use Rattle.series_book.specs.Edits.{place_of as slot_of}
use Rattle.series_catalog.specs.Catalogs.{AreFit, place_of}
use Rattle.series_catalog.specs.declared.stored_series.StoredSeries.{StoredSeries}
use Rattle.tree_walk.specs.declared.tree.Tree.{Tree}
use Rattle.series_store.specs.Staging.{AreInRange, ForNamed, HasRoomAt, HasRoomFor, HasRoomIn, puts_in, slot_at_time}
use Rattle.series_store.proofs.RecordLemmas.{known_some}
use Rattle.series_store.proofs.StageLemmas.{clear_touch, run_pages}

-- a set and an append put sixteen pages at most, a clear 41
pub run_few : (tree : Tree) (first n : ℕ) → n ≤ 256 → puts_in tree first (first + n) ≤ 16
run_few tree first n few = omega (arith, run_pages first n tree.slots (max tree.slots (first + n)) few)

pub cleared_few : (tree : Tree) (first n : ℕ) → n ≤ 4096 → first + n ≤ tree.slots → puts_in tree first (first + n) ≤ 41
cleared_few tree first n few within =
    omega (arith, clear_touch first (first + n) tree.slots tree.slots refl within, clear_puts first n tree.slots few, levels_few tree.slots)

pub range_few : (tree : Tree) (first n slots : ℕ) → tree.slots ≡ slots → (n ≤ MOST_VALUES) ⊎ ((n ≤ MOST_CLEARED) × (first + n ≤ slots))
    → puts_in tree first (first + n) ≤ 41
range_few tree first n slots is (inl run) = omega (arith, run_few tree first n run)
range_few tree first n slots is (inr clear) = cleared_few tree first n clear.0 (omega (arith, is, clear.1))

pub in_range : (fresh : ℕ) (items : List StoredSeries) → AreFit fresh items → AreInRange items
in_range fresh items fit id one there = let is = fit id one there in (is.slots, is.step_low)

-- what is so of the series of the name is so of this one
pub for_named : (items : List StoredSeries) (name : List ℕ) (id : ℕ) (one : StoredSeries) (IsSo : StoredSeries → Type 0)
    → place_of name items ≡ Some id → slice_get items id ≡ Some one → ForNamed items name IsSo → IsSo one
for_named items name id one IsSo named there so = known_some (slice_get items id) one IsSo there
    (known_some (place_of name items) id (λ k. IfSome (slice_get items k) IsSo) named so)

-- and what is so of this one is so of that of the name
pub named_so : (items : List StoredSeries) (name : List ℕ) (id : ℕ) (one : StoredSeries) (IsSo : StoredSeries → Type 0)
    → place_of name items ≡ Some id → slice_get items id ≡ Some one → IsSo one → ForNamed items name IsSo
named_so items name id one IsSo named there so =
    let O : Option ℕ → Type 0 = λ o. IfSome o (λ k. IfSome (slice_get items k) IsSo) in
    let S : Option StoredSeries → Type 0 = λ o. IfSome o IsSo in
    subst O (sym named) (subst S (sym there) so)

pub none_named : (items : List StoredSeries) (name : List ℕ) (IsSo : StoredSeries → Type 0) → place_of name items ≡ None
    → ForNamed items name IsSo
none_named items name IsSo none =
    let O : Option ℕ → Type 0 = λ o. IfSome o (λ k. IfSome (slice_get items k) IsSo) in
    subst O (sym none) tt

-- the slot at a time by the axis of a series is that by the series
pub slot_as : (axis : Axis) (one : StoredSeries) (series : Series) → IsAxisOf series axis → (time : ℤ) → axis.start ≡ one.start
    → axis.step ≡ one.step → slot_of series time ≡ slot_at_time one time
slot_as axis one series is time start step = ap (λ z. unsigned_abs (time -ℤ z) / series.step) (sym is.start ∙ start)
    ∙ ap (λ n. unsigned_abs (time -ℤ one.start) / n) (sym is.step ∙ step)

-- there is room for a change of the series of this id
pub room_at : (pages : ℕ) (items : List StoredSeries) (id first end slot to : ℕ) (one : StoredSeries) → slice_get items id ≡ Some one
    → HasRoomIn pages one.tree first end → slot ≡ first → to ≡ end → HasRoomAt pages items id slot to
room_at pages items id first end slot to one there room at is =
    let S : Option StoredSeries → Type 0 = λ o. IfSome o (λ one. HasRoomIn pages one.tree slot to) in
    let F : ℕ → Type 0 = λ n. HasRoomIn pages one.tree n to in
    let E : ℕ → Type 0 = λ n. HasRoomIn pages one.tree first n in
    subst S (sym there) (subst F (sym at) (subst E (sym is) room))

some_slot : (o : Option StoredSeries) (IsSo : StoredSeries → Type 0) → ((one : StoredSeries) → IsSo one) → IfSome o IsSo
some_slot None IsSo all = tt
some_slot (Some one) IsSo all = all one

some_place : (items : List StoredSeries) (o : Option ℕ) (IsSo : StoredSeries → Type 0) → ((one : StoredSeries) → IsSo one)
    → IfSome o (λ k. IfSome (slice_get items k) IsSo)
some_place items None IsSo all = tt
some_place items (Some k) IsSo all = some_slot (slice_get items k) IsSo all

-- so many slots from one on, as far as there are
cut_few : (tree : Tree) (first count : ℕ) → count ≤ 4096 → first < tree.slots → puts_in tree first (min (first + count) tree.slots) ≤ 41
cut_few tree first count few within =
    let n = min (first + count) tree.slots - first in
    let all : first + n ≡ min (first + count) tree.slots = omega (arith, within) in
    omega (arith, cleared_few tree first n (omega (arith, few)) (omega (arith, all)), ap (λ k. puts_in tree first k) all)

-- a transaction with no more than 23 pages has room for any edit
pub first_room : (pages : ℕ) (items : List StoredSeries) (edit : Edit) → pages ≤ 23 → HasRoomFor pages items edit
first_room pages items (Create name start step scale) few = omega (arith, few)
first_room pages items (Append name values) few =
    some_place items (place_of name items) (λ one. length values ≤ MOST_VALUES → one.tree.slots + length values ≤ MOST_SLOTS
    → HasRoomIn pages one.tree one.tree.slots (one.tree.slots + length values))
    (λ one short within. omega (arith, few, run_few one.tree one.tree.slots (length values) short))
first_room pages items (Set name time values) few =
    some_place items (place_of name items)
    (λ one. length values ≤ MOST_VALUES → slot_at_time one time + length values ≤ MOST_SLOTS
    → HasRoomIn pages one.tree (slot_at_time one time) (slot_at_time one time + length values))
    (λ one short within. omega (arith, few, run_few one.tree (slot_at_time one time) (length values) short))
first_room pages items (Clear name time count) few =
    some_place items (place_of name items)
    (λ one. 0 < count → count ≤ MOST_CLEARED → slot_at_time one time < one.tree.slots
    → HasRoomIn pages one.tree (slot_at_time one time) (min (slot_at_time one time + count) one.tree.slots))
    (λ one some short within. omega (arith, few, cut_few one.tree (slot_at_time one time) count short within))
