-- A clear of some slots of a series of a book.
use Rattle.std.proofs.Common.{◌≡◌, ◌≢◌, ℕ, ℤ, pos, ◌-◌, ◌*◌, ◌/◌, ◌%◌, ◌<◌, ◌≤◌, Bool, true, false, cond, ltb, List, length, map, get_or}
use Rattle.std.proofs.Common.{Option, None, Some, Result, Ok, unsigned_abs, refl, sym, ap, ◌∙◌, arith, inl, inr}
use Rattle.std.specs.Prelude.{int_lt, ◌-ℤ◌, ◌+ℤ◌, ◌==◌, not, nat_lt}
use Rattle.std.specs.List.{slice_get, position_or_len}
use Rattle.std.specs.Str.{bytes_eq}
use Rattle.std.proofs.lemmas.Int.{ints}
use Rattle.std.proofs.lemmas.Bool.Decides.{nat_tests}
use Rattle.std.proofs.lemmas.Bool.{cases_lt}
use Rattle.std.proofs.Math.Nat.{mul-div_cancel, mul-mod_left}
use Rattle.std.proofs.lemmas.List.{length-set, length-map, get_or-map, get_or-set_other}
use Rattle.std.proofs.lemmas.List.Sums.{position_or_len_is}
use Rattle.std.proofs.lemmas.Slice.Eq.{bytes_eq-Decides}
use Rattle.std.proofs.lemmas.List.Folds.{position_or_len-set}
use Rattle.std.proofs.lemmas.List.Sums.{sum_by-set}
use Rattle.std.proofs.lemmas.Option.{slice_get_within, slice_get-get_or, slice_get_past, get_or_from_slice_get}
use Rattle.series_book.specs.declared.limits.TheConstants.{MOST_CLEARED}
use Rattle.series_book.specs.declared.one_series.Series.{Series}
use Rattle.series_book.specs.declared.refusals.Refusal.{Refusal}
use Rattle.series_book.specs.Books.{IsBook}
use Rattle.series_book.specs.Edits.{Edited, apply, id_of, distance, place_of, is_off_grid, cleared, cleared_at, change_at, change_series}
use Rattle.series_book.specs.Edits.{unbounded, with_slots}
use Rattle.series_book.proofs.BookLemmas.{IsSeries-there}
use Rattle.series_book.proofs.LawLemmas.{IsBook-with_slots, cleared_fits}
use Rattle.series_book.proofs.EditLemmas.{slice_get-set}
use Rattle.retention.specs.Sweeps.{clear_of, slot_time, values_in, values_of}

-- the time of a slot stands on the grid, at that slot
far_off : (start : ℤ) (n : ℕ) → unsigned_abs (start +ℤ pos n -ℤ start) ≡ n
far_off start n = grind (arith, ints)

pub distance_at : (series : Series) (slot : ℕ) → distance series (slot_time series slot) ≡ slot * series.step
distance_at series slot = far_off series.start (slot * series.step)

pub place_at : (series : Series) (slot : ℕ) → 1 ≤ series.step → place_of series (slot_time series slot) ≡ slot
place_at series slot some = ap (λ n. n / series.step) (distance_at series slot) ∙ mul-div_cancel slot some

on_grid : (series : Series) (slot : ℕ) → is_off_grid series (slot_time series slot) ≡ false
on_grid series slot =
    let none : distance series (slot_time series slot) % series.step ≡ 0 = ap (λ n. n % series.step) (distance_at series slot)
    ∙ mul-mod_left slot series.step in
    ap (λ n. not (n == 0)) none

not_early : (start : ℤ) (n : ℕ) → int_lt (start +ℤ pos n) start ≡ false
not_early start n = grind (arith, ints)

few_enough : (n : ℕ) → n ≤ MOST_CLEARED → nat_lt MOST_CLEARED n ≡ false
few_enough n few = grind (arith, nat_tests)

-- a clear of some slots of a series is accepted
clears_at : (series : Series) (first end : ℕ) → 1 ≤ series.step → end - first ≤ MOST_CLEARED
    → cleared_at series (slot_time series first) (end - first) ≡ Ok (cleared series.slots first (end - first))
unfolding cleared_at
clears_at series first end some few =
    let grid : is_off_grid series (slot_time series first) ≡ false = on_grid series first in
    let late : int_lt (slot_time series first) series.start ≡ false = not_early series.start (first * series.step) in
    let short : nat_lt MOST_CLEARED (end - first) ≡ false = few_enough (end - first) few in
    let place : place_of series (slot_time series first) ≡ first = place_at series first some in
    rw (grid, late, short) (ap (λ n. Ok (cleared series.slots n (end - first))) place)

change_found : (book : List Series) (found : Option ℕ) (id : ℕ) (series : Series) (change : ℕ → Series → Result Edited Refusal)
    → found ≡ Some id → slice_get book id ≡ Some series → change_at book found change ≡ change id series
change_found book found id series change is there = ap (λ (o : Option ℕ). change_at book o change) is
    ∙ ap (λ (o : Option Series). change_series id o change) there

abbrev pub cleared_book : List Series → ℕ → Series → ℕ → ℕ → List Series
cleared_book book id series first end = with_slots book id series (cleared series.slots first (end - first))

pub clear_accepted : (total : ℕ) (book : List Series) (name : List ℕ) (id : ℕ) (series : Series) (first end : ℕ) → IsBook book
    → id_of name book ≡ Some id → slice_get book id ≡ Some series → end - first ≤ MOST_CLEARED
    → apply book total (clear_of name series first end) ≡ Ok
    (record { book = cleared_book book id series first end; slots = length (cleared series.slots first (end - first)) })
clear_accepted total book name id series first end is at there few =
    let some : 1 ≤ series.step = (IsSeries-there book id series is there).step_above_zero in
    change_found book (id_of name book) id series (λ at one. unbounded book at one (cleared_at one (slot_time series first) (end - first)))
    at there
    ∙ ap (λ (r : Result (List (Option ℤ)) Refusal). unbounded book id series r) (clears_at series first end some few)

-- the book that it makes
pub cleared_is_book : (book : List Series) (id : ℕ) (series : Series) (first end : ℕ) → IsBook book → slice_get book id ≡ Some series
    → IsBook (cleared_book book id series first end)
cleared_is_book book id series first end is there =
    let was = IsSeries-there book id series is there in
    IsBook-with_slots book id series (cleared series.slots first (end - first)) is there
    (cleared_fits series series.slots first (end - first) was.values_in_range was.slots_in_range was.last_in_range)

abbrev pub cleared_series : Series → ℕ → ℕ → Series
cleared_series series first end = record series { slots = cleared series.slots first (end - first) }

pub cleared_there : (book : List Series) (id : ℕ) (series : Series) (first end : ℕ) → slice_get book id ≡ Some series
    → slice_get (cleared_book book id series first end) id ≡ Some (cleared_series series first end)
cleared_there book id series first end there = slice_get-set book (cleared_book book id series first end) id series
    (cleared_series series first end) there refl

pub cleared_count : (book : List Series) (id : ℕ) (series : Series) (first end : ℕ)
    → length (cleared_book book id series first end) ≡ length book
cleared_count book id series first end = length-set book id (cleared_series series first end)

pub cleared_others : (book : List Series) (id other : ℕ) (series : Series) (first end : ℕ) → other ≢ id
    → slice_get (cleared_book book id series first end) other ≡ slice_get book other
cleared_others book id other series first end apart =
    let new : List Series = cleared_book book id series first end in
    let long : length new ≡ length book = cleared_count book id series first end in
    elim (cases_lt other (length book)) [
      | inl within ↦
          slice_get-get_or new other series (omega (arith, long, within))
          ∙ ap (λ x. Some x) (get_or-set_other book id other (cleared_series series first end) series apart)
          ∙ sym (slice_get-get_or book other series within)
      | inr past ↦ slice_get_past new other (omega (arith, long, past)) ∙ sym (slice_get_past book other past)
    ]

pub cleared_id : (book : List Series) (name : List ℕ) (id : ℕ) (series : Series) (first end : ℕ) → slice_get book id ≡ Some series
    → id_of name (cleared_book book id series first end) ≡ id_of name book
unfolding id_of
cleared_id book name id series first end there =
    let test : Series → Bool = λ one. bytes_eq one.name name in
    let new : List Series = cleared_book book id series first end in
    let same : test (cleared_series series first end) ≡ test (get_or book id series) = ap test
    (sym (get_or_from_slice_get book id series series there)) in
    let at : position_or_len test new ≡ position_or_len test book = position_or_len-set test book id
    (cleared_series series first end) series same in
    let long : length new ≡ length book = cleared_count book id series first end in
    rw (at, long) refl

pub cleared_values : (book : List Series) (id : ℕ) (series : Series) (first end : ℕ) → slice_get book id ≡ Some series
    → values_in (cleared series.slots first (end - first)) < values_in series.slots
    → values_of (cleared_book book id series first end) < values_of book
cleared_values book id series first end there less =
    let values : Series → ℕ = λ one. values_in one.slots in
    let same : values (get_or book id series) ≡ values series = ap values (get_or_from_slice_get book id series series there) in
    omega (arith, sum_by-set values book id (cleared_series series first end) series (slice_get_within book id series there), same, less)

-- the id of a series is that of its name
at_first : (n id m : ℕ) → n ≡ id → id < m → cond (ltb n m) (Some n) None ≡ Some id
at_first n id m is within = let test : ltb n m ≡ true = grind (arith, nat_tests) in rw test (ap (λ k. Some k) is)

pub id_by_name : (book : List Series) (id : ℕ) (series : Series) → IsBook book → slice_get book id ≡ Some series
    → id_of series.name book ≡ Some id
unfolding id_of
id_by_name book id series is there =
    let test : Series → Bool = λ one. bytes_eq one.name series.name in
    let name : Series → List ℕ = λ one. one.name in
    let within : id < length book = slice_get_within book id series there in
    let here : get_or book id series ≡ series = get_or_from_slice_get book id series series there in
    let passes : test (get_or book id series) ≡ true = (bytes_eq-Decides (get_or book id series).name series.name).1 (ap name here) in
    let fails : (k : ℕ) → k < id → test (get_or book k series) ≡ false = λ k before.
    let long : k < length book = omega (arith, before, within) in
    let one : get_or (map name book) k series.name ≡ (get_or book k series).name = get_or-map name book k series series.name long in
    let other : get_or (map name book) id series.name ≡ (get_or book id series).name = get_or-map name book id series series.name within in
    let apart : get_or (map name book) k series.name ≢ get_or (map name book) id series.name = is.distinct k id series.name before
    (omega (arith, within, length-map book name)) in
    not_equal (get_or book k series).name series.name (λ same. apart (one ∙ same ∙ sym (ap name here) ∙ sym other)) in
    at_first (position_or_len test book) id (length book)
    (position_or_len_is test book id series (omega (arith, within)) fails (λ low. passes)) within
  where
    not_equal : (xs ys : List ℕ) → xs ≢ ys → bytes_eq xs ys ≡ false
    not_equal xs ys apart = by (bytes_eq xs ys) refl
      where
        by : (b : Bool) → bytes_eq xs ys ≡ b → b ≡ false
        by true is = absurd (apart ((bytes_eq-Decides xs ys).0 is))
        by false is = refl
