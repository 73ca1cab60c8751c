use Rattle.std.proofs.Common.{◌≡◌, ℕ, ◌+◌, ◌-◌, ◌<◌, ◌≤◌, min, max, Bool, true, false, cond, ltb, leb, List, [], ◌∷◌, ◌++◌, length, take}
use Rattle.std.proofs.Common.{drop, replicate, Option, Some, None, Result, Ok, Err, ℤ, All, refl, sym, ap, subst, arith}
use Rattle.std.specs.List.{list_any, slice_get}
use Rattle.std.specs.Option.{is_some}
use Rattle.std.specs.Prelude.{int_lt, not, ◌||◌, IsTrue}
use Rattle.std.proofs.lemmas.Bool.Decides.{nat_tests}
use Rattle.std.proofs.lemmas.List.{length-append, length-replicate, length-take, length-drop}
use Rattle.std.proofs.lemmas.List.Elements.{All-append, All-take, All-drop, All-replicate}
use Rattle.series_book.specs.declared.limits.TheConstants.{MOST_SLOTS, MOST_SERIES, MOST_VALUES, MOST_CLEARED}
use Rattle.whole_number.specs.SlotTimes.{ends_in_time, EndsInTime}
use Rattle.whole_number.proofs.SlotTimes.{fewer_in_time}
use Rattle.series_book.specs.declared.one_series.Series.{Series}
use Rattle.series_book.specs.declared.edits.Edit.{Edit}
use Rattle.series_book.specs.declared.edits.Edit.TheVariants.{Create, Append, Set, Clear}
use Rattle.series_book.specs.declared.refusals.Refusal.{Refusal}
use Rattle.series_book.specs.declared.refusals.Refusal.TheVariants.{SeriesExists, TooManySeries, OffGrid, BeforeStart, ValueTooLarge}
use Rattle.series_book.specs.declared.refusals.Refusal.TheVariants.{RangeTooLong, SeriesFull, Full}
use Rattle.series_book.specs.Books.{IsSeries, IsBook, IsNamed}
use Rattle.series_book.specs.Edits.{Edited, IsEdit, apply, id_of, is_too_large, is_off_grid, is_overfull, overwritten, cleared, unless}
use Rattle.series_book.specs.Edits.{appended, set_at, cleared_at, place_of, created, fitted, within, unbounded, change_series, change_at}
use Rattle.series_book.specs.Edits.{with_slots}
use Rattle.series_book.specs.Pages.{pages_of}
use Rattle.series_book.proofs.BookLemmas.{IsSeries-new, IsBook-push, IsBook-set, IsSeries-there}
use Rattle.series_book.proofs.EditLemmas.{none_from_test}
use Rattle.series_book.proofs.SlotLemmas.{none_too_large, length-overwritten}

-- slots that this series may have
pub record AreInRange (series : Series) (slots : List (Option ℤ)) : Type 0 where
  pub short : length slots ≤ MOST_SLOTS
  pub last : EndsInTime series.start series.step (length slots)
  pub fit : All (λ value. is_too_large value ≡ false) slots

-- other slots in a series
pub IsBook-with_slots : (book : List Series) (id : ℕ) (series : Series) (slots : List (Option ℤ)) → IsBook book
    → slice_get book id ≡ Some series
    → AreInRange series slots → IsBook (with_slots book id series slots)
IsBook-with_slots book id series slots is there fits =
    let was : IsSeries series = IsSeries-there book id series is there in
    IsBook-set book id series (record series { slots = slots }) is there
    (record {
      named = was.named;
      start_in_range = was.start_in_range;
      step_above_zero = was.step_above_zero;
      step_in_range = was.step_in_range;
      scale_in_range = was.scale_in_range;
      slots_in_range = fits.short;
      last_in_range = fits.last;
      values_in_range = fits.fit;
    })
    refl

-- no cause stands
abbrev pub NoneStands : List (Bool × Refusal) → Type 0
NoneStands [] = Unit {0}
NoneStands (cause ∷ causes) = (cause.0 ≡ false) × NoneStands causes

-- slots are given where no cause stands
unless_ok : (causes : List (Bool × Refusal)) (slots given : List (Option ℤ)) → unless causes slots ≡ Ok given
    → NoneStands causes × (given ≡ slots)
unless_ok [] slots given is = (tt, cc)
unless_ok (cause ∷ causes) slots given is =
    let here : (b : Bool) → cause.0 ≡ b → cond b (Err cause.1) (unless causes slots) ≡ Ok given → ((cause.0 ≡ false) × NoneStands causes)
    × (given ≡ slots) =
    λ b. elim b as (λ b. cause.0 ≡ b → cond b (Err cause.1) (unless causes slots) ≡ Ok given → ((cause.0 ≡ false) × NoneStands causes)
    × (given ≡ slots)) [
      | true ↦ λ _ refused. cc
      | false ↦ λ stands_not rest. let more = unless_ok causes slots given rest in ((stands_not, more.0), more.1)
    ] in
    here cause.0 refl is

-- so many slots are few, and the last is in time, where they aren't too many
not_overfull : (series : Series) (n : ℕ) → is_overfull series n ≡ false → (n ≤ MOST_SLOTS) × EndsInTime series.start series.step n
not_overfull series n room =
    let ends : Bool = ends_in_time series.start series.step n in
    let here : (b : Bool) → ltb MOST_SLOTS n ≡ b → (b || not ends) ≡ false → (n ≤ MOST_SLOTS) × IsTrue ends =
    λ b. elim b as (λ b. ltb MOST_SLOTS n ≡ b → (b || not ends) ≡ false → (n ≤ MOST_SLOTS) × IsTrue ends) [
      | true ↦ λ many full. cc
      | false ↦ λ few late. (grind (arith, nat_tests), grind (arith, late))
    ] in
    here (ltb MOST_SLOTS n) refl room

-- what an append gives is in range
pub appended_fits : (series : Series) (values slots : List (Option ℤ)) → IsSeries series → appended series values ≡ Ok slots
    → AreInRange series slots
unfolding appended
appended_fits series values slots is given =
    let found = unless_ok ((list_any is_too_large values, ValueTooLarge) ∷ (
      ltb MOST_VALUES (length values),
      RangeTooLong,
    ) ∷ (is_overfull series (length series.slots + length values), SeriesFull) ∷ [])
    (series.slots ++ values) slots given in
    let small : list_any is_too_large values ≡ false = found.0.0 in
    let room = not_overfull series (length series.slots + length values) found.0.1.1.0 in
    subst (AreInRange series) (sym found.1) (record {
      short = omega (arith, room.0, length-append series.slots values);
      last = subst (EndsInTime series.start series.step) (sym (length-append series.slots values)) room.1;
      fit = All-append (λ value. is_too_large value ≡ false) series.slots values is.values_in_range (none_too_large values small);
    })

-- values stay in range where a run of such ones is written over them
pub overwritten_values : (slots run : List (Option ℤ)) (place : ℕ) → All (λ value. is_too_large value ≡ false) slots
    → All (λ value. is_too_large value ≡ false) run
    → All (λ value. is_too_large value ≡ false) (overwritten slots place run)
unfolding overwritten
overwritten_values slots run place old new =
    let fits : Option ℤ → Type 0 = λ value. is_too_large value ≡ false in
    All-append fits (take place slots ++ replicate (place - length slots) None ++ run) (drop (place + length run) slots)
    (All-append fits (take place slots ++ replicate (place - length slots) None) run
    (All-append fits (take place slots) (replicate (place - length slots) None) (All-take fits place slots old)
    (All-replicate fits (place - length slots) None refl))
    new)
    (All-drop fits (place + length run) slots old)

-- a run over slots is in range
pub overwritten_fits : (series : Series) (slots run : List (Option ℤ)) (place : ℕ) → All (λ value. is_too_large value ≡ false) slots
    → All (λ value. is_too_large value ≡ false) run
    → length slots ≤ MOST_SLOTS → place + length run ≤ MOST_SLOTS
    → EndsInTime series.start series.step (max (length slots) (place + length run)) → AreInRange series (overwritten slots place run)
unfolding overwritten
overwritten_fits series slots run place old new short room last = record {
  short = omega (
    arith,
    length-append {A = Option ℤ},
    length-take {A = Option ℤ},
    length-drop {A = Option ℤ},
    length-replicate {A = Option ℤ},
  );
  last = subst (EndsInTime series.start series.step) (sym (length-overwritten slots run place)) last;
  fit = overwritten_values slots run place old new;
}

-- so do those that a clear leaves
pub cleared_values : (slots : List (Option ℤ)) (place count : ℕ) → All (λ value. is_too_large value ≡ false) slots
    → All (λ value. is_too_large value ≡ false) (cleared slots place count)
unfolding cleared
cleared_values slots place count old =
    let fits : Option ℤ → Type 0 = λ value. is_too_large value ≡ false in
    All-append fits (take place slots ++ replicate (min (place + count) (length slots) - place) None) (drop (place + count) slots)
    (All-append fits (take place slots) (replicate (min (place + count) (length slots) - place) None) (All-take fits place slots old)
    (All-replicate fits (min (place + count) (length slots) - place) None refl))
    (All-drop fits (place + count) slots old)

-- so is what a clear leaves
pub cleared_fits : (series : Series) (slots : List (Option ℤ)) (place count : ℕ) → All (λ value. is_too_large value ≡ false) slots
    → length slots ≤ MOST_SLOTS
    → EndsInTime series.start series.step (length slots) → AreInRange series (cleared slots place count)
unfolding cleared
cleared_fits series slots place count old short last = record {
  short = omega (
    arith,
    length-append {A = Option ℤ},
    length-take {A = Option ℤ},
    length-drop {A = Option ℤ},
    length-replicate {A = Option ℤ},
  );
  last = fewer_in_time series.start series.step (length slots) (length (cleared slots place count))
      (omega (arith, length-append {A = Option ℤ}, length-take {A = Option ℤ}, length-drop {A = Option ℤ}, length-replicate {A = Option ℤ}))
      last;
  fit = cleared_values slots place count old;
}

-- what a set gives is in range
pub set_fits : (series : Series) (time : ℤ) (values slots : List (Option ℤ)) → IsSeries series → set_at series time values ≡ Ok slots
    → AreInRange series slots
unfolding set_at
set_fits series time values slots is given =
    let found = unless_ok ((is_off_grid series time, OffGrid) ∷ (int_lt time series.start, BeforeStart) ∷ (
      list_any is_too_large values,
      ValueTooLarge,
    ) ∷ (ltb MOST_VALUES (length values), RangeTooLong)
    ∷ (is_overfull series (max (length series.slots) (place_of series time + length values)), SeriesFull) ∷ [])
    (overwritten series.slots (place_of series time) values) slots given in
    let small : list_any is_too_large values ≡ false = found.0.1.1.0 in
    let room = not_overfull series (max (length series.slots) (place_of series time + length values)) found.0.1.1.1.1.0 in
    subst (AreInRange series) (sym found.1)
    (overwritten_fits series series.slots values (place_of series time) is.values_in_range (none_too_large values small) is.slots_in_range
    (omega (arith, room.0)) room.1)

clear_fits : (series : Series) (time : ℤ) (count : ℕ) (slots : List (Option ℤ)) → IsSeries series → cleared_at series time count ≡ Ok slots
    → AreInRange series slots
unfolding cleared_at
clear_fits series time count slots is given =
    let found = unless_ok ((is_off_grid series time, OffGrid) ∷ (int_lt time series.start, BeforeStart) ∷ (
      ltb MOST_CLEARED count,
      RangeTooLong,
    ) ∷ [])
    (cleared series.slots (place_of series time) count) slots given in
    subst (AreInRange series) (sym found.1) (cleared_fits series series.slots
    (place_of series time) count is.values_in_range is.slots_in_range is.last_in_range)

-- a book whose pages are within the total is the one that was asked about
fitted_book : (total : ℕ) (book : List Series) (slots : ℕ) (edited : Edited) → fitted total book slots ≡ Ok edited → edited.book ≡ book
unfolding fitted
fitted_book total book slots edited is =
    let here : (b : Bool) → cond b (Err (Full (pages_of book) total)) (Ok (record { book = book; slots = slots })) ≡ Ok edited
    → edited.book ≡ book =
    λ b. elim b as (λ b. cond b (Err (Full (pages_of book) total)) (Ok (record { book = book; slots = slots })) ≡ Ok edited
    → edited.book ≡ book) [
      | true ↦ λ refused. cc
      | false ↦ λ same. let other : record { book = book; slots = slots } ≡ edited = cc in ap (λ (edited : Edited). edited.book) (sym other)
    ] in
    here (ltb total (pages_of book)) is

-- a change of one series, given its slots in range
within_keeps : (total : ℕ) (book : List Series) (id : ℕ) (series : Series) (slots : Result (List (Option ℤ)) Refusal) (edited : Edited)
    → IsBook book → slice_get book id ≡ Some series
    → ((given : List (Option ℤ)) → slots ≡ Ok given → AreInRange series given) → within total book id series slots ≡ Ok edited
    → IsBook edited.book
within_keeps total book id series (Err refusal) edited is there fits given = cc
within_keeps total book id series (Ok slots) edited is there fits given =
    subst IsBook (sym (fitted_book total (with_slots book id series slots) (length slots) edited given))
    (IsBook-with_slots book id series slots is there (fits slots refl))

unbounded_keeps : (book : List Series) (id : ℕ) (series : Series) (slots : Result (List (Option ℤ)) Refusal) (edited : Edited) → IsBook book
    → slice_get book id ≡ Some series
    → ((given : List (Option ℤ)) → slots ≡ Ok given → AreInRange series given) → unbounded book id series slots ≡ Ok edited
    → IsBook edited.book
unbounded_keeps book id series (Err refusal) edited is there fits given = cc
unbounded_keeps book id series (Ok slots) edited is there fits given =
    let same : record { book = with_slots book id series slots; slots = length slots } ≡ edited = cc in
    subst IsBook (ap (λ (edited : Edited). edited.book) same) (IsBook-with_slots book id series slots is there (fits slots refl))

change_series_keeps : (book : List Series) (id : ℕ) (there : Option Series) (change : ℕ → Series → Result Edited Refusal) (edited : Edited)
    → slice_get book id ≡ there
    → ((series : Series) → slice_get book id ≡ Some series → change id series ≡ Ok edited → IsBook edited.book)
    → change_series id there change ≡ Ok edited → IsBook edited.book
change_series_keeps book id None change edited is keeps given = cc
change_series_keeps book id (Some series) change edited is keeps given = keeps series is given

change_at_keeps : (book : List Series) (found : Option ℕ) (change : ℕ → Series → Result Edited Refusal) (edited : Edited)
    → ((id : ℕ) (series : Series) → slice_get book id ≡ Some series → change id series ≡ Ok edited → IsBook edited.book)
    → change_at book found change ≡ Ok edited → IsBook edited.book
change_at_keeps book None change edited keeps given = cc
change_at_keeps book (Some id) change edited keeps given = change_series_keeps book id (slice_get book id) change edited refl
    (keeps id) given

created_keeps : (book : List Series) (series : Series) (edited : Edited) → IsBook book → IsSeries series → created book series ≡ Ok edited
    → IsBook edited.book
unfolding created
created_keeps book series edited is in_range given =
    let last : (b : Bool) → leb MOST_SERIES (length book) ≡ b → is_some (id_of series.name book) ≡ false
    → cond b (Err TooManySeries) (Ok (record { book = book ++ series ∷ []; slots = 0 })) ≡ Ok edited → IsBook edited.book =
    λ b. elim b as (λ b. leb MOST_SERIES (length book) ≡ b → is_some (id_of series.name book) ≡ false
    → cond b (Err TooManySeries) (Ok (record { book = book ++ series ∷ []; slots = 0 })) ≡ Ok edited → IsBook edited.book) [
      | true ↦ λ full new refused. cc
      | false ↦ λ room new same.
          let other : record { book = book ++ series ∷ []; slots = 0 } ≡ edited = cc in
          let few : length book < MOST_SERIES = grind (arith, nat_tests) in
          subst IsBook (ap (λ (edited : Edited). edited.book) other) (IsBook-push book series is in_range (none_from_test _ new) few)
    ] in
    let here : (b : Bool) → is_some (id_of series.name book) ≡ b
    → cond b (Err SeriesExists) (cond (leb MOST_SERIES (length book)) (Err TooManySeries)
    (Ok (record { book = book ++ series ∷ []; slots = 0 }))) ≡ Ok edited → IsBook edited.book =
    λ b. elim b as (λ b. is_some (id_of series.name book) ≡ b
    → cond b (Err SeriesExists) (cond (leb MOST_SERIES (length book)) (Err TooManySeries)
    (Ok (record { book = book ++ series ∷ []; slots = 0 }))) ≡ Ok edited → IsBook edited.book) [
      | true ↦ λ there refused. cc
      | false ↦ λ new rest. last (leb MOST_SERIES (length book)) refl new rest
    ] in
    here (is_some (id_of series.name book)) refl given

-- an accepted edit makes a book of a book
pub edits_keep : (book : List Series) (total : ℕ) (edit : Edit) (edited : Edited) → IsBook book → IsEdit edit → IsNamed edit
    → apply book total edit ≡ Ok edited → IsBook edited.book
edits_keep book total (Create name start step scale) edited is may named given =
    created_keeps book (record { name = name; start = start; step = step; scale = scale; slots = [] }) edited is
    (IsSeries-new name start step scale _ refl named may.0 may.1 may.2 may.3)
    given
edits_keep book total (Append name values) edited is may named given =
    change_at_keeps book (id_of name book) _ edited
    (λ id series there change. within_keeps total book id series (appended series values) edited is there
    (λ slots is_ok. appended_fits series values slots (IsSeries-there book id series is there) is_ok) change)
    given
edits_keep book total (Set name time values) edited is may named given =
    change_at_keeps book (id_of name book) _ edited
    (λ id series there change. within_keeps total book id series (set_at series time values) edited is there
    (λ slots is_ok. set_fits series time values slots (IsSeries-there book id series is there) is_ok) change)
    given
edits_keep book total (Clear name time count) edited is may named given =
    change_at_keeps book (id_of name book) _ edited
    (λ id series there change. unbounded_keeps book id series (cleared_at series time count) edited is there
    (λ slots is_ok. clear_fits series time count slots (IsSeries-there book id series is there) is_ok) change)
    given
