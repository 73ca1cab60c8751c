use Rattle.std.proofs.Common.{◌≡◌, ◌≢◌, ℕ, ◌+◌, ◌-◌, ◌*◌, ◌<◌, ◌≤◌, min, max, Bool, true, false, cond, ltb, List, [], ◌∷◌, ◌++◌, length}
use Rattle.std.proofs.Common.{take, drop, replicate, map, set, get_or, Option, Some, None, ℤ, All, AllPairs, sum_by, refl, sym, ap, ◌∙◌}
use Rattle.std.proofs.Common.{subst, arith}
use Rattle.std.specs.List.{position_or_len, slice_get}
use Rattle.std.specs.Prelude.{unsigned_abs, IsTrue}
use Rattle.std.specs.Str.{bytes_eq}
use Rattle.std.specs.Option.{IsSomeAnd}
use Rattle.std.proofs.Math.Seq.{map-set_same}
use Rattle.std.proofs.lemmas.Bool.Decides.{nat_tests}
use Rattle.std.proofs.lemmas.List.{get_or-set_same, take_all, length-append, length-replicate, length-take, length-drop, length-set}
use Rattle.std.proofs.lemmas.List.{length_push, length-map, map_push, get_or-map}
use Rattle.std.proofs.lemmas.List.Elements.{All-push, All-set, All-append, All-take, All-drop, All-replicate}
use Rattle.std.proofs.lemmas.List.Quantifiers.{all_pairs_push}
use Rattle.std.proofs.lemmas.List.Sums.{fails_before_first, sum_by-set, sum_by_push, sum_by-le, get_or-le-sum_by}
use Rattle.std.proofs.lemmas.Option.{get_or_from_slice_get, slice_get_within, slice_get_read}
use Rattle.std.proofs.lemmas.Slice.Eq.{bytes_eq-Decides}
use Rattle.series_book.specs.declared.limits.TheConstants.{MOST_SLOTS, MOST_SERIES, FIXED_PAGES, GREATEST_START, GREATEST_STEP}
use Rattle.series_book.specs.declared.limits.TheConstants.{GREATEST_SCALE}
use Rattle.whole_number.specs.SlotTimes.{EndsInTime}
use Rattle.whole_number.proofs.SlotTimes.{none_in_time, fewer_in_time}
use Rattle.series_book.specs.declared.one_series.Series.{Series}
use Rattle.series_book.specs.Books.{IsSeries, IsBook}
use Rattle.series_book.specs.Names.{is_name}
use Rattle.series_book.specs.Edits.{id_of, is_too_large, overwritten}
use Rattle.series_book.specs.Pages.{series_pages, pages_of}
use Rattle.series_book.proofs.PageLemmas.{series_pages_few}
use Rattle.series_book.proofs.SlotLemmas.{length-overwritten}

-- a place that isn't there is past the end
past_all : (n m : ℕ) → cond (ltb n m) (Some n) None ≡ None → m ≤ n
past_all n m none = grind (arith, nat_tests)

-- where no series has the name, the name of each is another
id_of-none : (name : List ℕ) (book : List Series) → id_of name book ≡ None
    → (k : ℕ) (d : Series) → k < length book → (get_or book k d).name ≢ name
unfolding id_of
id_of-none name book none k d within same =
    let test : Series → Bool = λ series. bytes_eq series.name name in
    let past : length book ≤ position_or_len test book = past_all (position_or_len test book) (length book) none in
    let fails : test (get_or book k d) ≡ false = fails_before_first test book k d (omega arith) in
    let passes : test (get_or book k d) ≡ true = (bytes_eq-Decides (get_or book k d).name name).1 same in
    let both : true ≡ false = sym passes ∙ fails in
    cc

-- a series with a new name after the others
pub IsBook-push : (book : List Series) (series : Series) → IsBook book → IsSeries series → id_of series.name book ≡ None
    → length book < MOST_SERIES → IsBook (book ++ series ∷ [])
IsBook-push book series is in_range new room = record {
  few = omega (arith, length_push book series);
  all_in_range = All-push IsSeries book series is.all_in_range in_range;
  distinct =
      let name : Series → List ℕ = λ series. series.name in
      let P : List (List ℕ) → Type 0 = λ xs. AllPairs (λ one other. one ≢ other) xs in
      let others : (k : ℕ) (d : List ℕ) → k < length (map name book) → get_or (map name book) k d ≢ series.name =
      λ k d within same.
      let within' : k < length book = omega (arith, length-map book name) in
      id_of-none series.name book new k series within' (sym (get_or-map name book k series d within') ∙ same) in
      subst P (sym (map_push name book series)) (all_pairs_push (λ one other. one ≢ other) (map name book) series.name is.distinct others);
}

-- a series of the same name in place of one
pub IsBook-set : (book : List Series) (id : ℕ) (old new : Series) → IsBook book → slice_get book id ≡ Some old
    → IsSeries new → new.name ≡ old.name → IsBook (set book id new)
IsBook-set book id old new is there in_range named = record {
  few = omega (arith, is.few, length-set book id new);
  all_in_range = All-set IsSeries book id new in_range is.all_in_range;
  distinct =
      let names : List Series → List (List ℕ) = map (λ series. series.name) in
      let same : new.name ≡ (get_or book id old).name = named
      ∙ ap (λ series. series.name) (sym (get_or_from_slice_get book id old old there)) in
      let P : List (List ℕ) → Type 0 = λ xs. AllPairs (λ one other. one ≢ other) xs in
      subst P (sym (map-set_same (λ series. series.name) book id new old same)) is.distinct;
}

-- a series without slots
pub IsSeries-new : (name : List ℕ) (start : ℤ) (step scale : ℕ) (series : Series)
    → series ≡ record { name = name; start = start; step = step; scale = scale; slots = [] }
    → IsTrue (is_name name) → unsigned_abs start ≤ GREATEST_START → 1 ≤ step → step ≤ GREATEST_STEP → scale ≤ GREATEST_SCALE
    → IsSeries series
IsSeries-new name start step scale series series_is named start_fits step_above step_fits scale_fits =
    subst IsSeries (sym series_is)
    (record {
      named = named;
      start_in_range = start_fits;
      step_above_zero = step_above;
      step_in_range = step_fits;
      scale_in_range = scale_fits;
      slots_in_range = omega arith;
      last_in_range = none_in_time start step;
      values_in_range = λ k d within. absurd (omega arith);
    })

-- a series with a run over its slots
pub IsSeries-overwritten : (series : Series) (place : ℕ) (run : List (Option ℤ)) → IsSeries series
    → All (λ value. is_too_large value ≡ false) run → place + length run ≤ MOST_SLOTS
    → EndsInTime series.start series.step (max (length series.slots) (place + length run))
    → IsSeries (record series { slots = overwritten series.slots place run })
unfolding overwritten
IsSeries-overwritten series place run is in_range room last =
    let fits : Option ℤ → Type 0 = λ value. is_too_large value ≡ false in
    record {
      named = is.named;
      start_in_range = is.start_in_range;
      step_above_zero = is.step_above_zero;
      step_in_range = is.step_in_range;
      scale_in_range = is.scale_in_range;
      slots_in_range =
          omega (
            arith,
            is.slots_in_range,
            length-append {A = Option ℤ},
            length-take {A = Option ℤ},
            length-drop {A = Option ℤ},
            length-replicate {A = Option ℤ},
          );
      last_in_range = subst (EndsInTime series.start series.step) (sym (length-overwritten series.slots run place)) last;
      values_in_range =
          All-append fits (take place series.slots ++ replicate (place - length series.slots) None ++ run)
          (drop (place + length run) series.slots)
          (All-append fits (take place series.slots ++ replicate (place - length series.slots) None) run
          (All-append fits (take place series.slots) (replicate (place - length series.slots) None)
          (All-take fits place series.slots is.values_in_range)
          (All-replicate fits (place - length series.slots) None refl))
          in_range)
          (All-drop fits (place + length run) series.slots is.values_in_range);
    }

-- a series with a run taken back
pub IsSeries-taken_back : (series : Series) (place before : ℕ) (displaced after : List (Option ℤ)) → IsSeries series
    → All (λ value. is_too_large value ≡ false) displaced → before ≤ length series.slots → length displaced ≤ before - place
    → after ≡ take (min place before) (take before series.slots) ++ displaced ++ drop (min place before + length displaced)
    (take before series.slots)
    → IsSeries (record series { slots = after })
IsSeries-taken_back series place before displaced after is in_range shorter within after_is =
    let fits : Option ℤ → Type 0 = λ value. is_too_large value ≡ false in
    let cut : List (Option ℤ) = take before series.slots in
    let from : ℕ = min place before in
    let cut_fits : All fits cut = All-take fits before series.slots is.values_in_range in
    record {
      named = is.named;
      start_in_range = is.start_in_range;
      step_above_zero = is.step_above_zero;
      step_in_range = is.step_in_range;
      scale_in_range = is.scale_in_range;
      slots_in_range =
          omega (
            arith,
            is.slots_in_range,
            ap length after_is,
            length-append {A = Option ℤ},
            length-take {A = Option ℤ},
            length-drop {A = Option ℤ},
          );
      last_in_range = fewer_in_time series.start series.step (length series.slots) (length after)
          (omega (arith, ap length after_is, length-append {A = Option ℤ}, length-take {A = Option ℤ}, length-drop {A = Option ℤ}))
          is.last_in_range;
      values_in_range =
          rw after_is
          (All-append fits (take from cut ++ displaced) (drop (from + length displaced) cut)
          (All-append fits (take from cut) displaced (All-take fits from cut cut_fits) in_range)
          (All-drop fits (from + length displaced) cut cut_fits));
    }

-- the pages of a book with another series in place of one
pub pages_of-set : (book : List Series) (id : ℕ) (old new : Series) → slice_get book id ≡ Some old
    → pages_of (set book id new) + series_pages old.slots ≡ pages_of book + series_pages new.slots
unfolding pages_of
pages_of-set book id old new there =
    let pages : Series → ℕ = λ series. series_pages series.slots in
    let same : pages (get_or book id old) ≡ pages old = ap pages (get_or_from_slice_get book id old old there) in
    omega (arith, sum_by-set pages book id new old (slice_get_within book id old there), same)

-- the pages of a series are among those of the book
pub series_pages-le : (book : List Series) (id : ℕ) (series : Series) → slice_get book id ≡ Some series
    → series_pages series.slots ≤ pages_of book
unfolding pages_of
series_pages-le book id series there =
    let pages : Series → ℕ = λ series. series_pages series.slots in
    let same : pages (get_or book id series) ≡ pages series = ap pages (get_or_from_slice_get book id series series there) in
    omega (arith, get_or-le-sum_by pages book id series (slice_get_within book id series there), same)

-- the pages of a book with a series after the others
pub pages_of-push : (book : List Series) (series : Series) → pages_of (book ++ series ∷ []) ≡ pages_of book + series_pages series.slots
unfolding pages_of
pages_of-push book series = omega (arith, sum_by_push (λ series. series_pages series.slots) book series)

-- a book has few pages
pub pages_of_few : (book : List Series) → IsBook book → pages_of book ≤ FIXED_PAGES + MOST_SERIES * (5 * MOST_SLOTS)
unfolding pages_of
pages_of_few book is =
    let pages : Series → ℕ = λ series. series_pages series.slots in
    let few : All (λ series. pages series ≤ 5 * MOST_SLOTS) book =
    λ k d within.
    let here : IsSeries (get_or book k d) = is.all_in_range k d within in
    omega (arith, here.slots_in_range, series_pages_few (get_or book k d).slots here.slots_in_range) in
    omega (arith, is.few, sum_by-le pages (5 * MOST_SLOTS) book few)

-- what holds of the value in a `Some`
pub at_some : {X : Type 0} (o : Option X) (x : X) (P : X → Type 0) → o ≡ Some x → P x → IsSomeAnd o P
at_some {X} o x P is holds = let Q : Option X → Type 0 = λ o. IsSomeAnd o P in subst Q (sym is) holds

-- equal slots in equal books
pub with_slots_same : (items book : List Series) (id : ℕ) (series : Series) (slots slots' : List (Option ℤ)) → items ≡ book → slots ≡ slots'
    → set items id (record series { slots = slots }) ≡ set book id (record series { slots = slots' })
with_slots_same items book id series slots slots' same same_slots = rw (same, same_slots) refl

-- the series that a borrow of a book's element reads
pub there_from_read : (items book : List Series) (id : ℕ) (series : Series) → items ≡ book → id < length book
    → series ≡ get_or items id series
    → slice_get items id ≡ Some series
there_from_read items book id series same within read =
    slice_get_read items (length items) id series refl (omega (arith, ap length same)) read

-- each series of a book is in range
pub IsSeries-there : (book : List Series) (id : ℕ) (series : Series) → IsBook book → slice_get book id ≡ Some series → IsSeries series
IsSeries-there book id series is there =
    subst IsSeries (get_or_from_slice_get book id series series there) (is.all_in_range id series (slice_get_within book id series there))

-- the pages of all series that were counted
pub pages_of_all : (book items : List Series) (n pages : ℕ) → items ≡ book → length items ≤ n
    → pages ≡ FIXED_PAGES + sum_by (λ series. series_pages series.slots) (take n items) → pages ≡ pages_of book
unfolding pages_of
pages_of_all book items n pages same all pages_is =
    pages_is ∙ ap (λ xs. FIXED_PAGES + sum_by (λ series. series_pages series.slots) xs) (take_all n items all ∙ same)

-- what holds of the value, where it is known
pub known_at : {X : Type 0} (o : Option X) (x : X) (P : X → Type 0) → o ≡ Some x → IsSomeAnd o P → P x
known_at {X} o x P is holds = let Q : Option X → Type 0 = λ o. IsSomeAnd o P in subst Q is holds

-- the pages of a book after a series changed its slots, from those before
pub pages_of-changed : (book changed : List Series) (id used old_pages new_pages : ℕ) (old new : Series) (slots : List (Option ℤ))
    → used ≡ pages_of book → slice_get book id ≡ Some old → changed ≡ set book id (record old { slots = slots })
    → slice_get changed id ≡ Some new → old_pages ≡ series_pages old.slots → new_pages ≡ series_pages new.slots
    → (old_pages ≤ used) × (used - old_pages + new_pages ≡ pages_of changed)
pages_of-changed book changed id used old_pages new_pages old new slots used_is there changed_is now old_is new_is =
    let written : Series = record old { slots = slots } in
    let read : get_or changed id new ≡ new = get_or_from_slice_get changed id new new now in
    let put : get_or (set book id written) id new ≡ written = get_or-set_same book id written new (slice_get_within book id old there) in
    let slots_are : new.slots ≡ slots = ap (λ series. series.slots) (sym read ∙ ap (λ xs. get_or xs id new) changed_is ∙ put) in
    let new_pages_is : new_pages ≡ series_pages slots = new_is ∙ ap series_pages slots_are in
    let moved : pages_of changed ≡ pages_of (set book id written) = ap pages_of changed_is in
    let among : series_pages old.slots ≤ pages_of book = series_pages-le book id old there in
    let sum : pages_of (set book id written) + series_pages old.slots ≡ pages_of book + series_pages slots = pages_of-set book id old
    written there in
    (omega arith, omega arith)
