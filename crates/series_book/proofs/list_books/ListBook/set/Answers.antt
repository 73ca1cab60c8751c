use Rattle.std.proofs.Common.{◌≡◌, ℕ, ℤ, List, length, Option, Some, Result, Ok, Err, to_z, of_z, refl, ap, subst, sym, ◌∙◌, arith}
use Rattle.std.specs.Prelude.{IfOk, IfErr, IfSome}
use Rattle.std.specs.Int.{w128}
use Rattle.std.specs.List.{slice_get}
use Rattle.std.proofs.lemmas.Int.{to_z-of_z}
use Rattle.std.proofs.lemmas.Option.{MatchOption-at_some}
use Rattle.series_book.specs.declared.one_series.Series.{Series}
use Rattle.series_book.specs.declared.outcomes.Outcome.{Outcome}
use Rattle.series_book.specs.declared.errors.BookError.{BookError}
use Rattle.series_book.specs.declared.refusals.Refusal.{Refusal}
use Rattle.series_book.specs.Books.{LimitedBook}
use Rattle.series_book.specs.Edits.{Edited, RefusesEdit, id_of, place_of, overwritten, set_at, within, change_at}
use Rattle.series_book.proofs.list_books.ListBook.set.Goals as goal

-- a set, as the code does it
set_is : (book : List Series) (total : ℕ) (name : List ℕ) (id : ℕ) (series : Series) (time : ℤ) (values run : List (Option ℤ)) (place : ℕ)
    → id_of name book ≡ Some id → slice_get book id ≡ Some series
    → set_at series time values ≡ Ok (overwritten series.slots (place_of series time) values)
    → place ≡ place_of series time → run ≡ values
    → change_at book (id_of name book) (λ id series. within total book id series (set_at series time values))
    ≡ within total book id series (Ok (overwritten series.slots place run))
set_is book total name id series time values run place found there accepted place_is run_is = rw (
  found,
  there,
  accepted,
  place_is,
  run_is,
) refl

-- what the write gives is what the edit gives
given : (r : Result Outcome BookError) (o : Option Series) (series : Series) (write : Series
    → Result Edited Refusal) (edit : Result Edited Refusal) (book : List Series)
    → o ≡ Some series → edit ≡ write series → IfOk r
    (λ outcome. IfSome o (λ series. write series ≡ Ok (record { book = book; slots = outcome.slots })))
    → IfOk r (λ outcome. edit ≡ Ok (record { book = book; slots = outcome.slots }))
given (Ok outcome) o series write edit book there same done = same ∙ MatchOption-at_some _ _ series there done
given (Err error) o series write edit book there same done = tt

refused : (r : Result Outcome BookError) (o : Option Series) (series : Series) (write : Series
    → Result Edited Refusal) (edit : Result Edited Refusal)
    → o ≡ Some series → edit ≡ write series → IfErr r (λ error. IfSome o (λ series. RefusesEdit (write series) error))
    → IfErr r (λ error. RefusesEdit edit error)
refused (Ok outcome) o series write edit there same done = tt
refused (Err error) o series write edit there same done =
    subst (λ (edited : Result Edited Refusal). RefusesEdit edited error) (sym same) (MatchOption-at_some _ _ series there done)

pub overflow_cast-place : goal.overflow_cast-place
overflow_cast-place c =
    let series = c.series.result.now in
    let room = c.in_default-set_refusal.ensures.room series c.axis-axis.ensures in
    let place = c.place_of-place.ensures series c.axis-axis.ensures in
    omega (arith, room, place)

pub put_within-requires-clause-room : goal.put_within-requires-clause-room
put_within-requires-clause-room c =
    let series = c.series.result.now in
    let room = c.in_default-set_refusal.ensures.room series c.axis-axis.ensures in
    let place = c.place_of-place.ensures series c.axis-axis.ensures in
    omega (arith, room, place, ap length c.deref.ensures.value, ap length c.in_ok-run.ensures.slots)

pub returns-clause-ok : goal.returns-clause-ok
returns-clause-ok c =
    let series : Series = c.series.result.now in
    let seen : c.self.inside.book ≡ c.args.self.now.book = ap (λ (limited : LimitedBook). limited.book) c.self.view_is in
    let found : id_of c.args.name.now c.args.self.now.book ≡ Some c.in-Some.id = ap (id_of c.args.name.now) (sym seen)
    ∙ sym c.in-Some.ensures.id in
    let there : slice_get c.args.self.now.book c.in-Some.id ≡ Some series = ap (λ book. slice_get book c.in-Some.id) (sym seen)
    ∙ c.series.ensures.series in
    let told : to_z w128 (of_z w128 c.args.time) ≡ c.args.time = to_z-of_z w128 c.args.time c.ranges.time in
    let P : ℤ → Type 0 = λ time. set_at series time c.args.values.now ≡ Ok
    (overwritten series.slots (place_of series time) c.args.values.now) in
    let accepted : P c.args.time = subst P told (c.in_default-set_refusal.ensures.refusal series c.axis-axis.ensures) in
    let place : c.place_of-place.result ≡ place_of series c.args.time = c.place_of-place.ensures series c.axis-axis.ensures
    ∙ ap (place_of series) told in
    let write : Series → Result Edited Refusal = λ series. within c.args.self.now.total c.args.self.now.book c.in-Some.id series
    (Ok (overwritten series.slots c.place_of-place.result c.deref.result.now)) in
    let same = set_is c.args.self.now.book c.args.self.now.total c.args.name.now c.in-Some.id series c.args.time c.args.values.now
    c.deref.result.now c.place_of-place.result found there accepted place
    (c.deref.ensures.value ∙ c.in_ok-run.ensures.slots) in
    given c.put_within.result (slice_get c.args.self.now.book c.in-Some.id) series write _ c.put_within.new.self.book there same
    c.put_within.ensures.ok

pub returns-clause-refused : goal.returns-clause-refused
returns-clause-refused c =
    let series : Series = c.series.result.now in
    let seen : c.self.inside.book ≡ c.args.self.now.book = ap (λ (limited : LimitedBook). limited.book) c.self.view_is in
    let found : id_of c.args.name.now c.args.self.now.book ≡ Some c.in-Some.id = ap (id_of c.args.name.now) (sym seen)
    ∙ sym c.in-Some.ensures.id in
    let there : slice_get c.args.self.now.book c.in-Some.id ≡ Some series = ap (λ book. slice_get book c.in-Some.id) (sym seen)
    ∙ c.series.ensures.series in
    let told : to_z w128 (of_z w128 c.args.time) ≡ c.args.time = to_z-of_z w128 c.args.time c.ranges.time in
    let P : ℤ → Type 0 = λ time. set_at series time c.args.values.now ≡ Ok
    (overwritten series.slots (place_of series time) c.args.values.now) in
    let accepted : P c.args.time = subst P told (c.in_default-set_refusal.ensures.refusal series c.axis-axis.ensures) in
    let place : c.place_of-place.result ≡ place_of series c.args.time = c.place_of-place.ensures series c.axis-axis.ensures
    ∙ ap (place_of series) told in
    let write : Series → Result Edited Refusal = λ series. within c.args.self.now.total c.args.self.now.book c.in-Some.id series
    (Ok (overwritten series.slots c.place_of-place.result c.deref.result.now)) in
    let same = set_is c.args.self.now.book c.args.self.now.total c.args.name.now c.in-Some.id series c.args.time c.args.values.now
    c.deref.result.now c.place_of-place.result found there accepted place
    (c.deref.ensures.value ∙ c.in_ok-run.ensures.slots) in
    refused c.put_within.result (slice_get c.args.self.now.book c.in-Some.id) series write _ there same c.put_within.ensures.refused
