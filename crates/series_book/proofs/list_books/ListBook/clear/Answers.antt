use Rattle.std.proofs.Common.{◌≡◌, ◌+◌, ◌-◌, min, length, ℤ, Some, None, Ok, to_z, of_z, sym, ap, ◌∙◌, subst, arith}
use Rattle.std.specs.List.{slice_get}
use Rattle.std.specs.Int.{w128}
use Rattle.std.proofs.lemmas.Int.{to_z-of_z}
use Rattle.series_book.specs.declared.one_series.Series.{Series}
use Rattle.series_book.specs.Books.{LimitedBook}
use Rattle.series_book.specs.Edits.{id_of, place_of, cleared, cleared_at}
use Rattle.series_book.proofs.BookLemmas.{known_at}
use Rattle.series_book.proofs.EditLemmas.{clear_is, resized-nil}
use Rattle.series_book.proofs.list_books.ListBook.clear.Goals as goal

pub returns-clause-ok : goal.returns-clause-ok
returns-clause-ok c =
    let seen : c.self.inside.book ≡ c.args.self.now.book = ap (λ (limited : LimitedBook). limited.book) c.self.view_is in
    let found : id_of c.args.name.now c.args.self.now.book ≡ Some c.in-Some.id = ap (id_of c.args.name.now) (sym seen)
    ∙ sym c.in-Some.ensures.id in
    let there : slice_get c.args.self.now.book c.in-Some.id ≡ Some c.series.result.now =
    ap (λ book. slice_get book c.in-Some.id) (sym seen) ∙ c.series.ensures.series in
    let series : Series = c.series.result.now in
    let told : to_z w128 (of_z w128 c.args.time) ≡ c.args.time = to_z-of_z w128 c.args.time c.ranges.time in
    let length_is : c.axis-axis.result.slots ≡ length series.slots = c.axis-axis.ensures.slots in
    let P : ℤ → Type 0 = λ time. cleared_at series time c.args.count ≡ Ok (cleared series.slots (place_of series time) c.args.count) in
    let accepted : P c.args.time = subst P told (c.in_default-clear_refusal.ensures.refusal series c.axis-axis.ensures) in
    let place : c.place_of.result ≡ place_of series c.args.time = c.place_of.ensures series c.axis-axis.ensures
    ∙ ap (place_of series) told in
    let from : c.min-place.result ≡ min (place_of series c.args.time) (length series.slots) = omega (
      arith,
      c.min-place.ensures,
      place,
      length_is,
    ) in
    let n : c.min-end.result - c.min-place.result ≡ min (c.min-place.result + c.args.count) (length series.slots) - c.min-place.result =
    omega (arith, c.min-end.ensures, length_is) in
    clear_is c.args.self.now.book c.put.new.self.book c.args.name.now c.in-Some.id series c.args.time c.args.count
    (place_of series c.args.time) c.min-place.result (c.min-end.result - c.min-place.result) (c.axis-axis.result.slots) c.deref.result.now
    found there accepted from n (c.deref.ensures.value ∙ c.in_ok-resize.ensures.items
    ∙ resized-nil _ _ c.new-run.result.items None c.new-run.ensures.items c.new-run.ensures.len)
    (known_at _ _ _ there c.in_ok-put.ensures.ok) length_is
