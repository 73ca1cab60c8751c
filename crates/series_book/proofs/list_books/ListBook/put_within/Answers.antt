use Rattle.std.proofs.Common.{◌≡◌, length, Some, IfSome, sym, ap, ◌∙◌, arith}
use Rattle.std.specs.List.{slice_get}
use Rattle.series_book.specs.Books.{LimitedBook}
use Rattle.series_book.specs.Edits.{overwritten, with_slots}
use Rattle.series_book.specs.Pages.{pages_of}
use Rattle.series_book.proofs.BookLemmas.{known_at}
use Rattle.series_book.proofs.EditLemmas.{undo, no_shorter, within-full, within-ok, if_there, same_limited}
use Rattle.series_book.proofs.list_books.ListBook.put_within.Goals as goal

pub take_back-requires-clause-shorter : goal.take_back-requires-clause-shorter
take_back-requires-clause-shorter c =
    let seen : c.self.inside.book ≡ c.args.self.now.book = ap (λ (limited : LimitedBook). limited.book) c.self.view_is in
    let there : slice_get c.args.self.now.book c.args.id ≡ Some c.series.result.now =
    ap (λ book. slice_get book c.args.id) (sym seen) ∙ c.series.ensures.series in
    let changed : c.self-2.inside.book ≡ with_slots c.args.self.now.book c.args.id c.series.result.now
    (overwritten c.series.result.now.slots c.args.place c.args.run.now) =
    ap (λ (limited : LimitedBook). limited.book) c.self-2.view_is ∙ known_at _ _ _ there c.in_ok-displaced.ensures.ok in
    no_shorter c.args.self.now.book c.self-2.inside.book c.args.id c.args.place _ c.series.result.now c.args.run.now there changed
    (ap length c.as_slice-before.ensures)

pub invariant_of-self : goal.invariant_of-self
invariant_of-self c =
    let seen : c.self.inside.book ≡ c.args.self.now.book = ap (λ (limited : LimitedBook). limited.book) c.self.view_is in
    let there : slice_get c.args.self.now.book c.args.id ≡ Some c.series.result.now =
    ap (λ book. slice_get book c.args.id) (sym seen) ∙ c.series.ensures.series in
    let changed : c.self-2.inside.book ≡ with_slots c.args.self.now.book c.args.id c.series.result.now
    (overwritten c.series.result.now.slots c.args.place c.args.run.now) =
    ap (λ (limited : LimitedBook). limited.book) c.self-2.view_is ∙ known_at _ _ _ there c.in_ok-displaced.ensures.ok in
    let back : c.take_back.new.self ≡ c.args.self.now.book =
    undo c.args.self.now.book c.self-2.inside.book c.take_back.new.self c.args.id c.args.place
    (length c.as_slice-before.result.now) c.series.result.now
    c.args.run.now c.deref.result.now there changed
    (c.deref.ensures.value ∙ known_at _ _ _ there c.in_ok-displaced.ensures.displaced)
    (ap length c.as_slice-before.ensures) c.take_back.ensures in
    c.self.invariant ∙ ap pages_of (seen ∙ sym back)

pub returns-then-needed-self-clause-refused : goal.returns-then-needed-self-clause-refused
returns-then-needed-self-clause-refused c =
    let seen : c.self.inside.book ≡ c.args.self.now.book = ap (λ (limited : LimitedBook). limited.book) c.self.view_is in
    let there : slice_get c.args.self.now.book c.args.id ≡ Some c.series.result.now =
    ap (λ book. slice_get book c.args.id) (sym seen) ∙ c.series.ensures.series in
    let changed : c.self-2.inside.book ≡ with_slots c.args.self.now.book c.args.id c.series.result.now
    (overwritten c.series.result.now.slots c.args.place c.args.run.now) =
    ap (λ (limited : LimitedBook). limited.book) c.self-2.view_is ∙ known_at _ _ _ there c.in_ok-displaced.ensures.ok in
    if_there _ c.series.result.now _ there
    (within-full c.args.self.now.book c.self-2.inside.book c.args.self.now.total c.args.id c.args.place c.self-2.inside.used
    c.self-2.inside.total
    c.series.result.now c.args.run.now changed c.self-2.invariant
    (ap (λ (limited : LimitedBook). limited.total) c.self-2.view_is ∙ c.in_ok-displaced.ensures.total) c.if-needed-self.true)

pub returns-then-needed-self-clause-err : goal.returns-then-needed-self-clause-err
returns-then-needed-self-clause-err c =
    let seen : c.self.inside.book ≡ c.args.self.now.book = ap (λ (limited : LimitedBook). limited.book) c.self.view_is in
    let there : slice_get c.args.self.now.book c.args.id ≡ Some c.series.result.now =
    ap (λ book. slice_get book c.args.id) (sym seen) ∙ c.series.ensures.series in
    let changed : c.self-2.inside.book ≡ with_slots c.args.self.now.book c.args.id c.series.result.now
    (overwritten c.series.result.now.slots c.args.place c.args.run.now) =
    ap (λ (limited : LimitedBook). limited.book) c.self-2.view_is ∙ known_at _ _ _ there c.in_ok-displaced.ensures.ok in
    let back : c.take_back.new.self ≡ c.args.self.now.book =
    undo c.args.self.now.book c.self-2.inside.book c.take_back.new.self c.args.id c.args.place
    (length c.as_slice-before.result.now) c.series.result.now
    c.args.run.now c.deref.result.now there changed
    (c.deref.ensures.value ∙ known_at _ _ _ there c.in_ok-displaced.ensures.displaced)
    (ap length c.as_slice-before.ensures) c.take_back.ensures in
    same_limited c.args.self.now _ _ back (ap (λ (limited : LimitedBook). limited.total) c.self-2.view_is ∙ c.in_ok-displaced.ensures.total)

pub returns-clause-ok : goal.returns-clause-ok
returns-clause-ok c =
    let seen : c.self.inside.book ≡ c.args.self.now.book = ap (λ (limited : LimitedBook). limited.book) c.self.view_is in
    let there : slice_get c.args.self.now.book c.args.id ≡ Some c.series.result.now =
    ap (λ book. slice_get book c.args.id) (sym seen) ∙ c.series.ensures.series in
    let after : c.self-2.inside.book ≡ c.put.new.self.book = ap (λ (limited : LimitedBook). limited.book) c.self-2.view_is in
    let total : c.self-2.inside.total ≡ c.args.self.now.total = ap (λ (limited : LimitedBook). limited.total) c.self-2.view_is
    ∙ c.in_ok-displaced.ensures.total in
    let slots : IfSome (slice_get c.put.new.self.book c.args.id) (λ series. length c.as_slice.result.now ≡ length series.slots) =
    if_there _ c.series-2.result.now _ (ap (λ book. slice_get book c.args.id) (sym after)
    ∙ c.series-2.ensures.series) (ap length c.as_slice.ensures) in
    if_there _ c.series.result.now _ there
    (within-ok c.args.self.now.book c.put.new.self.book c.args.self.now.total c.args.id c.args.place c.self-2.inside.used _
    c.series.result.now c.args.run.now
    there (known_at _ _ _ there c.in_ok-displaced.ensures.ok) (c.self-2.invariant
    ∙ ap pages_of after) (omega (arith, total, c.if-needed-self.false)) slots)
