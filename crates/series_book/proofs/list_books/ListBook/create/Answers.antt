use Rattle.std.proofs.Common.{ℕ, List, subst, ◌≡◌, ◌+◌, length, w64, sym, ap, ◌∙◌, arith}
use Rattle.std.specs.Prelude.{unsigned_abs, IsTrue}
use Rattle.series_book.specs.Names.{is_name}
use Rattle.std.specs.Option.{is_some}
use Rattle.std.proofs.lemmas.Int.{to_z-of_z}
use Rattle.series_book.specs.declared.one_series.Series.{Series}
use Rattle.series_book.specs.Books.{LimitedBook}
use Rattle.series_book.specs.Edits.{id_of}
use Rattle.series_book.specs.Pages.{series_pages, pages_of}
use Rattle.series_book.proofs.BookLemmas.{IsSeries-new, pages_of-push}
use Rattle.series_book.proofs.EditLemmas.{created-exists, created-full, created_as, series_pages-nil, none_from_test}
use Rattle.series_book.proofs.list_books.ListBook.create.Goals as goal

pub add-requires-clause-new : goal.add-requires-clause-new
add-requires-clause-new c =
    ap (λ (series : Series). id_of series.name c.self.inside.book) c.empty.ensures
    ∙ ap (λ name. id_of name c.self.inside.book) c.in_ok-name.ensures.equal ∙ sym c.find.ensures.id
    ∙ none_from_test c.find.result (sym c.is_some.ensures ∙ c.if-is_some.false)

pub add-requires-clause-in_range : goal.add-requires-clause-in_range
add-requires-clause-in_range c =
    let P : List ℕ → Type 0 = λ name. IsTrue (is_name name) in
    let start = to_z-of_z w64 c.args.start c.ranges.start in
    IsSeries-new _ _ _ _ _ c.empty.ensures (subst P (sym c.in_ok-name.ensures.equal) c.in_ok-name.ensures.named)
    (omega (arith, c.requires.start_in_range, ap unsigned_abs start)) c.requires.step_above_zero c.requires.step_in_range
    c.requires.scale_in_range

pub returns-then-is_some-clause-refused : goal.returns-then-is_some-clause-refused
returns-then-is_some-clause-refused c =
    let seen : c.self.inside.book ≡ c.args.self.now.book = ap (λ (limited : LimitedBook). limited.book) c.self.view_is in
    created-exists _ _ (ap is_some (ap (id_of c.args.name.now) (sym seen) ∙ sym c.find.ensures.id) ∙ sym c.is_some.ensures
    ∙ c.if-is_some.true)

pub returns-then-len-ge-MOST_SERIES-clause-refused : goal.returns-then-len-ge-MOST_SERIES-clause-refused
returns-then-len-ge-MOST_SERIES-clause-refused c =
    let seen : c.self.inside.book ≡ c.args.self.now.book = ap (λ (limited : LimitedBook). limited.book) c.self.view_is in
    created-full _ _ (ap is_some (ap (id_of c.args.name.now) (sym seen) ∙ sym c.find.ensures.id) ∙ sym c.is_some.ensures
    ∙ c.if-is_some.false)
    (omega (arith, c.len.ensures, ap length seen, c.if-len-ge-MOST_SERIES.true))

pub invariant_of-self-2 : goal.invariant_of-self-2
invariant_of-self-2 c =
    let added : pages_of c.add.new.self ≡ pages_of c.self.inside.book + series_pages c.empty.result.slots =
    ap pages_of c.in_ok-add.ensures.ok ∙ pages_of-push c.self.inside.book _ in
    omega (arith, added, c.self.invariant, series_pages-nil c.empty.result.slots (ap (λ (series : Series). series.slots) c.empty.ensures))

pub returns-clause-ok : goal.returns-clause-ok
returns-clause-ok c =
    let seen : c.self.inside.book ≡ c.args.self.now.book = ap (λ (limited : LimitedBook). limited.book) c.self.view_is in
    created_as _ _ _ _ _ c.args.start _ _ _ _ seen c.in_ok-add.ensures.ok c.empty.ensures c.in_ok-name.ensures.equal
    (to_z-of_z w64 c.args.start c.ranges.start)
    (ap is_some (ap (id_of c.args.name.now) (sym seen) ∙ sym c.find.ensures.id) ∙ sym c.is_some.ensures ∙ c.if-is_some.false)
    (omega (arith, c.len.ensures, ap length seen, c.if-len-ge-MOST_SERIES.false))
