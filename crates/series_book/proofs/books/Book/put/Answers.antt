use Rattle.std.proofs.Common.{◌≡◌, Some, refl, sym, ap, ◌∙◌}
use Rattle.std.specs.List.{slice_get}
use Rattle.std.proofs.lemmas.Option.{MatchOption-at_some}
use Rattle.series_book.specs.Books.{IsSeries}
use Rattle.series_book.proofs.BookLemmas.{IsBook-set, IsSeries-overwritten, at_some, with_slots_same, there_from_read, IsSeries-there}
use Rattle.series_book.proofs.books.Book.put.Goals as goal

pub invariant_of-self-2 : goal.invariant_of-self-2
invariant_of-self-2 c =
    let there : slice_get c.self.inside.series.items c.args.id ≡ Some c.index_mut-series.result.now =
    there_from_read _ _ _ _ c.self.view_is c.requires.there c.index_mut-series.ensures.value in
    let was : IsSeries c.index_mut-series.result.now = IsSeries-there _ _ _ c.self.invariant there in
    let last = MatchOption-at_some _ _ _ (ap (λ book. slice_get book c.args.id) (sym c.self.view_is) ∙ there) c.requires.last in
    IsBook-set c.self.inside.series.items c.args.id c.index_mut-series.result.now _ c.self.invariant there
    (rw c.in_ok-displaced.ensures.ok (IsSeries-overwritten c.index_mut-series.result.now c.args.place c.args.run.now was c.requires.in_range
    c.requires.room last))
    refl

pub returns-clause-ok : goal.returns-clause-ok
returns-clause-ok c =
    let there : slice_get c.self.inside.series.items c.args.id ≡ Some c.index_mut-series.result.now =
    there_from_read _ _ _ _ c.self.view_is c.requires.there c.index_mut-series.ensures.value in
    at_some (slice_get c.args.self.now c.args.id) c.index_mut-series.result.now _
    (ap (λ book. slice_get book c.args.id) (sym c.self.view_is) ∙ there)
    (with_slots_same _ _ c.args.id c.index_mut-series.result.now _ _ c.self.view_is c.in_ok-displaced.ensures.ok)

pub returns-clause-displaced : goal.returns-clause-displaced
returns-clause-displaced c =
    let there : slice_get c.self.inside.series.items c.args.id ≡ Some c.index_mut-series.result.now =
    there_from_read _ _ _ _ c.self.view_is c.requires.there c.index_mut-series.ensures.value in
    at_some (slice_get c.args.self.now c.args.id) c.index_mut-series.result.now _
    (ap (λ book. slice_get book c.args.id) (sym c.self.view_is) ∙ there)
    c.in_ok-displaced.ensures.displaced
