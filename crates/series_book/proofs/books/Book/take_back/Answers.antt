use Rattle.std.proofs.Common.{◌≡◌, ◌≤◌, Some, length, refl, sym, ap, ◌∙◌}
use Rattle.std.specs.List.{slice_get}
use Rattle.std.proofs.lemmas.Option.{MatchOption-at_some}
use Rattle.series_book.specs.Books.{IsSeries}
use Rattle.series_book.proofs.BookLemmas.{IsBook-set, IsSeries-taken_back, there_from_read, IsSeries-there}
use Rattle.series_book.proofs.books.Book.take_back.Goals as goal

pub invariant_of-self : goal.invariant_of-self
invariant_of-self c =
    let there : slice_get c.self.inside.series.items c.args.id ≡ Some c.index_mut-series.result.now =
    there_from_read _ _ _ _ c.self.view_is c.requires.there c.index_mut-series.ensures.value in
    let was : IsSeries c.index_mut-series.result.now = IsSeries-there _ _ _ c.self.invariant there in
    let shorter : c.args.before ≤ length c.index_mut-series.result.now.slots =
    MatchOption-at_some _ _ _ (ap (λ book. slice_get book c.args.id) (sym c.self.view_is) ∙ there) c.requires.shorter in
    IsBook-set c.self.inside.series.items c.args.id c.index_mut-series.result.now _ c.self.invariant there
    (IsSeries-taken_back c.index_mut-series.result.now c.args.place c.args.before c.args.displaced.now _ was c.requires.in_range shorter
    c.requires.fits c.take_back.ensures.after)
    refl
