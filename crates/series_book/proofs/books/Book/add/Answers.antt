use Rattle.std.proofs.Common.{◌≡◌, None, ap, ◌∙◌, arith, length, ◌<◌}
use Rattle.series_book.specs.declared.limits.TheConstants.{MOST_SERIES}
use Rattle.series_book.specs.Edits.{id_of}
use Rattle.series_book.proofs.BookLemmas.{IsBook-push}
use Rattle.series_book.proofs.books.Book.add.Goals as goal

pub invariant_of-self-2 : goal.invariant_of-self-2
invariant_of-self-2 c =
    let new : id_of c.args.series.name c.self.inside.series.items ≡ None = ap (id_of c.args.series.name) c.self.view_is ∙ c.requires.new in
    let room : length c.self.inside.series.items < MOST_SERIES = omega (arith, c.requires.room, ap length c.self.view_is) in
    rw c.in_ok-push.ensures.items (IsBook-push _ _ c.self.invariant c.requires.in_range new room)
