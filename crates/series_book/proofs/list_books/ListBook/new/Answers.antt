use Rattle.series_book.proofs.EditLemmas.{pages_of-nil}
use Rattle.series_book.proofs.list_books.ListBook.new.Goals as goal

pub invariant_of-result : goal.invariant_of-result
invariant_of-result c = pages_of-nil c.in_ok-book.book c.in_ok-book.ensures
