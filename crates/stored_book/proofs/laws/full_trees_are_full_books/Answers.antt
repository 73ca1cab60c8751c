use Rattle.stored_book.proofs.PagesInUse.{full_book}
use Rattle.stored_book.proofs.laws.full_trees_are_full_books.Goals as goal

pub returns : goal.returns
returns c = full_book
