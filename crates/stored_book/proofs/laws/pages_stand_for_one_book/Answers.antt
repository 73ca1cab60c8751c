use Rattle.stored_book.proofs.OneBook.{one_total, one_book}
use Rattle.stored_book.proofs.laws.pages_stand_for_one_book.Goals as goal

pub returns-clause-total : goal.returns-clause-total
returns-clause-total c = one_total

pub returns-clause-book : goal.returns-clause-book
returns-clause-book c = one_book
