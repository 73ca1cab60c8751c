use Rattle.stored_book.proofs.OneBook.{recovered_total, recovered_book}
use Rattle.stored_book.proofs.laws.images_recover_to_one_book.Goals as goal

pub returns-clause-total : goal.returns-clause-total
returns-clause-total c = recovered_total

pub returns-clause-book : goal.returns-clause-book
returns-clause-book c = recovered_book
