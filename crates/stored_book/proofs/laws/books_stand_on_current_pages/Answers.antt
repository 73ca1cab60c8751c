use Rattle.stored_book.proofs.CurrentLemmas.{book_magic, book_current, recovers_new}
use Rattle.stored_book.proofs.laws.books_stand_on_current_pages.Goals as goal

pub returns-clause-magic : goal.returns-clause-magic
returns-clause-magic c = book_magic

pub returns-clause-current : goal.returns-clause-current
returns-clause-current c = book_current

pub returns-clause-recovers : goal.returns-clause-recovers
returns-clause-recovers c = recovers_new
