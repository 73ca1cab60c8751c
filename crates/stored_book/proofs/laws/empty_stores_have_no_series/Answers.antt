use Rattle.stored_book.proofs.EmptyLemmas.{first_book, empty_book, new_recovers}
use Rattle.stored_book.proofs.laws.empty_stores_have_no_series.Goals as goal

pub returns-clause-pages : goal.returns-clause-pages
returns-clause-pages c = first_book

pub returns-clause-empty : goal.returns-clause-empty
returns-clause-empty c = empty_book

pub returns-clause-disk : goal.returns-clause-disk
returns-clause-disk c = new_recovers
