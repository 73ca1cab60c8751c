use Rattle.series_book.proofs.EditListLemmas.{after_append, give_append}
use Rattle.series_book.proofs.laws.edits_go_on.Goals as goal

pub returns-clause-books : goal.returns-clause-books
returns-clause-books c = after_append

pub returns-clause-answers : goal.returns-clause-answers
returns-clause-answers c = give_append
