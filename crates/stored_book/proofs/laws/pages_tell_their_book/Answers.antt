use Rattle.stored_book.proofs.TellingLemmas.{told_book}
use Rattle.stored_book.proofs.laws.pages_tell_their_book.Goals as goal

pub returns : goal.returns
returns c = told_book
