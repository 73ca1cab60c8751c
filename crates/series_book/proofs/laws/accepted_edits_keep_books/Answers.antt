use Rattle.series_book.proofs.LawLemmas.{edits_keep}
use Rattle.series_book.proofs.laws.accepted_edits_keep_books.Goals as goal

pub returns : goal.returns
returns c = edits_keep
