use Rattle.series_book.proofs.BookLemmas.{IsBook-push}
use Rattle.series_book.proofs.laws.new_series_keep_books.Goals as goal

pub returns : goal.returns
returns c = IsBook-push
