use Rattle.served_fronts.proofs.Books.{books_follow}
use Rattle.served_fronts.proofs.laws.books_follow_the_lines.Goals as goal

pub returns : goal.returns
returns c = books_follow
