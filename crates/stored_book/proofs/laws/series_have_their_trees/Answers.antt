use Rattle.stored_book.proofs.TreesLemmas.{held}
use Rattle.stored_book.proofs.laws.series_have_their_trees.Goals as goal

pub returns : goal.returns
returns c = held
