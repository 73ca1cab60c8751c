use Rattle.retention.proofs.LawLemmas.{after_is_book, all_accepted}
use Rattle.retention.proofs.laws.clears_are_accepted.Goals as goal

pub returns-clause-accepted : goal.returns-clause-accepted
returns-clause-accepted c = all_accepted

pub returns-clause-books : goal.returns-clause-books
returns-clause-books c = after_is_book
