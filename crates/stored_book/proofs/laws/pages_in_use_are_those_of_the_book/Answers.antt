use Rattle.stored_book.proofs.PagesInUse.{in_use_of, few_in_use}
use Rattle.stored_book.proofs.laws.pages_in_use_are_those_of_the_book.Goals as goal

pub returns-clause-count : goal.returns-clause-count
returns-clause-count c = in_use_of

pub returns-clause-few : goal.returns-clause-few
returns-clause-few c = few_in_use
