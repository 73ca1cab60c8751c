use Rattle.stored_book.proofs.NumberLemmas.{numbers}
use Rattle.stored_book.proofs.laws.page_0_has_the_numbers.Goals as goal

pub returns : goal.returns
returns c = numbers
