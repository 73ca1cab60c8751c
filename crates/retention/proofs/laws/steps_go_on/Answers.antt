use Rattle.retention.proofs.StepLemmas.{steps_all, steps_books, steps_rest, steps_together}
use Rattle.retention.proofs.laws.steps_go_on.Goals as goal

pub returns-clause-rest : goal.returns-clause-rest
returns-clause-rest c = steps_rest

pub returns-clause-together : goal.returns-clause-together
returns-clause-together c = steps_together

pub returns-clause-all : goal.returns-clause-all
returns-clause-all c = steps_all

pub returns-clause-books : goal.returns-clause-books
returns-clause-books c = steps_books
