use Rattle.derived_chart.proofs.ListLemmas.{sums_are, sums_same}
use Rattle.derived_chart.proofs.laws.sums_are_one.Goals as goal

pub returns-clause-are : goal.returns-clause-are
returns-clause-are c = λ sum xs ys. sums_are sum xs ys

pub returns-clause-one : goal.returns-clause-one
returns-clause-one c = λ sum xs ys sums are. sums_same sum xs ys sums are
