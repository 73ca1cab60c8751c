use Rattle.derived_chart.proofs.OneLemmas.{samples_one}
use Rattle.derived_chart.proofs.laws.samples_are_one.Goals as goal

pub returns : goal.returns
returns c = λ g a b x y xs ys one other first second. samples_one g a b x y xs ys one other first second
