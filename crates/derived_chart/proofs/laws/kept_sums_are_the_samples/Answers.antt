use Rattle.derived_chart.proofs.PointLemmas.{samples_are}
use Rattle.derived_chart.proofs.laws.kept_sums_are_the_samples.Goals as goal

pub returns : goal.returns
returns c = λ g x y sum xs ys step shift. samples_are g x y sum xs ys step shift
