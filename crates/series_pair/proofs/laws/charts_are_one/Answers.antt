use Rattle.series_pair.proofs.OneLemmas.{alike}
use Rattle.series_pair.proofs.laws.charts_are_one.Goals as goal

pub returns : goal.returns
returns c = λ book x y a b g asked one other first second. alike book x y a b g asked one other
    (λ x y xs ys. c.samples_are_one.ensures g a b x y xs ys) first second
