use Rattle.std.proofs.Common.{subst, arith}
use Rattle.std.proofs.lemmas.List.Elements.{All-contains}
use Rattle.derived_chart.specs.Points.{IsSumAt}
use Rattle.series_book.specs.declared.one_series.Series.{Series}
use Rattle.whole_number.specs.Range.{IsValue}
use Rattle.series_pair.specs.Derived.{axis_of}
use Rattle.series_pair.proofs.ChartLemmas.{same_series}
use Rattle.series_pair.proofs.laws.large_sums_have_no_chart.Goals as goal

pub returns : goal.returns
returns c = λ book x y a b g asked canvas time chart large.
    let one = same_series book x large.are.one chart.are.one large.are.first chart.are.first in
    let other = same_series book y large.are.other chart.are.other large.are.second chart.are.second in
    let is = (large.are.are.each time large.first.value).0 large.first.among in
    let P : Series → Type 0 = λ s. IsSumAt a b (axis_of s) (axis_of large.are.other) s.slots large.are.other.slots time large.first.value in
    let Q : Series → Type 0 = λ s. IsSumAt a b (axis_of chart.are.one) (axis_of s) chart.are.one.slots s.slots time large.first.value in
    let there = (chart.are.are.each time large.first.value).1 (is.0, subst Q other (subst P one is.1)) in
    let small = All-contains (λ s. IsValue s.value) chart.samples (record { time = time; value = large.first.value }) chart.values there in
    omega (arith, small, large.first.large)
