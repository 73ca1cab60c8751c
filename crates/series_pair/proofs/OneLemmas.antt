-- There is one chart of a sum.
use Rattle.std.proofs.Common.{◌≡◌, ◌∙◌, ℕ, ℤ, ◌≤ℤ◌, List, [], ◌∷◌, Option, None, Some, sym, subst, arith}
use Rattle.std.proofs.lemmas.Int.{ints}
use Rattle.std.proofs.lemmas.List.Elements.{All-contains}
use Rattle.chart_grid.specs.declared.axis.Axis.{Axis}
use Rattle.chart_grid.specs.declared.grid.Grid.{Grid}
use Rattle.derived_chart.specs.Points.{AreSumSamples}
use Rattle.line_raster.specs.Canvas.{Canvas}
use Rattle.plain_chart.specs.Chart.{IsChart}
use Rattle.plain_chart.specs.Samples.{IsRange, values_of}
use Rattle.plain_chart.specs.declared.sample.Sample.{Sample}
use Rattle.plain_chart.specs.declared.value_range.ValueRange.{ValueRange}
use Rattle.series_book.specs.declared.one_series.Series.{Series}
use Rattle.series_pair.specs.Derived.{AreAlike, AreSamplesOf, IsDerivedChart, ShowsRange, axis_of}
use Rattle.series_pair.proofs.ChartLemmas.{same_series}

samples_one : (book : List Series) (x y : ℕ) (a b : ℤ) (g : Grid) (one other : List Sample)
    → ((x y : Axis) (xs ys : List (Option ℤ)) (one other : List Sample) → AreSumSamples g a b x y xs ys one
    → AreSumSamples g a b x y xs ys other → one ≡ other)
    → AreSamplesOf book x y a b g one → AreSamplesOf book x y a b g other → one ≡ other
samples_one book x y a b g one other law first second =
    let X : Series → Type 0 = λ s. AreSumSamples g a b (axis_of s) (axis_of second.other) s.slots second.other.slots other in
    let Y : Series → Type 0 = λ s. AreSumSamples g a b (axis_of first.one) (axis_of s) first.one.slots s.slots other in
    law (axis_of first.one) (axis_of first.other) first.one.slots first.other.slots one other first.are
    (subst Y (same_series book y second.other first.other second.second first.second)
    (subst X (same_series book x second.one first.one second.first first.first) second.are))

no_more : (m n : ℤ) → m ≤ℤ n → n ≤ℤ m → m ≡ n
no_more m n low high = omega (arith, ints, low, high)

-- the range of values is one
range_one : (values : List ℤ) (one other : ValueRange) → IsRange values one → IsRange values other → one ≡ other
range_one [] one other first second = λ i. record { lo = (first.0 ∙ sym second.0) i; hi = (first.1 ∙ sym second.1) i }
range_one (v ∷ vs) one other first second =
    let low : one.lo ≡ other.lo = no_more one.lo other.lo (All-contains (λ w. one.lo ≤ℤ w) (v ∷ vs) other.lo first.none_below second.least)
    (All-contains (λ w. other.lo ≤ℤ w) (v ∷ vs) one.lo second.none_below first.least) in
    let high : one.hi ≡ other.hi = no_more one.hi other.hi
    (All-contains (λ w. w ≤ℤ other.hi) (v ∷ vs) one.hi second.none_above first.greatest)
    (All-contains (λ w. w ≤ℤ one.hi) (v ∷ vs) other.hi first.none_above second.greatest) in
    λ i. record { lo = low i; hi = high i }

shown_one : (asked : Option ValueRange) (values : List ℤ) (one other : ValueRange) → ShowsRange asked values one
    → ShowsRange asked values other → one ≡ other
shown_one None values one other first second = range_one values one other first second
shown_one (Some asked) values one other first second = first ∙ sym second

charts_alike : (g : Grid) (range : ValueRange) (samples : List Sample) (one other : Canvas) → IsChart g range samples one
    → IsChart g range samples other → AreAlike one other
charts_alike g range samples one other first second = record {
  width = second.width ∙ sym first.width;
  height = second.height ∙ sym first.height;
  pixels = λ x y low high.
      let here = first.pixels x y (omega (arith, low, first.width)) (omega (arith, high, first.height)) in
      let there = second.pixels x y (omega (arith, low, first.width)) (omega (arith, high, first.height)) in
      (λ black. here.1 (there.0 black), λ black. there.1 (here.0 black));
}

pub alike : (book : List Series) (x y : ℕ) (a b : ℤ) (g : Grid) (asked : Option ValueRange) (one other : Canvas)
    → ((x y : Axis) (xs ys : List (Option ℤ)) (one other : List Sample) → AreSumSamples g a b x y xs ys one
    → AreSumSamples g a b x y xs ys other → one ≡ other)
    → IsDerivedChart book x y a b g asked one → IsDerivedChart book x y a b g asked other → AreAlike one other
alike book x y a b g asked one other law first second =
    let same = samples_one book x y a b g second.samples first.samples law second.are first.are in
    let V : List Sample → Type 0 = λ s. ShowsRange asked (values_of s) second.range in
    let range = shown_one asked (values_of first.samples) second.range first.range (subst V same second.shows) first.shows in
    let S : List Sample → Type 0 = λ s. IsChart g second.range s other in
    let R : ValueRange → Type 0 = λ r. IsChart g r first.samples other in
    charts_alike g first.range first.samples one other first.chart (subst R range (subst S same second.chart))
