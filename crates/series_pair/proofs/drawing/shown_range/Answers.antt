use Rattle.std.proofs.Common.{Option, sym, subst}
use Rattle.plain_chart.specs.Samples.{values_of}
use Rattle.plain_chart.specs.declared.value_range.ValueRange.{ValueRange}
use Rattle.series_pair.specs.Derived.{ShowsRange}
use Rattle.series_pair.proofs.drawing.shown_range.Goals as goal

pub returns-in-None-clause-shows : goal.returns-in-None-clause-shows
returns-in-None-clause-shows c = λ grid samples are.
    let R : Option ValueRange → Type 0 = λ r. ShowsRange r (values_of samples) c.range_of_rows.result in
    subst R (sym c.in-None.is) (c.range_of_rows.ensures.range grid samples are)
