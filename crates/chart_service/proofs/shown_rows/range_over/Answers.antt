use Rattle.std.proofs.Common.{sym, subst}
use Rattle.plain_chart.specs.Samples.{values_of}
use Rattle.zoom_session.specs.declared.view_spec.RangeSpec.{RangeSpec}
use Rattle.chart_service.specs.Viewing.{ShowsRange}
use Rattle.chart_service.proofs.shown_rows.range_over.Goals as goal

pub returns-in-Auto-clause-shown : goal.returns-in-Auto-clause-shown
returns-in-Auto-clause-shown c = λ grid samples are.
    let P : RangeSpec → Type 0 = λ r. ShowsRange r (values_of samples) c.range_of_rows.result in
    subst P (sym c.in-Auto.is) (c.range_of_rows.ensures.range grid samples are)
