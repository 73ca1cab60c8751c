use Rattle.std.proofs.Common.{Option, subst}
use Rattle.plain_chart.specs.declared.value_range.ValueRange.{ValueRange}
use Rattle.row_chart.specs.Ranges.{SpansRows}
use Rattle.row_chart.proofs.Ranged.{span_more}
use Rattle.row_chart.proofs.range.widened.Goals as goal

pub returns-in-Some : goal.returns-in-Some
returns-in-Some c = λ rows spans.
    let P : Option ValueRange → Type 0 = λ o. SpansRows o rows in
    span_more rows c.args.row c.in-Some.range c.joined.result c.joined.ensures.low c.joined.ensures.high (subst P c.in-Some.is spans)
