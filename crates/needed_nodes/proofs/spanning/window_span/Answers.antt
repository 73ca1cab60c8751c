use Rattle.std.proofs.Common.{◌≡◌, ◌-◌, ◌∙◌, refl, arith}
use Rattle.std.proofs.lemmas.Result.{IfOk-weaker}
use Rattle.om3_coeff.specs.Spans.{span_over}
use Rattle.plain_chart.specs.Samples.{kept, values_of}
use Rattle.needed_nodes.specs.Answers.{IsSpanOfValues}
use Rattle.needed_nodes.proofs.PointLaws.{window_span_is}
use Rattle.chart_grid.proofs.Slots.{window_start, window_stop, window_order}
use Rattle.needed_nodes.proofs.spanning.window_span.Goals as goal

pub range_span-requires-clause-order : goal.range_span-requires-clause-order
range_span-requires-clause-order g c =
    window_order c.args.axis c.args.grid c.slot_range-from.result.0 c.slot_range-end.result.1
    (window_start c.args.axis c.args.grid 0 c.slot_range-from.result.0 refl
    (c.borders_part_columns.ensures.first c.args.grid) c.slot_range-from.ensures.from)
    (window_stop c.args.axis c.args.grid (c.w.result - 1) c.slot_range-end.result.1
    (omega (arith, c.w.ensures.value, c.args.grid.wide.some))
    (c.borders_part_columns.ensures.last c.args.grid) c.slot_range-end.ensures.to)

pub returns-clause-list : goal.returns-clause-list
returns-clause-list g c list agrees =
    IfOk-weaker c.range_span.result
    (λ s. s ≡ span_over list c.slot_range-from.result.0 c.slot_range-end.result.1)
    (IsSpanOfValues (values_of (kept c.args.grid c.args.axis list)))
    (λ s is.
    window_span_is c.args.axis c.args.grid list c.slot_range-from.result.0 c.slot_range-end.result.1 s (c.requires.slots ∙ agrees.slots)
    (window_start c.args.axis c.args.grid 0 c.slot_range-from.result.0 refl
    (c.borders_part_columns.ensures.first c.args.grid) c.slot_range-from.ensures.from)
    (window_stop c.args.axis c.args.grid (c.w.result - 1) c.slot_range-end.result.1
    (omega (arith, c.w.ensures.value, c.args.grid.wide.some))
    (c.borders_part_columns.ensures.last c.args.grid) c.slot_range-end.ensures.to)
    is)
    (c.range_span.ensures.list list agrees)
