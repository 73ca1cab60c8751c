use Rattle.std.proofs.Common.{arith, refl, ◌-◌}
use Rattle.chart_grid.proofs.Slots.{window_start, window_stop}
use Rattle.derived_chart.proofs.TimeLemmas.{window_order}
use Rattle.derived_chart.proofs.times.window_slots.Goals as goal

pub returns-clause-from : goal.returns-clause-from
returns-clause-from c =
    window_start c.args.axis c.args.grid 0 c.slot_range-from.result.0 refl
    (c.borders_part_columns.ensures.first c.args.grid) c.slot_range-from.ensures.from

pub returns-clause-to : goal.returns-clause-to
returns-clause-to c =
    window_stop c.args.axis c.args.grid (c.w.result - 1) c.slot_range-to.result.1 (omega (arith, c.w.ensures.value, c.args.grid.wide.some))
    (c.borders_part_columns.ensures.last c.args.grid) c.slot_range-to.ensures.to

pub returns-clause-order : goal.returns-clause-order
returns-clause-order c =
    window_order c.args.axis c.args.grid c.slot_range-from.result.0 c.slot_range-to.result.1
    (window_start c.args.axis c.args.grid 0 c.slot_range-from.result.0 refl
    (c.borders_part_columns.ensures.first c.args.grid) c.slot_range-from.ensures.from)
    (window_stop c.args.axis c.args.grid (c.w.result - 1) c.slot_range-to.result.1 (omega (arith, c.w.ensures.value, c.args.grid.wide.some))
    (c.borders_part_columns.ensures.last c.args.grid) c.slot_range-to.ensures.to)

pub returns-clause-within : goal.returns-clause-within
returns-clause-within c = c.slot_range-to.ensures.to.within
