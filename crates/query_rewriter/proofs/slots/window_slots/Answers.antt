use Rattle.std.proofs.Common.{refl, arith, ◌-◌}
use Rattle.chart_grid.proofs.Slots.{window_start, window_stop, window_order}
use Rattle.query_rewriter.proofs.slots.window_slots.Goals as goal

pub returns-clause-from : goal.returns-clause-from
returns-clause-from c =
    window_start c.args.axis c.args.grid 0 c.slot_range-from.result.0 refl
    (c.borders_part_columns.ensures.first c.args.grid) c.slot_range-from.ensures.from

pub returns-clause-end : goal.returns-clause-end
returns-clause-end c =
    window_stop c.args.axis c.args.grid (c.w.result - 1) c.slot_range-end.result.1 (omega (arith, c.w.ensures.value, c.args.grid.wide.some))
    (c.borders_part_columns.ensures.last c.args.grid) c.slot_range-end.ensures.to

pub returns-clause-order : goal.returns-clause-order
returns-clause-order c =
    window_order c.args.axis c.args.grid c.slot_range-from.result.0 c.slot_range-end.result.1 (returns-clause-from c) (returns-clause-end c)
