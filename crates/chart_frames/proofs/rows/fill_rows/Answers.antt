use Rattle.std.proofs.Common.{List, ap, ◌∙◌, arith}
use Rattle.m4_groups.specs.declared.row.Row.{Row}
use Rattle.chart_frames.specs.Spelled.{rows_all_before}
use Rattle.chart_frames.proofs.Items.{rows_ended}
use Rattle.chart_frames.proofs.rows.fill_rows.Goals as goal

pub returns-in-Err-clause-err : goal.returns-in-Err-clause-err
returns-in-Err-clause-err c = (
  c.loop.rest.now,
  ap (λ (xs : List Row). rows_all_before xs c.loop.rest.now) c.in-Err.ensures.unchanged ∙ c.loop.invariant.same,
  rows_ended c.in-Err.stop c.args.w c.loop.rows.items c.push_row.new.rows.items c.args.count c.loop.rest.now
      (omega arith) c.in-Err.ensures.unchanged c.in-Err.ensures.err,
)
