use Rattle.std.proofs.Common.{sym, ◌∙◌}
use Rattle.std.proofs.lemmas.Result.{IfOk-weaker}
use Rattle.std.specs.Prelude.{All}
use Rattle.m4_groups.specs.Rows.{AreRowsOf}
use Rattle.needed_nodes.specs.Answers.{IsShownRow}
use Rattle.query_rewriter.specs.Kept.{plan_keeps, query_keeps}
use Rattle.plain_chart.specs.Samples.{sample_points}
use Rattle.filter_scan.proofs.PointLaws.{query_rows, shown_by_plan, all_slots}
use Rattle.filter_scan.proofs.WindowLaws.{window_of, window_reads}
use Rattle.filter_scan.proofs.rows.rows_of_query.Goals as goal

pub returns-clause-rows : goal.returns-clause-rows
returns-clause-rows g c = λ list agrees.
    IfOk-weaker c.m4_rows.result
    (AreRowsOf c.in_ok-plan.plan.grid (sample_points (plan_keeps c.args.query.now.axis c.in_ok-plan.plan list)))
    (AreRowsOf c.args.query.now.grid (sample_points (query_keeps c.args.query.now list)))
    (λ rows. query_rows c.args.query.now c.in_ok-plan.plan list rows c.in_ok-plan.ensures.grid
    (c.in_ok-plan.ensures.same list (sym (c.requires.slots ∙ agrees.slots)) (all_slots list agrees.values)))
    (c.m4_rows.ensures.rows list agrees)

pub returns-clause-shown : goal.returns-clause-shown
returns-clause-shown g c =
    IfOk-weaker c.m4_rows.result (All (IsShownRow c.in_ok-plan.plan.grid.w)) (All (IsShownRow c.args.query.now.grid.w))
    (λ rows. shown_by_plan c.args.query.now c.in_ok-plan.plan rows c.in_ok-plan.ensures.grid) c.m4_rows.ensures.shown

pub returns-clause-window : goal.returns-clause-window
returns-clause-window g c =
    let plan = c.in_ok-plan.plan in
    window_of c.args.query.now.axis plan.grid c.args.query.now.grid _ _ c.in_ok-plan.ensures.grid
    (window_reads c.args.query.now.axis plan _ _ c.in_ok-plan.ensures.scan c.m4_rows.ensures.reads)
