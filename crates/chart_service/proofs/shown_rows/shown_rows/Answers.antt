use Rattle.std.proofs.Common.{subst}
use Rattle.query_rewriter.specs.declared.queries.ViewQuery.{ViewQuery}
use Rattle.query_rewriter.specs.Kept.{query_keeps}
use Rattle.m4_groups.specs.Rows.{AreRowsOf}
use Rattle.plain_chart.specs.Samples.{sample_points}
use Rattle.needed_nodes.specs.Answers.{IsShownRow}
use Rattle.std.specs.Prelude.{All}
use Rattle.chart_service.specs.Viewing.{kept_of}
use Rattle.chart_service.proofs.Filtered.{drawable_rows}
use Rattle.chart_service.proofs.shown_rows.shown_rows.Goals as goal

pub returns-clause-shown : goal.returns-clause-shown
returns-clause-shown g c = λ list agrees.
    let spec = c.args.spec.now in
    let P : ViewQuery → Type 0 = λ q. AreRowsOf q.grid (sample_points (query_keeps q list)) c.in_ok-rows.rows in
    let rows : AreRowsOf spec.grid (sample_points (kept_of spec c.args.axis list)) c.in_ok-rows.rows =
    subst P c.in-Ok.ensures (c.in_ok-rows.ensures.rows list agrees) in
    record { rows = rows; range = c.range_over-range.ensures.shown spec.grid (kept_of spec c.args.axis list) rows }

pub returns-clause-in_frame : goal.returns-clause-in_frame
returns-clause-in_frame g c =
    let spec = c.args.spec.now in
    let P : ViewQuery → Type 0 = λ q. All (IsShownRow q.grid.w) c.in_ok-rows.rows in
    let shown : All (IsShownRow spec.grid.w) c.in_ok-rows.rows = subst P c.in-Ok.ensures c.in_ok-rows.ensures.shown in
    record {
      rising = c.in_ok-rows.ensures.rising;
      rows = shown;
      range = c.range_over-range.ensures.in_frame spec.grid.w (drawable_rows spec.grid.w c.in_ok-rows.rows shown);
    }
