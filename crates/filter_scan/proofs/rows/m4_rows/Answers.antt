use Rattle.std.proofs.Common.{List, subst, sym}
use Rattle.std.specs.Prelude.{All, filter}
use Rattle.m4_groups.specs.declared.row.Row.{Row}
use Rattle.m4_groups.specs.Rows.{AreRising, AreRowsOf}
use Rattle.needed_nodes.specs.Answers.{IsShownRow}
use Rattle.query_rewriter.specs.Kept.{passes, stored_in}
use Rattle.plain_chart.specs.Samples.{sample_points}
use Rattle.filter_scan.proofs.PointLaws.{plan_rows}
use Rattle.filter_scan.proofs.rows.m4_rows.Goals as goal

pub returns-clause-rows : goal.returns-clause-rows
returns-clause-rows g c = λ list agrees.
    let P : List Row → Type 0 = λ rows.
    AreRowsOf c.of-scan.result.grid (sample_points (filter (passes c.args.plan.now.filter)
    (stored_in c.of-scan.result.axis (c.of-scan.result.from, c.of-scan.result.end) list))) rows in
    plan_rows c.of-scan.result c.args.axis c.args.plan.now list c.from_vec.result c.of-scan.ensures.axis c.of-scan.ensures.grid
    c.of-scan.ensures.from c.of-scan.ensures.end
    (subst P (sym c.from_vec.ensures) (c.in_ok-rows.ensures.found.of_list list agrees))

pub returns-clause-rising : goal.returns-clause-rising
returns-clause-rising g c =
    let P : List Row → Type 0 = λ rows. AreRising rows in subst P (sym c.from_vec.ensures) c.in_ok-rows.ensures.found.rising

pub returns-clause-shown : goal.returns-clause-shown
returns-clause-shown g c =
    let P : List Row → Type 0 = λ rows. All (IsShownRow c.args.plan.now.grid.w) rows in
    subst P (sym c.from_vec.ensures) (simp c.of-scan.ensures.grid at c.in_ok-rows.ensures.found.shown)

pub returns-in_err-rows-clause-reads : goal.returns-in_err-rows-clause-reads
returns-in_err-rows-clause-reads g c =
    simp (c.of-scan.ensures.from, c.of-scan.ensures.end, c.of-scan.ensures.axis) at c.in_err-rows.ensures.reads

pub returns-clause-reads : goal.returns-clause-reads
returns-clause-reads g c =
    simp (c.of-scan.ensures.from, c.of-scan.ensures.end, c.of-scan.ensures.axis) at c.in_ok-rows.ensures.reads
