use Rattle.std.proofs.Common.{List, SFits, sym, subst, w64}
use Rattle.std.proofs.lemmas.Int.{to_z-of_z}
use Rattle.m4_groups.specs.declared.row.Row.{Row}
use Rattle.m4_groups.specs.Rows.{AreRising}
use Rattle.std.specs.Prelude.{All}
use Rattle.needed_nodes.specs.Answers.{IsShownRow, AreDrawnAs, points_of}
use Rattle.needed_nodes.proofs.StepLaws.{err_cause}
use Rattle.needed_nodes.proofs.ExploreLaws.{explores_at}
use Rattle.needed_nodes.proofs.surveying.rows_of.Goals as goal

pub returns-clause-rising : goal.returns-clause-rising
returns-clause-rising g c =
    let P : List Row → Type 0 = λ rows. AreRising rows in subst P (sym c.from_vec.ensures) c.in_ok-explored.ensures.found.rising

pub returns-clause-shown : goal.returns-clause-shown
returns-clause-shown g c =
    let P : List Row → Type 0 = λ rows. All (IsShownRow c.args.grid.w) rows in
    subst P (sym c.from_vec.ensures) c.in_ok-explored.ensures.found.shown

pub returns-clause-rows : goal.returns-clause-rows
returns-clause-rows g c = λ list agrees.
    let P : List Row → Type 0 = λ rows. AreDrawnAs c.args.grid c.args.lo c.args.hi (points_of c.args.axis c.args.grid list) rows in
    subst P (sym c.from_vec.ensures)
    ((explores_at (g.N.Nodes.view c.args.nodes.now) c.args.axis c.args.grid _ _ c.args.lo c.args.hi c.in_ok-explored.explored.keys.items
    c.in_ok-explored.explored.rows.items
    (to_z-of_z w64 c.args.lo c.ranges.lo) (to_z-of_z w64 c.args.hi c.ranges.hi) c.in_ok-explored.ensures.found).rows_of_list list agrees)

pub returns-in_err-explored-clause-cause : goal.returns-in_err-explored-clause-cause
returns-in_err-explored-clause-cause g c =
    let lo_fits : SFits w64 c.args.lo = c.ranges.lo in
    let hi_fits : SFits w64 c.args.hi = c.ranges.hi in
    err_cause _ _ c.in_err-explored.field-0.0 c.from_residual.ensures.1 (simp to_z-of_z at c.in_err-explored.ensures.cause)

pub returns-in_err-explored-clause-quiet_err : goal.returns-in_err-explored-clause-quiet_err
returns-in_err-explored-clause-quiet_err g c = err_cause _ _ c.in_err-explored.field-0.0 c.from_residual.ensures.1
    c.in_err-explored.ensures.quiet_err
