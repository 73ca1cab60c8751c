use Rattle.std.proofs.Common.{false, true, sym, subst, ◌+◌, List}
use Rattle.std.specs.Prelude.{IfSome, ◌≡◌}
use Rattle.m4_groups.specs.Heights.{IsDrawable}
use Rattle.m4_groups.specs.declared.row.Row.{Row}
use Rattle.derived_chart.specs.declared.derived_error.DerivedError.TheVariants.{Node}
use Rattle.derived_chart.specs.Reads.{levels}
use Rattle.derived_chart.specs.Rows.{IsOrdered, IsRowCause, IsRowIfAny, AreShown, AreRowsBelow}
use Rattle.derived_chart.proofs.ReadLemmas.{column_reads}
use Rattle.derived_chart.proofs.RowLemmas.{column_without, column_with, shown_with, passed_error}
use Rattle.derived_chart.proofs.rows.add_column.Goals as goal

pub returns-in_default-clause-rows : goal.returns-in_default-clause-rows
returns-in_default-clause-rows g c = λ xs ys sums trees are small below.
    let is = c.in_ok-row.ensures.row xs ys sums trees are
    (λ i v low high holds. small c.args.column i v ((c.slot_range-p.ensures.slots i).1 (low, high)) holds) in
    column_without c.args.axis c.args.grid sums c.args.column c.slot_range-p.result.0 c.slot_range-p.result.1 c.args.rows.now.items
    c.slot_range-p.ensures.slots (subst (IsRowIfAny sums c.slot_range-p.result.0 c.slot_range-p.result.1) c.in_default.is is) below

pub returns-clause-rows : goal.returns-clause-rows
returns-clause-rows g c = λ xs ys sums trees are small below.
    let is = c.in_ok-row.ensures.row xs ys sums trees are
    (λ i v low high holds. small c.args.column i v ((c.slot_range-p.ensures.slots i).1 (low, high)) holds) in
    let P : List Row → Type 0 = λ rows. AreRowsBelow c.args.axis c.args.grid sums (c.args.column + 1) rows in
    subst P (sym c.in_ok-push.ensures.items)
    (column_with c.args.axis c.args.grid sums c.args.column c.slot_range-p.result.0 c.slot_range-p.result.1 c.args.rows.now.items
    c.in-Some.row c.slot_range-p.ensures.slots
    (subst (λ o. IfSome o (λ r. r.column ≡ c.args.column)) c.in-Some.is c.in_ok-row.ensures.column)
    (subst (IsRowIfAny sums c.slot_range-p.result.0 c.slot_range-p.result.1) c.in-Some.is is) below)

pub returns-clause-shown : goal.returns-clause-shown
returns-clause-shown g c = λ shown.
    let P : List Row → Type 0 = λ rows. AreShown c.args.grid.w (c.args.column + 1) rows in
    subst P (sym c.in_ok-push.ensures.items)
    (shown_with c.args.grid.w c.args.column c.args.rows.now.items c.in-Some.row c.requires.drawn
    (subst (λ o. IfSome o (λ r. r.column ≡ c.args.column)) c.in-Some.is c.in_ok-row.ensures.column)
    (subst (λ o. IfSome o (IsDrawable (c.args.column + 1))) c.in-Some.is c.in_ok-row.ensures.drawable)
    (subst (λ o. IfSome o IsOrdered) c.in-Some.is c.in_ok-row.ensures.ordered) shown)

pub returns-in_err-row-clause-cause : goal.returns-in_err-row-clause-cause
returns-in_err-row-clause-cause g c =
    passed_error c.from_residual.result (Node c.in_err-row.field-0.0)
    (IsRowCause (g.T.TwoTrees.causes c.args.trees.now c.row_of_column.new.trees)) c.from_residual.ensures.1 c.in_err-row.ensures.cause

pub returns-in_err-row-clause-reads : goal.returns-in_err-row-clause-reads
returns-in_err-row-clause-reads g c = λ from to one two.
    column_reads c.args.axis c.args.grid c.args.column from to c.slot_range-p.result.0 c.slot_range-p.result.1
    (levels (g.T.TwoTrees.count false c.args.trees.now) (g.T.TwoTrees.count true c.args.trees.now)) _ _ one two
    c.slot_range-p.ensures.from c.slot_range-p.ensures.to c.in_err-row.ensures.reads

pub returns-in_default-clause-reads : goal.returns-in_default-clause-reads
returns-in_default-clause-reads g c = λ from to one two.
    column_reads c.args.axis c.args.grid c.args.column from to c.slot_range-p.result.0 c.slot_range-p.result.1
    (levels (g.T.TwoTrees.count false c.args.trees.now) (g.T.TwoTrees.count true c.args.trees.now)) _ _ one two
    c.slot_range-p.ensures.from c.slot_range-p.ensures.to c.in_ok-row.ensures.reads

pub returns-in_err-push-clause-reads : goal.returns-in_err-push-clause-reads
returns-in_err-push-clause-reads g c = λ from to one two.
    column_reads c.args.axis c.args.grid c.args.column from to c.slot_range-p.result.0 c.slot_range-p.result.1
    (levels (g.T.TwoTrees.count false c.args.trees.now) (g.T.TwoTrees.count true c.args.trees.now)) _ _ one two
    c.slot_range-p.ensures.from c.slot_range-p.ensures.to c.in_ok-row.ensures.reads

pub returns-clause-reads : goal.returns-clause-reads
returns-clause-reads g c = λ from to one two.
    column_reads c.args.axis c.args.grid c.args.column from to c.slot_range-p.result.0 c.slot_range-p.result.1
    (levels (g.T.TwoTrees.count false c.args.trees.now) (g.T.TwoTrees.count true c.args.trees.now)) _ _ one two
    c.slot_range-p.ensures.from c.slot_range-p.ensures.to c.in_ok-row.ensures.reads
