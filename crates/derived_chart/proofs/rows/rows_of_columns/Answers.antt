use Rattle.std.proofs.Common.{ℕ, ◌≡◌, ◌+◌, ◌≤◌, ◌∙◌, ap₂, List, false, true, refl, sym, subst, arith}
use Rattle.m4_groups.specs.declared.row.Row.{Row}
use Rattle.derived_chart.specs.Reads.{levels}
use Rattle.derived_chart.specs.Rows.{AreShown, AreRowsBelow, IsRowCause}
use Rattle.derived_chart.proofs.ReadLemmas.{next_reads, window_reads}
use Rattle.derived_chart.proofs.RowLemmas.{none_below, none_shown, passed_error, row_cause}
use Rattle.derived_chart.proofs.rows.rows_of_columns.Goals as goal

pub loop-column-init : goal.loop-column-init
loop-column-init g c = record {
  fit = c.requires.fit;
  goes = g.met.T.TwoTrees.goes_nowhere c.args.trees.now;
  quiet = refl;
  reads = λ from to one two. omega arith;
  shown = (let P : List Row → Type 0 = λ rows. AreShown c.args.grid.w 0 rows in
      subst P (sym c.in_ok-rows.ensures.items) (none_shown c.args.grid.w));
  rows = λ xs ys sums trees are small. (let P : List Row → Type 0 = λ rows. AreRowsBelow c.args.axis c.args.grid sums 0 rows in
      subst P (sym c.in_ok-rows.ensures.items) (none_below c.args.axis c.args.grid sums));
}

pub loop-column-preserved : goal.loop-column-preserved
loop-column-preserved g c = record {
  fit = c.in_ok-add_column.ensures.fit;
  goes = g.met.T.TwoTrees.goes_on _ _ _ c.loop-column.invariant.goes c.in_ok-add_column.ensures.goes;
  quiet = c.in_ok-add_column.ensures.quiet ∙ c.loop-column.invariant.quiet;
  reads = next_reads c.args.axis c.args.grid c.loop-column.column
      (levels (g.T.TwoTrees.count false c.args.trees.now) (g.T.TwoTrees.count true c.args.trees.now)) _ _ _ _ c.requires.step
      (ap₂ levels (g.met.T.TwoTrees.still_count false _ _ c.loop-column.invariant.goes)
      (g.met.T.TwoTrees.still_count true _ _ c.loop-column.invariant.goes)) c.loop-column.invariant.reads c.in_ok-add_column.ensures.reads;
  shown = c.in_ok-add_column.ensures.shown c.loop-column.invariant.shown;
  rows = λ xs ys sums trees are small. c.in_ok-add_column.ensures.rows xs ys sums
      (g.met.T.TwoTrees.still_are _ _ xs ys c.loop-column.invariant.goes trees) are small
      (c.loop-column.invariant.rows xs ys sums trees are small);
}

pub returns-clause-rows : goal.returns-clause-rows
returns-clause-rows g c = λ xs ys sums trees are small.
    let last : c.loop-column.column ≡ c.args.grid.w = omega (
      arith,
      c.loop-column-test.false,
      c.loop-column.auto.column-end,
      c.w-column-end.ensures.value,
    ) in
    let P : ℕ → Type 0 = λ n. AreRowsBelow c.args.axis c.args.grid sums n c.loop-column.rows.items in
    subst P last (c.loop-column.invariant.rows xs ys sums trees are small)

pub add_column-requires-clause-slots : goal.add_column-requires-clause-slots
add_column-requires-clause-slots g c = c.requires.slots ∙ sym (g.met.T.TwoTrees.still_count false _ _ c.loop-column.invariant.goes)

pub returns-in_err-add_column-clause-goes : goal.returns-in_err-add_column-clause-goes
returns-in_err-add_column-clause-goes g c = g.met.T.TwoTrees.goes_on _ _ _ c.loop-column.invariant.goes c.in_err-add_column.ensures.goes

pub returns-in_err-add_column-clause-cause : goal.returns-in_err-add_column-clause-cause
returns-in_err-add_column-clause-cause g c =
    passed_error c.from_residual-in_err-add_column.result c.in_err-add_column.field-0.0
    (IsRowCause (g.T.TwoTrees.causes c.args.trees.now c.add_column.new.trees)) c.from_residual-in_err-add_column.ensures.1
    (row_cause (g.T.TwoTrees.causes c.loop-column.trees c.add_column.new.trees)
    (g.T.TwoTrees.causes c.args.trees.now c.add_column.new.trees) c.in_err-add_column.field-0.0
    (λ n. g.met.T.TwoTrees.causes_behind _ _ _ n c.loop-column.invariant.goes c.loop-column.invariant.quiet)
    c.in_err-add_column.ensures.cause)

pub returns-clause-shown : goal.returns-clause-shown
returns-clause-shown g c =
    let last : c.loop-column.column ≡ c.args.grid.w = omega (
      arith,
      c.loop-column-test.false,
      c.loop-column.auto.column-end,
      c.w-column-end.ensures.value,
    ) in
    let P : ℕ → Type 0 = λ n. AreShown c.args.grid.w n c.loop-column.rows.items in
    subst P last c.loop-column.invariant.shown

pub returns-in_err-rows-clause-reads : goal.returns-in_err-rows-clause-reads
returns-in_err-rows-clause-reads g c = λ from to one two. omega arith

pub returns-in_err-add_column-clause-reads : goal.returns-in_err-add_column-clause-reads
returns-in_err-add_column-clause-reads g c =
    let drawn : c.loop-column.column + 1 ≤ c.args.grid.w = omega (
      arith,
      c.loop-column-test.true,
      c.loop-column.auto.column-end,
      c.w-column-end.ensures.value,
    ) in
    window_reads c.args.axis c.args.grid (c.loop-column.column + 1)
    (levels (g.T.TwoTrees.count false c.args.trees.now) (g.T.TwoTrees.count true c.args.trees.now)) _ _ c.requires.step drawn
    (next_reads c.args.axis c.args.grid c.loop-column.column
    (levels (g.T.TwoTrees.count false c.args.trees.now) (g.T.TwoTrees.count true c.args.trees.now)) _ _ _ _ c.requires.step
    (ap₂ levels (g.met.T.TwoTrees.still_count false _ _ c.loop-column.invariant.goes)
    (g.met.T.TwoTrees.still_count true _ _ c.loop-column.invariant.goes)) c.loop-column.invariant.reads
    c.in_err-add_column.ensures.reads)

pub returns-clause-reads : goal.returns-clause-reads
returns-clause-reads g c =
    let last : c.loop-column.column ≤ c.args.grid.w = omega (
      arith,
      c.loop-column-test.false,
      c.loop-column.auto.column-end,
      c.w-column-end.ensures.value,
    ) in
    window_reads c.args.axis c.args.grid c.loop-column.column
    (levels (g.T.TwoTrees.count false c.args.trees.now) (g.T.TwoTrees.count true c.args.trees.now)) _ _ c.requires.step last
    c.loop-column.invariant.reads
