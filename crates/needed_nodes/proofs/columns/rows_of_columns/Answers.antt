use Rattle.std.proofs.Common.{ℕ, ◌≡◌, ◌+◌, ◌∙◌, List, refl, sym, subst, arith}
use Rattle.m4_groups.specs.declared.row.Row.{Row}
use Rattle.om3_coeff.specs.View.{StaysSame}
use Rattle.needed_nodes.specs.Columns.{top_end, HasColumns}
use Rattle.needed_nodes.proofs.ServeLaws.{serves_earlier, serves_list_earlier}
use Rattle.needed_nodes.proofs.StepLaws.{cause_earlier, err_cause}
use Rattle.needed_nodes.proofs.ColumnLaws.{no_columns, more_columns, held_at, ends_at, spans_at, reads_column, reads_within}
use Rattle.needed_nodes.proofs.columns.rows_of_columns.Goals as goal

pub loop-column-init : goal.loop-column-init
loop-column-init g c = record {
  fit = c.requires.fit;
  kept = g.met.N.Nodes.keeps_itself c.args.nodes.now;
  reads = omega arith;
  faults = omega arith;
  quiet = refl;
  found =
      let P : List Row → Type 0 = λ rows. HasColumns
      (g.N.Nodes.view c.args.nodes.now) c.args.window.now 0 c.args.keys.now.items c.args.keys.now.items rows in
      subst P (sym c.new-rows.ensures.items) (no_columns (g.N.Nodes.view c.args.nodes.now) c.args.window.now c.args.keys.now.items);
}

pub bounds-table-from : goal.bounds-table-from
bounds-table-from g c = omega (arith, c.from.ensures, c.loop-column-test.true, c.w-column-end.ensures.value, c.requires.sized)

pub add_column-requires-clause-slots : goal.add_column-requires-clause-slots
add_column-requires-clause-slots g c =
    let same : StaysSame (g.N.Nodes.view c.args.nodes.now) (g.N.Nodes.view c.loop-column.nodes) =
    g.met.N.Nodes.keeps_same c.args.nodes.now c.loop-column.nodes c.loop-column.invariant.kept in
    same.slots ∙ c.requires.slots

pub add_column-requires-clause-drawn : goal.add_column-requires-clause-drawn
add_column-requires-clause-drawn g c = omega (arith, c.loop-column-test.true, c.w-column-end.ensures.value)

pub add_column-requires-clause-held : goal.add_column-requires-clause-held
add_column-requires-clause-held g c =
    held_at c.args.window.now (top_end c.args.window.now) c.loop-column.column c.from.result c.args.table.now c.from.ensures
    (omega (arith, c.loop-column-test.true, c.w-column-end.ensures.value)) c.requires.held

pub add_column-requires-clause-ends : goal.add_column-requires-clause-ends
add_column-requires-clause-ends g c = λ S served.
    let same : StaysSame (g.N.Nodes.view c.args.nodes.now) (g.N.Nodes.view c.loop-column.nodes) =
    g.met.N.Nodes.keeps_same c.args.nodes.now c.loop-column.nodes c.loop-column.invariant.kept in
    ends_at S c.args.window.now c.args.window.now.end c.loop-column.column c.from.result c.args.table.now c.from.ensures
    (omega (arith, c.loop-column-test.true, c.w-column-end.ensures.value))
    (c.requires.ends S (serves_earlier (g.N.Nodes.view c.args.nodes.now) _ c.args.window.now S same served))

pub add_column-requires-clause-spans : goal.add_column-requires-clause-spans
add_column-requires-clause-spans g c = λ list served.
    let same : StaysSame (g.N.Nodes.view c.args.nodes.now) (g.N.Nodes.view c.loop-column.nodes) =
    g.met.N.Nodes.keeps_same c.args.nodes.now c.loop-column.nodes c.loop-column.invariant.kept in
    spans_at list c.args.window.now c.args.window.now.end c.loop-column.column c.from.result c.args.table.now c.from.ensures
    (omega (arith, c.loop-column-test.true, c.w-column-end.ensures.value))
    (c.requires.spans list (serves_list_earlier (g.N.Nodes.view c.args.nodes.now) _ c.args.window.now list same served))

pub returns-in_err-add_column-clause-kept : goal.returns-in_err-add_column-clause-kept
returns-in_err-add_column-clause-kept g c =
    g.met.N.Nodes.keeps_on c.args.nodes.now c.loop-column.nodes c.add_column.new.nodes c.loop-column.invariant.kept
    c.in_err-add_column.ensures.kept

pub returns-in_err-add_column-clause-reads : goal.returns-in_err-add_column-clause-reads
returns-in_err-add_column-clause-reads g c =
    reads_within (g.N.Nodes.view c.args.nodes.now).reads (g.N.Nodes.view c.add_column.new.nodes).reads
    (c.loop-column.column + 1) c.args.window.now.grid.w _
    (omega (arith, c.loop-column-test.true, c.w-column-end.ensures.value))
    (reads_column (g.N.Nodes.view c.args.nodes.now).reads (g.N.Nodes.view c.loop-column.nodes).reads
    (g.N.Nodes.view c.add_column.new.nodes).reads c.loop-column.column _
    c.loop-column.invariant.reads c.in_err-add_column.ensures.reads)

pub returns-in_err-add_column-clause-faults : goal.returns-in_err-add_column-clause-faults
returns-in_err-add_column-clause-faults g c = omega (arith, c.loop-column.invariant.faults, c.in_err-add_column.ensures.faults)

pub returns-in_err-add_column-clause-cause : goal.returns-in_err-add_column-clause-cause
returns-in_err-add_column-clause-cause g c =
    err_cause _ _ c.in_err-add_column.field-0.0 c.from_residual.ensures.1
    (cause_earlier (g.N.Nodes.view c.args.nodes.now) (g.N.Nodes.view c.loop-column.nodes)
    (g.N.Nodes.view c.add_column.new.nodes) c.args.window.now c.in_err-add_column.field-0.0
    (g.met.N.Nodes.keeps_same c.args.nodes.now c.loop-column.nodes c.loop-column.invariant.kept) c.loop-column.invariant.quiet
    c.in_err-add_column.ensures.cause)

pub loop-column-preserved : goal.loop-column-preserved
loop-column-preserved g c = record {
  fit = c.in_ok-add_column.ensures.fit;
  kept = g.met.N.Nodes.keeps_on c.args.nodes.now c.loop-column.nodes c.add_column.new.nodes c.loop-column.invariant.kept
      c.in_ok-add_column.ensures.kept;
  reads =
      reads_column (g.N.Nodes.view c.args.nodes.now).reads (g.N.Nodes.view c.loop-column.nodes).reads
      (g.N.Nodes.view c.add_column.new.nodes).reads c.loop-column.column _
      c.loop-column.invariant.reads c.in_ok-add_column.ensures.reads;
  faults = omega (arith, c.loop-column.invariant.faults, c.in_ok-add_column.ensures.faults);
  quiet = c.in_ok-add_column.ensures.quiet ∙ c.loop-column.invariant.quiet;
  found =
      more_columns (g.N.Nodes.view c.args.nodes.now) (g.N.Nodes.view c.loop-column.nodes) c.args.window.now c.loop-column.column _ _ _ _ _
      (g.met.N.Nodes.keeps_same c.args.nodes.now c.loop-column.nodes c.loop-column.invariant.kept) c.loop-column.invariant.found
      c.in_ok-add_column.ensures.found;
}

pub returns-clause-reads : goal.returns-clause-reads
returns-clause-reads g c =
    reads_within (g.N.Nodes.view c.args.nodes.now).reads
    (g.N.Nodes.view c.loop-column.nodes).reads c.loop-column.column c.args.window.now.grid.w _
    (omega (arith, c.loop-column.auto.column-end, c.w-column-end.ensures.value)) c.loop-column.invariant.reads

pub returns-clause-found : goal.returns-clause-found
returns-clause-found g c =
    let last : c.loop-column.column ≡ c.args.window.now.grid.w =
    omega (arith, c.loop-column-test.false, c.loop-column.auto.column-end, c.w-column-end.ensures.value) in
    let P : ℕ → Type 0 = λ n. HasColumns (g.N.Nodes.view c.args.nodes.now) c.args.window.now n c.args.keys.now.items
    c.loop-column.keys.items c.loop-column.rows.items in
    subst P last c.loop-column.invariant.found

pub returns-in_err-add_column-clause-quiet_err : goal.returns-in_err-add_column-clause-quiet_err
returns-in_err-add_column-clause-quiet_err g c =
    err_cause _ _ c.in_err-add_column.field-0.0 c.from_residual.ensures.1
    (λ other. c.in_err-add_column.ensures.quiet_err other ∙ c.loop-column.invariant.quiet)
