use Rattle.std.proofs.Common.{ap₂, arith, false, true, sym, subst, rules, w64, ◌∙◌, None, List}
use Rattle.std.proofs.lemmas.Int.{to_z-of_z}
use Rattle.m4_groups.specs.declared.row.Row.{Row}
use Rattle.std.specs.Prelude.{All}
use Rattle.m4_groups.specs.Heights.{IsDrawable}
use Rattle.m4_groups.specs.Rows.{AreRising, AreRowsOf}
use Rattle.derived_chart.specs.declared.derived_error.DerivedError.TheVariants.{Node}
use Rattle.derived_chart.specs.Reads.{levels}
use Rattle.derived_chart.specs.Rows.{IsCause, IsFirstTooLarge, IsOrdered}
use Rattle.plain_chart.specs.Samples.{kept, sample_points}
use Rattle.derived_chart.specs.Lists.{sums_of}
use Rattle.derived_chart.specs.Searches.{IsFirstLarge}
use Rattle.derived_chart.proofs.ReadLemmas.{rows_reads, search_reads}
use Rattle.derived_chart.proofs.ListLemmas.{sums_are}
use Rattle.derived_chart.proofs.RowLemmas.{rows_are, column_small, samples_small, first_too_large, passed_error, error_answer, later_cause}
use Rattle.derived_chart.proofs.rows.derived_rows.Goals as goal

pub returns-in-Some-clause-rows : goal.returns-in-Some-clause-rows
returns-in-Some-clause-rows g c = λ xs ys trees.
    let sums = sums_of c.args.sum xs ys in
    let are = sums_are c.args.sum xs ys in
    let now = g.met.T.TwoTrees.still_are _ _ xs ys c.slots_of_first-slots.ensures.goes trees in
    let slots = c.requires.slots ∙ sym c.slots_of_first-slots.ensures.count ∙ c.slots_of_first-slots.ensures.length xs ys trees
    ∙ sym are.same in
    let found = subst (IsFirstLarge sums c.window_slots-from.result.0 c.window_slots-from.result.1) c.in-Some.is
    (c.in_ok-large.ensures.large xs ys sums now are) in
    subst (IsFirstTooLarge (kept c.args.grid c.args.axis sums)) (sym (to_z-of_z w64 c.time_of-time.result (search rules)))
    (first_too_large c.args.axis c.args.grid sums c.window_slots-from.result.0 c.window_slots-from.result.1 c.in-Some.found.0
    c.in-Some.found.1 c.time_of-time.result slots c.window_slots-from.ensures.from c.window_slots-from.ensures.to c.time_of-time.ensures
    found)

pub returns-clause-rows : goal.returns-clause-rows
returns-clause-rows g c = λ xs ys trees.
    let sums = sums_of c.args.sum xs ys in
    let are = sums_are c.args.sum xs ys in
    let now = g.met.T.TwoTrees.still_are _ _ xs ys c.slots_of_first-slots.ensures.goes trees in
    let then = g.met.T.TwoTrees.still_are _ _ xs ys c.in_ok-large.ensures.goes now in
    let slots = c.requires.slots ∙ sym c.slots_of_first-slots.ensures.count ∙ c.slots_of_first-slots.ensures.length xs ys trees
    ∙ sym are.same in
    let from = c.window_slots-from.result.0 in
    let to = c.window_slots-from.result.1 in
    let small : IsFirstLarge sums from to None = subst (IsFirstLarge sums from to) c.in_default.is
    (c.in_ok-large.ensures.large xs ys sums now are) in
    let P : List Row → Type 0 = λ rows. AreRowsOf c.args.grid (sample_points (kept c.args.grid c.args.axis sums)) rows in (
      subst P (sym c.from_vec.ensures)
          (rows_are c.args.axis c.args.grid sums c.in_ok-rows.rows.items slots c.requires.step
          (c.columns_rise.ensures.drawn c.args.grid) c.in_ok-rows.ensures.shown.rising
          (c.in_ok-rows.ensures.rows xs ys sums then are
          (column_small c.args.axis c.args.grid sums from to c.window_slots-from.ensures.from c.window_slots-from.ensures.to small))),
      samples_small c.args.axis c.args.grid sums from to slots c.window_slots-from.ensures.from c.window_slots-from.ensures.to small,
    )

pub returns-in_err-rows-clause-rows : goal.returns-in_err-rows-clause-rows
returns-in_err-rows-clause-rows g c = λ xs ys trees.
    error_answer c.args.grid (kept c.args.grid c.args.axis (sums_of c.args.sum xs ys)) c.from_residual-in_err-rows.result
    c.in_err-rows.field-0.0 (g.T.TwoTrees.causes c.first_large_sum.new.trees c.rows_of_columns.new.trees)
    c.from_residual-in_err-rows.ensures.1 c.in_err-rows.ensures.cause

pub returns-in_err-rows-clause-goes : goal.returns-in_err-rows-clause-goes
returns-in_err-rows-clause-goes g c = g.met.T.TwoTrees.goes_on _ _ _ c.slots_of_first-slots.ensures.goes
    (g.met.T.TwoTrees.goes_on _ _ _ c.in_ok-large.ensures.goes c.in_err-rows.ensures.goes)

pub returns-in_err-rows-clause-cause : goal.returns-in_err-rows-clause-cause
returns-in_err-rows-clause-cause g c =
    passed_error c.from_residual-in_err-rows.result c.in_err-rows.field-0.0
    (IsCause (g.T.TwoTrees.causes c.args.trees.now c.rows_of_columns.new.trees)) c.from_residual-in_err-rows.ensures.1
    (later_cause (g.T.TwoTrees.causes c.first_large_sum.new.trees c.rows_of_columns.new.trees)
    (g.T.TwoTrees.causes c.args.trees.now c.rows_of_columns.new.trees) c.in_err-rows.field-0.0
    (λ n. g.met.T.TwoTrees.causes_behind _ _ _ n (g.met.T.TwoTrees.goes_on _ _ _ c.slots_of_first-slots.ensures.goes
    c.in_ok-large.ensures.goes) (c.in_ok-large.ensures.quiet ∙ c.slots_of_first-slots.ensures.quiet)) c.in_err-rows.ensures.cause)

pub returns-clause-drawable : goal.returns-clause-drawable
returns-clause-drawable g c = let P : List Row → Type 0 = λ rows. All (IsDrawable c.args.grid.w) rows in
    subst P (sym c.from_vec.ensures) c.in_ok-rows.ensures.shown.drawable

pub returns-clause-goes : goal.returns-clause-goes
returns-clause-goes g c = g.met.T.TwoTrees.goes_on _ _ _ c.slots_of_first-slots.ensures.goes
    (g.met.T.TwoTrees.goes_on _ _ _ c.in_ok-large.ensures.goes c.in_ok-rows.ensures.goes)

pub first_large_sum-requires-clause-within : goal.first_large_sum-requires-clause-within
first_large_sum-requires-clause-within g c = omega (
  arith,
  c.window_slots-from.ensures.within,
  c.requires.slots,
  g.met.T.TwoTrees.still_count false _ _ c.slots_of_first-slots.ensures.goes,
)

pub rows_of_columns-requires-clause-slots : goal.rows_of_columns-requires-clause-slots
rows_of_columns-requires-clause-slots g c = c.requires.slots
    ∙ sym (g.met.T.TwoTrees.still_count false _ _ c.slots_of_first-slots.ensures.goes)
    ∙ sym (g.met.T.TwoTrees.still_count false _ _ c.in_ok-large.ensures.goes)

pub returns-in_err-large-clause-goes : goal.returns-in_err-large-clause-goes
returns-in_err-large-clause-goes g c = g.met.T.TwoTrees.goes_on _ _ _ c.slots_of_first-slots.ensures.goes c.in_err-large.ensures.goes

pub returns-in-Some-clause-goes : goal.returns-in-Some-clause-goes
returns-in-Some-clause-goes g c = g.met.T.TwoTrees.goes_on _ _ _ c.slots_of_first-slots.ensures.goes c.in_ok-large.ensures.goes

pub returns-in_err-large-clause-cause : goal.returns-in_err-large-clause-cause
returns-in_err-large-clause-cause g c =
    passed_error c.from_residual.result (Node c.in_err-large.field-0.0)
    (IsCause (g.T.TwoTrees.causes c.args.trees.now c.first_large_sum.new.trees)) c.from_residual.ensures.1
    (g.met.T.TwoTrees.causes_behind _ _ _ c.in_err-large.field-0.0 c.slots_of_first-slots.ensures.goes c.slots_of_first-slots.ensures.quiet
    c.in_err-large.ensures.cause)

pub returns-clause-ordered : goal.returns-clause-ordered
returns-clause-ordered g c = let P : List Row → Type 0 = λ rows. All IsOrdered rows in
    subst P (sym c.from_vec.ensures) c.in_ok-rows.ensures.shown.ordered

pub returns-in_err-large-clause-reads : goal.returns-in_err-large-clause-reads
returns-in_err-large-clause-reads g c = search_reads c.args.axis c.args.grid c.window_slots-from.result.0 c.window_slots-from.result.1
    (levels (g.T.TwoTrees.count false c.args.trees.now) (g.T.TwoTrees.count true c.args.trees.now)) _ _ _ _ c.window_slots-from.ensures.from
    c.window_slots-from.ensures.to (ap₂ levels (g.met.T.TwoTrees.still_count false _ _ c.slots_of_first-slots.ensures.goes)
    (g.met.T.TwoTrees.still_count true _ _ c.slots_of_first-slots.ensures.goes)) c.slots_of_first-slots.ensures.reads
    c.in_err-large.ensures.reads

pub returns-in-Some-clause-reads : goal.returns-in-Some-clause-reads
returns-in-Some-clause-reads g c = search_reads c.args.axis c.args.grid c.window_slots-from.result.0 c.window_slots-from.result.1
    (levels (g.T.TwoTrees.count false c.args.trees.now) (g.T.TwoTrees.count true c.args.trees.now)) _ _ _ _ c.window_slots-from.ensures.from
    c.window_slots-from.ensures.to (ap₂ levels (g.met.T.TwoTrees.still_count false _ _ c.slots_of_first-slots.ensures.goes)
    (g.met.T.TwoTrees.still_count true _ _ c.slots_of_first-slots.ensures.goes)) c.slots_of_first-slots.ensures.reads
    c.in_ok-large.ensures.reads

pub returns-in_err-rows-clause-reads : goal.returns-in_err-rows-clause-reads
returns-in_err-rows-clause-reads g c =
    rows_reads c.args.axis c.args.grid c.window_slots-from.result.0 c.window_slots-from.result.1
    (levels (g.T.TwoTrees.count false c.args.trees.now) (g.T.TwoTrees.count true c.args.trees.now)) _ _ _ _ _ _
    c.window_slots-from.ensures.from c.window_slots-from.ensures.to
    (ap₂ levels (g.met.T.TwoTrees.still_count false _ _ c.slots_of_first-slots.ensures.goes)
    (g.met.T.TwoTrees.still_count true _ _ c.slots_of_first-slots.ensures.goes))
    (ap₂ levels (g.met.T.TwoTrees.still_count false _ _
    (g.met.T.TwoTrees.goes_on _ _ _ c.slots_of_first-slots.ensures.goes c.in_ok-large.ensures.goes))
    (g.met.T.TwoTrees.still_count true _ _ (g.met.T.TwoTrees.goes_on _ _ _ c.slots_of_first-slots.ensures.goes
    c.in_ok-large.ensures.goes))) c.slots_of_first-slots.ensures.reads c.in_ok-large.ensures.reads c.in_err-rows.ensures.reads

pub returns-clause-reads : goal.returns-clause-reads
returns-clause-reads g c =
    rows_reads c.args.axis c.args.grid c.window_slots-from.result.0 c.window_slots-from.result.1
    (levels (g.T.TwoTrees.count false c.args.trees.now) (g.T.TwoTrees.count true c.args.trees.now)) _ _ _ _ _ _
    c.window_slots-from.ensures.from c.window_slots-from.ensures.to
    (ap₂ levels (g.met.T.TwoTrees.still_count false _ _ c.slots_of_first-slots.ensures.goes)
    (g.met.T.TwoTrees.still_count true _ _ c.slots_of_first-slots.ensures.goes))
    (ap₂ levels (g.met.T.TwoTrees.still_count false _ _
    (g.met.T.TwoTrees.goes_on _ _ _ c.slots_of_first-slots.ensures.goes c.in_ok-large.ensures.goes))
    (g.met.T.TwoTrees.still_count true _ _ (g.met.T.TwoTrees.goes_on _ _ _ c.slots_of_first-slots.ensures.goes
    c.in_ok-large.ensures.goes))) c.slots_of_first-slots.ensures.reads c.in_ok-large.ensures.reads c.in_ok-rows.ensures.reads

pub returns-clause-rising : goal.returns-clause-rising
returns-clause-rising g c = let P : List Row → Type 0 = λ rows. AreRising rows in
    subst P (sym c.from_vec.ensures) c.in_ok-rows.ensures.shown.rising
