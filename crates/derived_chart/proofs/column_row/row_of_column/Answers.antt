use Rattle.std.proofs.Common.{◌+◌, ◌-◌, ◌*◌, ap₂, arith, false, true, subst, ◌∙◌}
use Rattle.om3_coeff.specs.Walks.{IsFirstStored}
use Rattle.derived_chart.specs.Reads.{levels}
use Rattle.derived_chart.proofs.ReadLemmas.{both, more}
use Rattle.derived_chart.proofs.FoundLemmas.{ordered_in}
use Rattle.derived_chart.proofs.SumLemmas.{passed_on}
use Rattle.derived_chart.proofs.column_row.row_of_column.Goals as goal

pub returns-clause-row : goal.returns-clause-row
returns-clause-row g c = λ xs ys sums trees are small.
    let one = g.met.T.TwoTrees.still_are _ _ xs ys c.in_ok-first.ensures.goes trees in
    let two = g.met.T.TwoTrees.still_are _ _ xs ys c.in_ok-last.ensures.goes one in
    let three = g.met.T.TwoTrees.still_are _ _ xs ys c.in_ok-least.ensures.goes two in
    ordered_in sums c.args.p c.args.q c.row_of-row.result c.ordered.result c.ordered.ensures.same
    (c.row_of-row.ensures.row sums c.args.p c.args.q (record {
      small = small;
      first_is = subst (IsFirstStored sums c.args.p c.args.q) c.in-Some.is (c.in_ok-first.ensures.first xs ys sums trees are);
      last_is = c.in_ok-last.ensures.last xs ys sums one are;
      least_is = c.in_ok-least.ensures.best xs ys sums two are;
      greatest_is = c.in_ok-greatest.ensures.best xs ys sums three are;
    }))

pub returns-clause-goes : goal.returns-clause-goes
returns-clause-goes g c =
    g.met.T.TwoTrees.goes_on _ _ _ c.in_ok-first.ensures.goes
    (g.met.T.TwoTrees.goes_on _ _ _ c.in_ok-last.ensures.goes
    (g.met.T.TwoTrees.goes_on _ _ _ c.in_ok-least.ensures.goes c.in_ok-greatest.ensures.goes))

pub last_sum-requires-clause-within : goal.last_sum-requires-clause-within
last_sum-requires-clause-within g c = omega (arith, c.requires.within, g.met.T.TwoTrees.still_count false _ _ c.in_ok-first.ensures.goes)

pub best_sum-requires-clause-within : goal.best_sum-requires-clause-within
best_sum-requires-clause-within g c = omega (
  arith,
  c.requires.within,
  g.met.T.TwoTrees.still_count false _ _ c.in_ok-first.ensures.goes,
  g.met.T.TwoTrees.still_count false _ _ c.in_ok-last.ensures.goes,
)

pub best_sum-requires-2-clause-within : goal.best_sum-requires-2-clause-within
best_sum-requires-2-clause-within g c = omega (
  arith,
  c.requires.within,
  g.met.T.TwoTrees.still_count false _ _ c.in_ok-first.ensures.goes,
  g.met.T.TwoTrees.still_count false _ _ c.in_ok-last.ensures.goes,
  g.met.T.TwoTrees.still_count false _ _ c.in_ok-least.ensures.goes,
)

pub returns-in_err-last-clause-goes : goal.returns-in_err-last-clause-goes
returns-in_err-last-clause-goes g c = g.met.T.TwoTrees.goes_on _ _ _ c.in_ok-first.ensures.goes c.in_err-last.ensures.goes

pub returns-in_err-least-clause-goes : goal.returns-in_err-least-clause-goes
returns-in_err-least-clause-goes g c = g.met.T.TwoTrees.goes_on _ _ _ c.in_ok-first.ensures.goes
    (g.met.T.TwoTrees.goes_on _ _ _ c.in_ok-last.ensures.goes c.in_err-least.ensures.goes)

pub returns-in_err-greatest-clause-goes : goal.returns-in_err-greatest-clause-goes
returns-in_err-greatest-clause-goes g c = g.met.T.TwoTrees.goes_on _ _ _ c.in_ok-first.ensures.goes
    (g.met.T.TwoTrees.goes_on _ _ _ c.in_ok-last.ensures.goes
    (g.met.T.TwoTrees.goes_on _ _ _ c.in_ok-least.ensures.goes c.in_err-greatest.ensures.goes))

pub returns-in_err-last-clause-cause : goal.returns-in_err-last-clause-cause
returns-in_err-last-clause-cause g c =
    passed_on c.from_residual-in_err-last.result c.in_err-last.field-0.0
    (g.T.TwoTrees.causes c.args.trees.now c.last_sum.new.trees) c.from_residual-in_err-last.ensures.1
    (g.met.T.TwoTrees.causes_behind _ _ _ c.in_err-last.field-0.0 c.in_ok-first.ensures.goes c.in_ok-first.ensures.quiet
    c.in_err-last.ensures.cause)

pub returns-in_err-greatest-clause-cause : goal.returns-in_err-greatest-clause-cause
returns-in_err-greatest-clause-cause g c =
    passed_on c.from_residual-in_err-greatest.result c.in_err-greatest.field-0.0
    (g.T.TwoTrees.causes c.args.trees.now c.best_sum-2.new.trees) c.from_residual-in_err-greatest.ensures.1
    (g.met.T.TwoTrees.causes_behind _ _ _ c.in_err-greatest.field-0.0
    (g.met.T.TwoTrees.goes_on _ _ _ c.in_ok-first.ensures.goes
    (g.met.T.TwoTrees.goes_on _ _ _ c.in_ok-last.ensures.goes c.in_ok-least.ensures.goes)) (c.in_ok-least.ensures.quiet
    ∙ c.in_ok-last.ensures.quiet ∙ c.in_ok-first.ensures.quiet) c.in_err-greatest.ensures.cause)

pub returns-in_err-least-clause-cause : goal.returns-in_err-least-clause-cause
returns-in_err-least-clause-cause g c =
    passed_on c.from_residual-in_err-least.result c.in_err-least.field-0.0
    (g.T.TwoTrees.causes c.args.trees.now c.best_sum.new.trees) c.from_residual-in_err-least.ensures.1
    (g.met.T.TwoTrees.causes_behind _ _ _ c.in_err-least.field-0.0
    (g.met.T.TwoTrees.goes_on _ _ _ c.in_ok-first.ensures.goes c.in_ok-last.ensures.goes) (c.in_ok-last.ensures.quiet
    ∙ c.in_ok-first.ensures.quiet) c.in_err-least.ensures.cause)

pub returns-in_default-clause-row : goal.returns-in_default-clause-row
returns-in_default-clause-row g c = λ xs ys sums trees are small. subst (IsFirstStored sums c.args.p c.args.q) c.in_default.is
    (c.in_ok-first.ensures.first xs ys sums trees are)

pub returns-clause-column : goal.returns-clause-column
returns-clause-column g c = c.ordered.ensures.column ∙ c.row_of-row.ensures.column

pub returns-clause-drawable : goal.returns-clause-drawable
returns-clause-drawable g c = c.ordered.ensures.drawable (c.args.column + 1) c.row_of-row.ensures.drawable

pub returns-clause-ordered : goal.returns-clause-ordered
returns-clause-ordered g c = c.ordered.ensures.ordered c.row_of-row.ensures.drawable.order

pub returns-in_err-first-clause-reads : goal.returns-in_err-first-clause-reads
returns-in_err-first-clause-reads g c =
    more (4 * (c.args.q - c.args.p) - 2) (18 * (c.args.q - c.args.p))
    (levels (g.T.TwoTrees.count false c.args.trees.now) (g.T.TwoTrees.count true c.args.trees.now)) _ _
    (omega arith) c.in_err-first.ensures.reads

pub returns-in_default-clause-reads : goal.returns-in_default-clause-reads
returns-in_default-clause-reads g c =
    more (4 * (c.args.q - c.args.p) - 2) (18 * (c.args.q - c.args.p))
    (levels (g.T.TwoTrees.count false c.args.trees.now) (g.T.TwoTrees.count true c.args.trees.now)) _ _
    (omega arith) c.in_ok-first.ensures.reads

pub returns-in_err-last-clause-reads : goal.returns-in_err-last-clause-reads
returns-in_err-last-clause-reads g c =
    both (4 * (c.args.q - c.args.p) - 2) (4 * (c.args.q - c.args.p) - 2) (18 * (c.args.q - c.args.p))
    (levels (g.T.TwoTrees.count false c.args.trees.now) (g.T.TwoTrees.count true c.args.trees.now)) _ _ _ _ (omega arith)
    (ap₂ levels (g.met.T.TwoTrees.still_count false _ _ c.in_ok-first.ensures.goes)
    (g.met.T.TwoTrees.still_count true _ _ c.in_ok-first.ensures.goes)) c.in_ok-first.ensures.reads c.in_err-last.ensures.reads

pub returns-in_err-least-clause-reads : goal.returns-in_err-least-clause-reads
returns-in_err-least-clause-reads g c =
    both ((4 * (c.args.q - c.args.p) - 2) + (4 * (c.args.q - c.args.p) - 2)) (5 * (c.args.q - c.args.p) - 2) (18 * (c.args.q - c.args.p))
    (levels (g.T.TwoTrees.count false c.args.trees.now) (g.T.TwoTrees.count true c.args.trees.now)) _ _ _ _ (omega arith)
    (ap₂ levels (g.met.T.TwoTrees.still_count false _ _
    (g.met.T.TwoTrees.goes_on _ _ _ c.in_ok-first.ensures.goes c.in_ok-last.ensures.goes))
    (g.met.T.TwoTrees.still_count true _ _ (g.met.T.TwoTrees.goes_on _ _ _ c.in_ok-first.ensures.goes c.in_ok-last.ensures.goes)))
    (both (4 * (c.args.q - c.args.p) - 2) (4 * (c.args.q - c.args.p) - 2)
    ((4 * (c.args.q - c.args.p) - 2) + (4 * (c.args.q - c.args.p) - 2))
    (levels (g.T.TwoTrees.count false c.args.trees.now) (g.T.TwoTrees.count true c.args.trees.now)) _ _ _ _ (omega arith)
    (ap₂ levels (g.met.T.TwoTrees.still_count false _ _ c.in_ok-first.ensures.goes)
    (g.met.T.TwoTrees.still_count true _ _ c.in_ok-first.ensures.goes)) c.in_ok-first.ensures.reads c.in_ok-last.ensures.reads)
    c.in_err-least.ensures.reads

pub returns-in_err-greatest-clause-reads : goal.returns-in_err-greatest-clause-reads
returns-in_err-greatest-clause-reads g c =
    both (((4 * (c.args.q - c.args.p) - 2) + (4 * (c.args.q - c.args.p) - 2)) + (5 * (c.args.q - c.args.p) - 2))
    (5 * (c.args.q - c.args.p) - 2) (18 * (c.args.q - c.args.p))
    (levels (g.T.TwoTrees.count false c.args.trees.now) (g.T.TwoTrees.count true c.args.trees.now)) _ _ _ _ (omega arith)
    (ap₂ levels (g.met.T.TwoTrees.still_count false _ _
    (g.met.T.TwoTrees.goes_on _ _ _ c.in_ok-first.ensures.goes
    (g.met.T.TwoTrees.goes_on _ _ _ c.in_ok-last.ensures.goes c.in_ok-least.ensures.goes)))
    (g.met.T.TwoTrees.still_count true _ _ (g.met.T.TwoTrees.goes_on _ _ _ c.in_ok-first.ensures.goes
    (g.met.T.TwoTrees.goes_on _ _ _ c.in_ok-last.ensures.goes c.in_ok-least.ensures.goes))))
    (both ((4 * (c.args.q - c.args.p) - 2) + (4 * (c.args.q - c.args.p) - 2)) (5 * (c.args.q - c.args.p) - 2)
    (((4 * (c.args.q - c.args.p) - 2) + (4 * (c.args.q - c.args.p) - 2)) + (5 * (c.args.q - c.args.p) - 2))
    (levels (g.T.TwoTrees.count false c.args.trees.now) (g.T.TwoTrees.count true c.args.trees.now)) _ _ _ _ (omega arith)
    (ap₂ levels (g.met.T.TwoTrees.still_count false _ _
    (g.met.T.TwoTrees.goes_on _ _ _ c.in_ok-first.ensures.goes c.in_ok-last.ensures.goes))
    (g.met.T.TwoTrees.still_count true _ _ (g.met.T.TwoTrees.goes_on _ _ _ c.in_ok-first.ensures.goes c.in_ok-last.ensures.goes)))
    (both (4 * (c.args.q - c.args.p) - 2) (4 * (c.args.q - c.args.p) - 2)
    ((4 * (c.args.q - c.args.p) - 2) + (4 * (c.args.q - c.args.p) - 2))
    (levels (g.T.TwoTrees.count false c.args.trees.now) (g.T.TwoTrees.count true c.args.trees.now)) _ _ _ _ (omega arith)
    (ap₂ levels (g.met.T.TwoTrees.still_count false _ _ c.in_ok-first.ensures.goes)
    (g.met.T.TwoTrees.still_count true _ _ c.in_ok-first.ensures.goes)) c.in_ok-first.ensures.reads c.in_ok-last.ensures.reads)
    c.in_ok-least.ensures.reads) c.in_err-greatest.ensures.reads

pub returns-clause-reads : goal.returns-clause-reads
returns-clause-reads g c =
    both (((4 * (c.args.q - c.args.p) - 2) + (4 * (c.args.q - c.args.p) - 2)) + (5 * (c.args.q - c.args.p) - 2))
    (5 * (c.args.q - c.args.p) - 2) (18 * (c.args.q - c.args.p))
    (levels (g.T.TwoTrees.count false c.args.trees.now) (g.T.TwoTrees.count true c.args.trees.now)) _ _ _ _ (omega arith)
    (ap₂ levels (g.met.T.TwoTrees.still_count false _ _
    (g.met.T.TwoTrees.goes_on _ _ _ c.in_ok-first.ensures.goes
    (g.met.T.TwoTrees.goes_on _ _ _ c.in_ok-last.ensures.goes c.in_ok-least.ensures.goes)))
    (g.met.T.TwoTrees.still_count true _ _ (g.met.T.TwoTrees.goes_on _ _ _ c.in_ok-first.ensures.goes
    (g.met.T.TwoTrees.goes_on _ _ _ c.in_ok-last.ensures.goes c.in_ok-least.ensures.goes))))
    (both ((4 * (c.args.q - c.args.p) - 2) + (4 * (c.args.q - c.args.p) - 2)) (5 * (c.args.q - c.args.p) - 2)
    (((4 * (c.args.q - c.args.p) - 2) + (4 * (c.args.q - c.args.p) - 2)) + (5 * (c.args.q - c.args.p) - 2))
    (levels (g.T.TwoTrees.count false c.args.trees.now) (g.T.TwoTrees.count true c.args.trees.now)) _ _ _ _ (omega arith)
    (ap₂ levels (g.met.T.TwoTrees.still_count false _ _
    (g.met.T.TwoTrees.goes_on _ _ _ c.in_ok-first.ensures.goes c.in_ok-last.ensures.goes))
    (g.met.T.TwoTrees.still_count true _ _ (g.met.T.TwoTrees.goes_on _ _ _ c.in_ok-first.ensures.goes c.in_ok-last.ensures.goes)))
    (both (4 * (c.args.q - c.args.p) - 2) (4 * (c.args.q - c.args.p) - 2)
    ((4 * (c.args.q - c.args.p) - 2) + (4 * (c.args.q - c.args.p) - 2))
    (levels (g.T.TwoTrees.count false c.args.trees.now) (g.T.TwoTrees.count true c.args.trees.now)) _ _ _ _ (omega arith)
    (ap₂ levels (g.met.T.TwoTrees.still_count false _ _ c.in_ok-first.ensures.goes)
    (g.met.T.TwoTrees.still_count true _ _ c.in_ok-first.ensures.goes)) c.in_ok-first.ensures.reads c.in_ok-last.ensures.reads)
    c.in_ok-least.ensures.reads) c.in_ok-greatest.ensures.reads
