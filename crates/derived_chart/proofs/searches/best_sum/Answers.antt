use Rattle.std.proofs.Common.{None, false, true, ◌-◌, ◌*◌, ap₂, arith}
use Rattle.std.proofs.lemmas.Result.{IfOk-weaker, IfErr-weaker}
use Rattle.derived_chart.specs.Reads.{levels}
use Rattle.derived_chart.specs.Searches.{IsBestWith, IsBestOf}
use Rattle.derived_chart.proofs.ReadLemmas.{both, more}
use Rattle.derived_chart.proofs.BestLemmas.{best_alone}
use Rattle.derived_chart.proofs.searches.best_sum.Goals as goal

pub returns-clause-best : goal.returns-clause-best
returns-clause-best g c = λ xs ys sums trees are.
    let now = g.met.T.TwoTrees.still_are _ _ xs ys c.in_ok-range.ensures.goes trees in
    IfOk-weaker c.best_from.result (IsBestWith c.args.best sums c.args.p c.args.q None) (IsBestOf c.args.best sums c.args.p c.args.q)
    (best_alone c.args.best sums c.args.p c.args.q)
    (c.best_from.ensures.best xs ys sums now are (record {
      between = c.in_ok-range.ensures.between xs ys sums trees are;
      one = c.in_ok-range.ensures.one xs ys sums trees are;
    }))

pub returns-clause-goes : goal.returns-clause-goes
returns-clause-goes g c = g.met.T.TwoTrees.goes_on _ _ _ c.in_ok-range.ensures.goes c.best_from.ensures.goes

pub returns-clause-cause : goal.returns-clause-cause
returns-clause-cause g c = IfErr-weaker c.best_from.result (g.T.TwoTrees.causes c.bounds.new.trees c.best_from.new.trees)
    (g.T.TwoTrees.causes c.args.trees.now c.best_from.new.trees)
    (λ e. g.met.T.TwoTrees.causes_behind _ _ _ e c.in_ok-range.ensures.goes c.in_ok-range.ensures.quiet) c.best_from.ensures.cause

pub returns-in_err-range-clause-reads : goal.returns-in_err-range-clause-reads
returns-in_err-range-clause-reads g c =
    more 2 (5 * (c.args.q - c.args.p) - 2) (levels (g.T.TwoTrees.count false c.args.trees.now) (g.T.TwoTrees.count true c.args.trees.now)) _
    _ (omega (arith, c.requires.order, c.if-p-q.false)) c.in_err-range.ensures.reads

pub returns-clause-reads : goal.returns-clause-reads
returns-clause-reads g c =
    both 2 (5 * (c.args.q - c.args.p) - 4) (5 * (c.args.q - c.args.p) - 2)
    (levels (g.T.TwoTrees.count false c.args.trees.now) (g.T.TwoTrees.count true c.args.trees.now)) _ _ _ _
    (omega (arith, c.requires.order, c.if-p-q.false))
    (ap₂ levels (g.met.T.TwoTrees.still_count false _ _ c.in_ok-range.ensures.goes)
    (g.met.T.TwoTrees.still_count true _ _ c.in_ok-range.ensures.goes)) c.in_ok-range.ensures.reads c.best_from.ensures.reads
