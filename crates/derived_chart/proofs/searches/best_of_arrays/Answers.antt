use Rattle.std.proofs.Common.{ℤ, Option, arith, subst}
use Rattle.derived_chart.specs.Slots.{IsBetterOf}
use Rattle.derived_chart.proofs.SlotLemmas.{best_step}
use Rattle.derived_chart.proofs.searches.best_of_arrays.Goals as goal

pub loop-at-preserved : goal.loop-at-preserved
loop-at-preserved c = λ sums p are.
    let P : Option ℤ → Type 0 = λ next. IsBetterOf c.args.best c.loop-at.most next c.better_of-most.result in
    best_step c.args.best c.args.sum c.args.xs.now c.args.ys.now sums c.args.count p c.loop-at.at c.args.found.now c.loop-at.most
    c.better_of-most.result are (omega (arith, c.loop-at-test.true))
    (c.loop-at.invariant sums p are) (subst P c.sum_of_slots-next.ensures c.better_of-most.ensures)
