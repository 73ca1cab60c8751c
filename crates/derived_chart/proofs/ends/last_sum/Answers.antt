use Rattle.std.proofs.Common.{false}
use Rattle.std.proofs.lemmas.Result.{IfOk-weaker}
use Rattle.om3_coeff.specs.Walks.{IsLastStored}
use Rattle.derived_chart.specs.declared.ends.Side.TheVariants.{Last}
use Rattle.derived_chart.specs.Searches.{IsEndOf}
use Rattle.derived_chart.proofs.EndLemmas.{last_any}
use Rattle.derived_chart.proofs.ends.last_sum.Goals as goal

pub returns-clause-last : goal.returns-clause-last
returns-clause-last g c = λ xs ys sums trees are.
    IfOk-weaker c.end_from.result (IsEndOf Last false sums c.args.p c.args.q) (IsLastStored sums c.args.p c.args.q)
    (last_any sums c.args.p c.args.q) (c.end_from.ensures.end xs ys sums trees are)
