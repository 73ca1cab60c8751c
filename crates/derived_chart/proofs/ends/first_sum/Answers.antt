use Rattle.std.proofs.Common.{false}
use Rattle.std.proofs.lemmas.Result.{IfOk-weaker}
use Rattle.om3_coeff.specs.Walks.{IsFirstStored}
use Rattle.derived_chart.specs.declared.ends.Side.TheVariants.{First}
use Rattle.derived_chart.specs.Searches.{IsEndOf}
use Rattle.derived_chart.proofs.EndLemmas.{first_any}
use Rattle.derived_chart.proofs.ends.first_sum.Goals as goal

pub returns-clause-first : goal.returns-clause-first
returns-clause-first g c = λ xs ys sums trees are.
    IfOk-weaker c.end_from.result (IsEndOf First false sums c.args.p c.args.q) (IsFirstStored sums c.args.p c.args.q)
    (first_any sums c.args.p c.args.q) (c.end_from.ensures.end xs ys sums trees are)
