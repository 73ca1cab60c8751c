use Rattle.std.proofs.Common.{true}
use Rattle.std.proofs.lemmas.Result.{IfOk-weaker}
use Rattle.derived_chart.specs.Searches.{IsFirstLarge}
use Rattle.derived_chart.specs.declared.ends.Side.TheVariants.{First}
use Rattle.derived_chart.specs.Searches.{IsEndOf}
use Rattle.derived_chart.proofs.EndLemmas.{first_large}
use Rattle.derived_chart.proofs.ends.first_large_sum.Goals as goal

pub returns-clause-large : goal.returns-clause-large
returns-clause-large g c = λ xs ys sums trees are.
    IfOk-weaker c.end_from.result (IsEndOf First true sums c.args.p c.args.q) (IsFirstLarge sums c.args.p c.args.q)
    (first_large sums c.args.p c.args.q) (c.end_from.ensures.end xs ys sums trees are)
