use Rattle.plain_chart.proofs.Widening.{so_far_sample}
use Rattle.plain_chart.proofs.range.widened.Goals as goal

pub returns-in-Some-Some : goal.returns-in-Some-Some
returns-in-Some-Some c =
    so_far_sample c.args.range c.args.sample c.in-Some-Some.range c.in-Some-Some.sample c.joined.result
    c.in-Some-Some.is-0 c.in-Some-Some.is-1 c.joined.ensures.low c.joined.ensures.high
