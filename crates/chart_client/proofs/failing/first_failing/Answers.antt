use Rattle.chart_client.specs.HeldNodes.{seen_of}
use Rattle.chart_client.proofs.Fronts.{column_more}
use Rattle.chart_client.proofs.failing.first_failing.Goals as goal

pub loop-column-preserved : goal.loop-column-preserved
loop-column-preserved c =
    column_more (seen_of c.args.nodes.now) c.args.axis c.args.grid c.args.range.lo c.args.range.hi c.loop-column.column
    c.args.nodes.now.slots c.loop-column.least c.first_in_column.result c.earlier-least.result
    c.requires.slots c.loop-column.invariant c.first_in_column.ensures c.earlier-least.ensures
