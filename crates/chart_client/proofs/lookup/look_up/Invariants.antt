use Rattle.std.proofs.Common.{◌-◌}
use Rattle.chart_client.specs.Looking.{Narrowed}
use Rattle.chart_client.proofs.lookup.look_up.Given as goal

abbrev pub invariant-loop-from : goal.invariant-loop-from
invariant-loop-from l = Narrowed l.list l.key l.from l.to

abbrev pub decreases-loop-from : goal.decreases-loop-from
decreases-loop-from l = l.to - l.from
