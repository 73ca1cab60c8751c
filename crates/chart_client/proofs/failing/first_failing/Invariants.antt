use Rattle.chart_client.specs.HeldNodes.{seen_of}
use Rattle.chart_client.specs.Searching.{IsFirstOf, IsWantedBelow}
use Rattle.chart_client.proofs.failing.first_failing.Given as goal

abbrev pub invariant-loop-column : goal.invariant-loop-column
invariant-loop-column l = IsFirstOf (seen_of l.nodes) l.axis.slots
    (IsWantedBelow (seen_of l.nodes) l.axis l.grid l.range.lo l.range.hi l.column) l.least
