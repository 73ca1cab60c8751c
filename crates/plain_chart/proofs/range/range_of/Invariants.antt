use Rattle.std.proofs.Common.{take}
use Rattle.plain_chart.specs.Samples.{kept, values_of, SpansSoFar}
use Rattle.plain_chart.proofs.range.range_of.Given as goal

-- the range of what the view keeps of the slots so far
abbrev pub invariant-loop-slot : goal.invariant-loop-slot
invariant-loop-slot l = SpansSoFar l.range (values_of (kept l.grid l.axis (take l.slot l.slots)))
