use Rattle.std.proofs.Common.{◌≡◌, length}
use Rattle.om3_coeff.specs.Spans.{AreSlots}
use Rattle.chart_tests.proofs.keys.day.Given as goal

abbrev pub invariant-loop-second : goal.invariant-loop-second
invariant-loop-second l = record {
  values : AreSlots l.made.items;
  count : length l.made.items ≡ l.second;
}
