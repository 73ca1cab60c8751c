use Rattle.std.proofs.Common.{◌≡◌, length}
use Rattle.om3_coeff.specs.Spans.{AreSlots}
use Rattle.sum_tests.proofs.sums.slots.Given as goal

abbrev pub invariant-loop-slot : goal.invariant-loop-slot
invariant-loop-slot l = record {
  values : AreSlots l.made.items;
  count : length l.made.items ≡ l.slot;
}
