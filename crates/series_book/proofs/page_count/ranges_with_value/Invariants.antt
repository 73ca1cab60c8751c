use Rattle.std.proofs.Common.{◌≡◌, ◌+◌, ◌≤◌, length}
use Rattle.series_book.specs.Pages.{ranges_with_value}
use Rattle.series_book.proofs.page_count.ranges_with_value.Given as goal

abbrev pub invariant-loop-rest : goal.invariant-loop-rest
invariant-loop-rest l = record {
  few : l.ranges + length l.rest ≤ length l.fn.slots;
  ranges : l.ranges + ranges_with_value l.size l.rest ≡ ranges_with_value l.size l.fn.slots;
}

abbrev pub decreases-loop-rest : goal.decreases-loop-rest
decreases-loop-rest l = length l.rest
