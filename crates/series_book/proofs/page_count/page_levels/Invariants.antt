use Rattle.std.proofs.Common.{◌-◌, ◌≡◌, ℕ, ◌^◌, ◌<◌, ◌≤◌}
use Rattle.series_book.specs.declared.limits.TheConstants.{PAGE_SLOTS}
use Rattle.series_book.proofs.page_count.page_levels.Given as goal

abbrev pub invariant-loop-covered : goal.invariant-loop-covered
invariant-loop-covered l = record {
  above_zero : 1 ≤ l.levels;
  few : l.levels ≤ 5;
  covered : l.covered ≡ PAGE_SLOTS ^ l.levels;
  least : (k : ℕ) → 1 ≤ k → k < l.levels → PAGE_SLOTS ^ k < l.slots;
}

abbrev pub decreases-loop-covered : goal.decreases-loop-covered
decreases-loop-covered l = 6 - l.levels
