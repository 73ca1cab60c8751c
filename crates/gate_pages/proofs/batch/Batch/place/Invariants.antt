use Rattle.std.proofs.Common.{ℕ, ◌≢◌, ◌-◌, ◌<◌, ◌≤◌, [], slice_index_or}
use Rattle.gate_pages.specs.Entries.{entries}
use Rattle.gate_pages.proofs.batch.Batch.place.Given as goal

abbrev pub invariant-loop-at : goal.invariant-loop-at
invariant-loop-at l = record {
  within : l.at ≤ l.self.len;
  before : (k : ℕ) → k < l.at → (slice_index_or (entries l.self) k (0, [])).0 ≢ l.p;
}

abbrev pub decreases-loop-at : goal.decreases-loop-at
decreases-loop-at l = l.self.len - l.at
