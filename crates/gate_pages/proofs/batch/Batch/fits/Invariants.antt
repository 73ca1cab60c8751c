use Rattle.std.proofs.Common.{ℕ, ◌<◌, [], slice_index_or}
use Rattle.gate_pages.specs.Entries.{entries}
use Rattle.gate_pages.proofs.batch.Batch.fits.Given as goal

abbrev pub invariant-loop-i : goal.invariant-loop-i
invariant-loop-i l = record { below : (k : ℕ) → k < l.i → (slice_index_or (entries l.self) k (0, [])).0 < l.count }
