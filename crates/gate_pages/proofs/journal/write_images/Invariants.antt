use Rattle.std.proofs.Common.{◌≡◌, ℕ, ◌+◌, ◌<◌, [], slice_index_or}
use Rattle.block_disk.specs.View.{Honest, Moves}
use Rattle.gate_pages.specs.Entries.{entries}
use Rattle.gate_pages.specs.Steps.{IsJournal}
use Rattle.gate_pages.proofs.journal.write_images.Given as goal

abbrev pub invariant-loop-i : goal.invariant-loop-i
invariant-loop-i g l = record {
  moves : Moves IsJournal 0 0 l.i (g.D.Disk.view l.fn.disk) (g.D.Disk.view l.disk);
  written : Honest (g.D.Disk.view l.fn.disk) → (k : ℕ) → k < l.i
      → (g.D.Disk.view l.disk).image (2 + k) ≡ (slice_index_or (entries l.batch) k (0, [])).1;
  same : (g.D.Disk.view l.disk).faults ≡ (g.D.Disk.view l.fn.disk).faults;
}
