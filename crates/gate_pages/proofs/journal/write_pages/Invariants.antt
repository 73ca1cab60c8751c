use Rattle.std.proofs.Common.{◌≡◌, take}
use Rattle.block_disk.specs.View.{Honest, Moves}
use Rattle.gate_pages.specs.Batch.{put_all, numbers}
use Rattle.gate_pages.specs.Entries.{entries}
use Rattle.gate_pages.specs.Journal.{home}
use Rattle.gate_pages.specs.Steps.{IsHome}
use Rattle.gate_pages.proofs.journal.write_pages.Given as goal

abbrev pub invariant-loop-i : goal.invariant-loop-i
invariant-loop-i g l = record {
  moves : Moves (IsHome (numbers (entries l.batch))) 0 0 l.i (g.D.Disk.view l.fn.disk) (g.D.Disk.view l.disk);
  lies : Honest (g.D.Disk.view l.fn.disk) → home (g.D.Disk.view l.disk).image ≡ put_all (take l.i (entries l.batch))
      (home (g.D.Disk.view l.fn.disk).image);
  same : (g.D.Disk.view l.disk).faults ≡ (g.D.Disk.view l.fn.disk).faults;
}
