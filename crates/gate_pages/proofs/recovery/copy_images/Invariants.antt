use Rattle.std.proofs.Common.{◌≡◌, take}
use Rattle.block_disk.specs.Blocks.{IsBlock}
use Rattle.block_disk.specs.View.{Honest, Moves}
use Rattle.gate_pages.specs.Batch.{put_all}
use Rattle.gate_pages.specs.Journal.{home, images}
use Rattle.gate_pages.specs.Steps.{IsHome}
use Rattle.gate_pages.proofs.recovery.copy_images.Given as goal

abbrev pub invariant-loop-i : goal.invariant-loop-i
invariant-loop-i g l = record {
  moves : Moves (IsHome l.numbers) l.i 0 l.i (g.D.Disk.view l.fn.disk) (g.D.Disk.view l.disk);
  lies : Honest (g.D.Disk.view l.fn.disk) → home (g.D.Disk.view l.disk).image ≡ put_all
      (take l.i (images l.numbers 2 (g.D.Disk.view l.fn.disk).image)) (home (g.D.Disk.view l.fn.disk).image);
  whole : IsBlock l.buffer;
  same : (g.D.Disk.view l.disk).faults ≡ (g.D.Disk.view l.fn.disk).faults;
}
