use Rattle.std.proofs.Common.{◌≡◌, ◌*◌, length, take}
use Rattle.block_disk.specs.Blocks.{block_size}
use Rattle.block_disk.specs.MemDisk.{blocks_of}
use Rattle.gate_pages.specs.Batch.{put_all}
use Rattle.gate_pages.specs.Entries.{entries}
use Rattle.gate_pages.proofs.list_calls.put_pages.Given as goal

abbrev pub invariant-loop-i : goal.invariant-loop-i
invariant-loop-i l = record {
  whole : length l.bytes ≡ block_size * l.count;
  so_far : blocks_of l.bytes ≡ put_all (take l.i (entries l.batch)) (blocks_of l.fn.bytes);
}
