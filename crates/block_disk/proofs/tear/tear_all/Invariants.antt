use Rattle.std.proofs.Common.{◌≡◌, length, take}
use Rattle.block_disk.specs.MemDisk.{blocks_of}
use Rattle.block_disk.specs.Tear.{TornBy}
use Rattle.block_disk.proofs.tear.tear_all.Given as goal

abbrev pub invariant-loop-call : goal.invariant-loop-call
invariant-loop-call l = record {
  torn : TornBy l.tear (take l.call-index l.calls) (blocks_of l.old) (blocks_of l.new) (blocks_of l.left.items);
  len : length l.left.items ≡ length l.new;
}
