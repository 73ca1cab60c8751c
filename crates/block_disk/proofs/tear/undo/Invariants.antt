use Rattle.std.proofs.Common.{◌≡◌, ◌≤◌, length, drop}
use Rattle.block_disk.specs.MemDisk.{blocks_of, before_all, HasNoSync}
use Rattle.block_disk.proofs.tear.undo.Given as goal

abbrev pub invariant-loop-at : goal.invariant-loop-at
invariant-loop-at l = record {
  some : l.at ≤ length l.calls;
  since : HasNoSync (drop l.at l.calls);
  undone : blocks_of l.bytes.items ≡ before_all (drop l.at l.calls) (blocks_of l.fn.bytes.items);
  len : length l.bytes.items ≡ length l.fn.bytes.items;
}

abbrev pub decreases-loop-at : goal.decreases-loop-at
decreases-loop-at l = l.at
