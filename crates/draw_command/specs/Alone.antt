-- What takes and sends leave of the disk.
use Rattle.block_disk.specs.View.{View, Now, DiskKept, Passes}
use Rattle.block_disk.proofs.Passing.{Between}

-- The disk's blocks and counts stay. At each moment a crash leaves what it might have left at the start.
pub record StaysAlone (old new : View) : Type 0 where
  pub kept : DiskKept old new
  pub time : Passes old new (Now old) (Between old new)
