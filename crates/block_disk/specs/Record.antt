-- The record of a disk in memory.
use Rattle.std.specs.Prelude.{ℕ, Bool, true, nat_lt, ◌==◌, ◌&&◌, length}
use Rattle.block_disk.specs.Blocks.{block_size}
use Rattle.block_disk.specs.declared.mem_disk.Call.{Call}
use Rattle.block_disk.specs.declared.mem_disk.Call.TheVariants.{Wrote, Synced, Asked}

-- a write is noted of a block that is there, with all its bytes
abbrev pub call_fits : ℕ → Call → Bool
call_fits blocks (Wrote number block) = nat_lt number blocks && length block.items == block_size
call_fits blocks Synced = true
call_fits blocks Asked = true
