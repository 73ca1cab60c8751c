-- What pages on a disk show.
use Rattle.std.specs.Prelude.{ℕ, IsTrue}
use Rattle.block_disk.specs.declared.disk.Disk.{Ghosts}
use Rattle.gate_pages.specs.declared.gate_pages.GatePages.{GatePages}

module _ {D : Type 0} {g : Ghosts D} where
  -- the disk that they lie on
  abbrev pub disk : GatePages D g → D
  disk it = it.disk

  -- how many there are
  abbrev pub count : GatePages D g → ℕ
  count it = it.count

  -- nothing is pending on the disk, and the gate is closed
  abbrev pub AreSound : GatePages D g → Type 0
  AreSound it = IsTrue it.sound
