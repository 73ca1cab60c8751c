-- What a command costs that opens the store of its disk.
use Rattle.std.specs.Prelude.{ℕ, ◌+◌, ◌≤◌}
use Rattle.block_disk.specs.View.{Honest, View}
use Rattle.disk_store.specs.Openings.{IsCurrent}
use Rattle.gate_pages.specs.GatePages.{HasClosedGate}

-- No more than an opening, and behind it so many reads, syncs and writes.
pub record Spends (count reads syncs writes : ℕ) (old new : View) : Type 0 where
  pub reads_few : new.reads ≤ old.reads + 200 + reads
  pub syncs_few : new.syncs ≤ old.syncs + 7 + syncs
  pub writes_few : new.writes ≤ old.writes + 102 + writes
  pub current : Honest old → IsCurrent count old → new.syncs ≤ old.syncs + 3 + syncs
  pub unwritten : HasClosedGate old → IsCurrent count old → new.writes ≤ old.writes + writes
