-- What an opening costs, and what comes behind it.
use Rattle.std.proofs.Common.{ℕ, ◌+◌, ◌≤◌, arith}
use Rattle.block_disk.specs.View.{DiskKept, View}
use Rattle.disk_store.specs.Openings.{Opens}
use Rattle.store_commands.specs.Spending.{Spends}

-- a store was opened, and then so much was done
pub spends_behind : (count reads syncs writes : ℕ) (old mid new : View) → Opens count old mid → new.reads ≤ mid.reads + reads
    → new.syncs ≤ mid.syncs + syncs → new.writes ≤ mid.writes + writes → Spends count reads syncs writes old new
spends_behind count reads syncs writes old mid new opens r s w = record {
  reads_few = omega (arith, opens.reads.high, r);
  syncs_few = omega (arith, opens.few.syncs.high, s);
  writes_few = omega (arith, opens.few.writes.high, w);
  current = λ honest current. omega (arith, opens.few.current honest current, s);
  unwritten = λ shut current. omega (arith, opens.few.unwritten shut current, w);
}

-- an opening alone
pub spends_opening : (count reads syncs writes : ℕ) (old new : View) → Opens count old new → Spends count reads syncs writes old new
spends_opening count reads syncs writes old new opens =
    spends_behind count reads syncs writes old new new opens (omega arith) (omega arith) (omega arith)

-- a text is sent besides
pub spends_sent : (count reads syncs writes : ℕ) (old mid new : View) → DiskKept mid new → Spends count reads syncs writes old mid
    → Spends count reads syncs writes old new
spends_sent count reads syncs writes old mid new kept s = record {
  reads_few = omega (arith, kept.reads, s.reads_few);
  syncs_few = omega (arith, kept.syncs, s.syncs_few);
  writes_few = omega (arith, kept.writes, s.writes_few);
  current = λ honest current. omega (arith, kept.syncs, s.current honest current);
  unwritten = λ shut current. omega (arith, kept.writes, s.unwritten shut current);
}
