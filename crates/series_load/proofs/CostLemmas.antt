-- What sets cost, one after the other.
use Rattle.std.proofs.Common.{ℕ, ◌+◌, ◌*◌, ◌<◌, ◌≤◌, arith}
use Rattle.block_disk.specs.View.{Rises, View}
use Rattle.series_load.specs.Costs.{Costs, Spent, spent_by}

-- where nothing was done, as many sets as one likes
pub costs_none : (sets : ℕ) (at : View) → Costs sets (spent_by at) at
costs_none sets at = record { reads = omega arith; syncs = omega arith; writes = omega arith }

-- sets, and then others
pub costs_then : (first second : ℕ) (old : Spent) (mid new : View) → Costs first old mid → Costs second (spent_by mid) new
    → Costs (first + second) old new
costs_then first second old mid new one other = record {
  reads = omega (arith, one.reads, other.reads);
  syncs = omega (arith, one.syncs, other.syncs);
  writes = omega (arith, one.writes, other.writes);
}

-- no more than this many
pub costs_most : (sets most : ℕ) (old : Spent) (new : View) → sets ≤ most → Costs sets old new → Costs most old new
costs_most sets most old new few costs = record {
  reads = omega (arith, few, costs.reads);
  syncs = omega (arith, few, costs.syncs);
  writes = omega (arith, few, costs.writes);
}

-- one commit of some sets
pub costs_commit : (sets : ℕ) (old new : View) → 0 < sets → new.reads ≤ old.reads + 96 * sets → Rises 4 old.syncs new.syncs
    → Rises 131 old.writes new.writes → Costs sets (spent_by old) new
costs_commit sets old new some reads syncs writes =
    record { reads = reads; syncs = omega (arith, some, syncs.high); writes = omega (arith, some, writes.high) }
