-- What sets cost.
use Rattle.std.specs.Prelude.{ℕ, ◌+◌, ◌*◌, ◌≤◌}
use Rattle.block_disk.specs.View.{View}

-- how many blocks were read, how often the disk was synced, and how many blocks were written
pub record Spent : Type 0 where
  pub reads : ℕ
  pub syncs : ℕ
  pub writes : ℕ

abbrev pub spent_by : View → Spent
spent_by at = record { reads = at.reads; syncs = at.syncs; writes = at.writes }

-- So many sets were done since, or tried: each reads 96 blocks at most, and is one commit at most, which syncs four times and
-- writes 131 blocks.
pub record Costs (sets : ℕ) (old : Spent) (new : View) : Type 0 where
  pub reads : new.reads ≤ old.reads + 96 * sets
  pub syncs : new.syncs ≤ old.syncs + 4 * sets
  pub writes : new.writes ≤ old.writes + 131 * sets
