-- What the making of a store costs.
use Rattle.std.specs.Prelude.{ℕ}
use Rattle.block_disk.specs.View.{View, Rises}

-- no more than so many reads, syncs and writes
pub record Costs (reads syncs writes : ℕ) (old new : View) : Type 0 where
  pub reads_few : Rises reads old.reads new.reads
  pub syncs_few : Rises syncs old.syncs new.syncs
  pub writes_few : Rises writes old.writes new.writes
