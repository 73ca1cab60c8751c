-- What a commit does after some reads, over the views of the pages.
use Rattle.std.proofs.Common.{ℕ, ◌≤◌, refl, arith}
use Rattle.block_disk.specs.View.{View, Now}
use Rattle.block_disk.proofs.Passing.{passes_none}
use Rattle.gate_pages.specs.Pages.{Quiet, Reads}
use Rattle.path_repair.specs.Standing.{ReadsMost}
use Rattle.series_store.specs.Results.{Moves, IsUnchanged}

-- one read, or none
pub one_read : (told told' : Type 0) (old new : View) → Reads told told' old new → ReadsMost 1 told told' old new
one_read told told' old new reads = record {
  time = reads.time;
  told = reads.told;
  was_told = reads.was_told;
  image = reads.image;
  size = reads.size;
  beside = reads.beside;
  fit = reads.fit;
  faults = reads.faults;
  reads = reads.reads;
  syncs = reads.syncs;
  writes = reads.writes;
}

pub no_read : (most : ℕ) (told : Type 0) (at : View) → ReadsMost most told told at at
no_read most told at = record {
  time = passes_none at (Now at) (Quiet at);
  told = λ t. t;
  was_told = λ t. t;
  image = λ t. refl;
  size = refl;
  beside = refl;
  fit = λ f. f;
  faults = omega arith;
  reads = record { low = omega arith; high = omega arith };
  syncs = refl;
  writes = refl;
}

-- reads move little
pub reads_move : (most : ℕ) (told told' : Type 0) (old new : View) → most ≤ 96 → ReadsMost most told told' old new
    → Moves told told' old new
reads_move most told told' old new few reads = record {
  told = reads.told;
  was_told = reads.was_told;
  size = reads.size;
  beside = reads.beside;
  faults = reads.faults;
  reads = record { low = reads.reads.low; high = omega (arith, reads.reads.high, few) };
  syncs = record { low = omega (arith, reads.syncs); high = omega (arith, reads.syncs) };
  writes = record { low = omega (arith, reads.writes); high = omega (arith, reads.writes) };
}

-- nothing was committed
pub reads_leave : (most : ℕ) (told told' : Type 0) (old new : View) → ReadsMost most told told' old new → IsUnchanged told old new
reads_leave most told told' old new reads = record { image = reads.image; fit = reads.fit; syncs = reads.syncs; writes = reads.writes }
