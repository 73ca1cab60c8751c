-- Pages that are read, one after the other.
use Rattle.std.proofs.Common.{ℕ, ◌+◌, ◌≤◌, refl, arith, ◌∙◌}
use Rattle.block_disk.specs.View.{View, Now}
use Rattle.block_disk.proofs.Passing.{passes_none, passes_weaker, now_back}
use Rattle.gate_pages.specs.Pages.{Quiet, Reads}
use Rattle.gate_pages.proofs.Moving.{time_then}
use Rattle.store_upgrade.specs.Upgrading.{Looks}

pub looks_none : (told : Type 0) (at : View) → Looks 0 told told at at
looks_none told at = record {
  time = passes_none at (Now at) (Quiet at);
  told = λ t. t;
  was_told = λ t. t;
  image = λ t. refl;
  size = refl;
  beside = refl;
  fit = λ f. f;
  faults = omega arith;
  reads = record { low = omega arith; high = omega arith };
  syncs = refl;
  writes = refl;
}

pub looks_one : (told told' : Type 0) (old new : View) → Reads told told' old new → Looks 1 told told' old new
looks_one told told' old new reads = record {
  time = reads.time;
  told = reads.told;
  was_told = reads.was_told;
  image = reads.image;
  size = reads.size;
  beside = reads.beside;
  fit = reads.fit;
  faults = reads.faults;
  reads = reads.reads;
  syncs = reads.syncs;
  writes = reads.writes;
}

pub looks_then : (a b most : ℕ) (told told' told'' : Type 0) (old mid new : View) → a + b ≤ most → Looks a told told' old mid
    → Looks b told' told'' mid new → Looks most told told'' old new
looks_then a b most told told' told'' old mid new few first second = record {
  time = time_then old mid new (Now old) first.time
      (passes_weaker mid new (Now mid) (Now old) (Quiet mid) (Quiet mid) (now_back old mid (Quiet old) first.time)
      (λ count quiet. quiet) second.time);
  told = λ t. second.told (first.told t);
  was_told = λ t. first.was_told (second.was_told t);
  image = λ t. second.image (first.told t) ∙ first.image t;
  size = second.size ∙ first.size;
  beside = second.beside ∙ first.beside;
  fit = λ f. second.fit (first.fit f);
  faults = omega (arith, first.faults, second.faults);
  reads = record { low = omega (arith, first.reads.low, second.reads.low); high = omega (arith, first.reads.high, second.reads.high, few) };
  syncs = second.syncs ∙ first.syncs;
  writes = second.writes ∙ first.writes;
}

pub looks_more : (a most : ℕ) (told told' : Type 0) (old new : View) → a ≤ most → Looks a told told' old new → Looks most told told' old new
looks_more a most told told' old new few looks = record {
  time = looks.time;
  told = looks.told;
  was_told = looks.was_told;
  image = looks.image;
  size = looks.size;
  beside = looks.beside;
  fit = looks.fit;
  faults = looks.faults;
  reads = record { low = looks.reads.low; high = omega (arith, looks.reads.high, few) };
  syncs = looks.syncs;
  writes = looks.writes;
}
