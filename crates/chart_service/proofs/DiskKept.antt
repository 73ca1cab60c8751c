-- What calls in a row leave of the disk.
use Rattle.std.proofs.Common.{◌≡◌, ℕ, refl, subst, ◌∙◌, arith}
use Rattle.block_disk.specs.Counts.{HasRisen}
use Rattle.block_disk.specs.View.{View, DiskKept}
use Rattle.chart_service.specs.Serving.{Serves}
use Rattle.chart_service.specs.Stepping.{Steps, GroupSteps}

pub kept_none : (at : View) → DiskKept at at
kept_none at = record {
  now = λ image left. left;
  size = refl;
  image = refl;
  faults = refl;
  reads = refl;
  syncs = refl;
  writes = refl;
  fit = λ fit. fit;
}

pub serves_none : (told : Type 0) (at : View) → Serves told told at at
serves_none told at = record {
  told = λ is. is;
  was_told = λ is. is;
  size = refl;
  faults = omega arith;
  syncs = omega arith;
  writes = omega arith;
}

pub serves_then : (told between told' : Type 0) (old mid new : View) → Serves told between old mid → Serves between told' mid new
    → Serves told told' old new
serves_then told between told' old mid new first second = record {
  told = λ is. second.told (first.told is);
  was_told = λ is. first.was_told (second.was_told is);
  size = second.size ∙ first.size;
  faults = omega (arith, first.faults, second.faults);
  syncs = omega (arith, first.syncs, second.syncs);
  writes = omega (arith, first.writes, second.writes);
}

pub serves_kept : (told told' : Type 0) (old new : View) → DiskKept old new → (told → told') → (told' → told) → Serves told told' old new
serves_kept told told' old new kept more less = record {
  told = more;
  was_told = less;
  size = kept.size;
  faults = omega (arith, kept.faults);
  syncs = omega (arith, kept.syncs);
  writes = omega (arith, kept.writes);
}

pub serves_step : (told told' : Type 0) (old new : View) → Steps told told' old new → Serves told told' old new
serves_step told told' old new steps = record {
  told = steps.told;
  was_told = steps.was_told;
  size = steps.size;
  faults = steps.faults;
  syncs = steps.syncs.low;
  writes = steps.writes.low;
}

-- edits that are done together, in some commits
pub group_none : (told : Type 0) (at : View) → GroupSteps told told at at
group_none told at = record {
  told = λ is. is;
  was_told = λ is. is;
  size = refl;
  beside = refl;
  faults = omega arith;
  reads = omega arith;
  syncs = omega arith;
  writes = omega arith;
}

pub group_then : (told between told' : Type 0) (old mid new : View) → GroupSteps told between old mid → GroupSteps between told' mid new
    → GroupSteps told told' old new
group_then told between told' old mid new first second = record {
  told = λ is. second.told (first.told is);
  was_told = λ is. first.was_told (second.was_told is);
  size = second.size ∙ first.size;
  beside = second.beside ∙ first.beside;
  faults = omega (arith, first.faults, second.faults);
  reads = omega (arith, first.reads, second.reads);
  syncs = omega (arith, first.syncs, second.syncs);
  writes = omega (arith, first.writes, second.writes);
}

pub serves_group : (told told' : Type 0) (old new : View) → GroupSteps told told' old new → Serves told told' old new
serves_group told told' old new steps = record {
  told = steps.told;
  was_told = steps.was_told;
  size = steps.size;
  faults = steps.faults;
  syncs = steps.syncs;
  writes = steps.writes;
}

-- a count that has risen since a moment up to which it stayed has risen
pub risen_since : (old mid new : ℕ) → mid ≡ old → HasRisen mid new → HasRisen old new
risen_since old mid new stays risen = let P : ℕ → Type 0 = λ n. HasRisen n new in subst P stays risen
