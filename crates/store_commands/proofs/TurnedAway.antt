-- A disk with too few blocks for a store turns a command away.
use Rattle.std.proofs.Common.{◌≡◌, ℕ, ◌<◌, ◌≤◌, List, Option, refl, sym, subst, arith}
use Rattle.block_disk.specs.View.{View}
use Rattle.disk_store.specs.Openings.{Prevents}
use Rattle.disk_store.specs.declared.causes.OpeningCause.{OpeningCause}
use Rattle.disk_store.specs.declared.causes.OpeningCause.TheVariants as opening
use Rattle.run_ends.specs.declared.status.Status.{Status}
use Rattle.store_commands.specs.Status.{opening_status}
use Rattle.store_commands.specs.Away.{IsTurnedAway}

-- no store was opened on it
pub away_by : (old new : View) (left left' before now : Option (List ℕ)) (cause : OpeningCause) → Prevents cause old new → old.size < 128
    → left' ≡ left → now ≡ before → IsTurnedAway left left' before now (opening_status cause).code
away_by old new left left' before now (opening.TooSmall size) prevents few same_left same = record {
  codes = (2, omega arith, refl);
  left_is = same_left;
  sent_is = same;
}
away_by old new left left' before now (opening.Damaged block) prevents few same_left same = absurd (omega (arith, few, prevents.0))
away_by old new left left' before now opening.DiskFault prevents few same_left same = record {
  codes = (1, omega arith, refl);
  left_is = same_left;
  sent_is = same;
}
away_by old new left left' before now opening.NoMemory prevents few same_left same = record {
  codes = (0, omega arith, refl);
  left_is = same_left;
  sent_is = same;
}

-- the same by the status
pub away_so : (old new : View) (left left' before now : Option (List ℕ)) (cause : OpeningCause) (end : Status) → end ≡ opening_status cause
    → Prevents cause old new → left' ≡ left → now ≡ before → old.size < 128 → IsTurnedAway left left' before now end.code
away_so old new left left' before now cause end is prevents same_left same few =
    let P : Status → Type 0 = λ s. IsTurnedAway left left' before now s.code in
    subst P (sym is) (away_by old new left left' before now cause prevents few same_left same)

-- a store was opened, so the disk isn't too small
pub away_never : (size : ℕ) (T : Type 0) → 128 ≤ size → size < 128 → T
away_never size T large few = absurd (omega (arith, large, few))
