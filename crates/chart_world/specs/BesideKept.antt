-- A take or a send that leaves the disk as it is.
use Rattle.std.proofs.Common.{◌≡◌, ℕ, ◌+◌, ◌≤◌, refl, sym, subst, arith}
use Rattle.block_disk.specs.View.{Image, View, Beside, sent_now, DiskKept, Passes}
use Rattle.chart_world.specs.Beside.{beside}

pub disk_kept : {D : Type 0} (view : D → View) (old new : D) (before after : Beside) → new ≡ old
    → DiskKept (beside (view old) before) (beside (view new) after)
disk_kept {D} view old new before after same =
    let P : D → Type 0 = λ d. DiskKept (beside (view old) before) (beside (view d) after) in
    subst P (sym same) (record {
      now = λ image left. left;
      size = refl;
      image = refl;
      faults = refl;
      reads = refl;
      syncs = refl;
      writes = refl;
      fit = λ fit. fit;
    })

pub disk_passes : {D : Type 0} (view : D → View) (old new : D) (before after : Beside) (images : Image → Type 0) (sent : ℕ → Type 0)
    → new ≡ old → Passes (beside (view old) before) (beside (view new) after) images sent
disk_passes {D} view old new before after images sent same =
    let P : D → Type 0 = λ d. Passes (beside (view old) before) (beside (view d) after) images sent in
    subst P (sym same) (record {
      later = omega arith;
      past = λ at image within left. left;
      kept = λ at image within left. left;
      here = λ at image low high left. absurd (omega (arith, low, high));
      sent_past = λ at within. refl;
      sent_here = λ at low high. absurd (omega (arith, low, high));
    })

pub disk_sent : {D : Type 0} (view : D → View) (old new : D) (most : ℕ) → new ≡ old → sent_now (view new) ≤ sent_now (view old) + most
disk_sent {D} view old new most same =
    let P : D → Type 0 = λ d. sent_now (view d) ≤ sent_now (view old) + most in
    subst P (sym same) (omega arith)
