-- The moments that reads and a commit pass.
use Rattle.std.proofs.Common.{◌≡◌, List, sym, ap, subst, inl, inr, ◌∙◌}
use Rattle.block_disk.specs.View.{Image, View, Now, Only, Passes}
use Rattle.block_disk.proofs.Passing.{passes_weaker}
use Rattle.gate_pages.specs.Batch.{Entry, put_all}
use Rattle.gate_pages.specs.Pages.{Quiet, BeforeOrAfter, Commits}
use Rattle.gate_pages.proofs.Moving.{time_then}

-- while blocks are read a crash leaves the pages
pub reads_leave : (old new : View) (images : Image → Type 0) → Only old.image (Now old) → images old.image
    → Passes old new (Now old) (Quiet old) → Passes old new images (Quiet old)
reads_leave old new images only here time =
    passes_weaker old new (Now old) images (Quiet old) (Quiet old) (λ image left. subst images (sym (only image left)) here)
    (λ count quiet. quiet) time

-- and then a batch is committed
pub commit_leaves : (batch : List Entry) (told told' : Type 0) (old mid new : View) (images : Image → Type 0) → Only old.image (Now old)
    → images old.image → images (put_all batch old.image) → mid.image ≡ old.image
    → Passes old mid (Now old) (Quiet old) → Commits batch told told' mid new → Passes old new images (Quiet old)
commit_leaves batch told told' old mid new images only here there same time commits =
    let at : (image : Image) → BeforeOrAfter batch mid.image image → images image =
    λ image either. elim either [
      | inl before ↦ subst images (sym (before ∙ same)) here
      | inr after ↦ subst images (sym (after ∙ ap (λ (i : Image). put_all batch i) same)) there
    ] in
    time_then old mid new images (reads_leave old mid images only here time)
    (passes_weaker mid new (BeforeOrAfter batch mid.image) images (Quiet mid) (Quiet mid) at (λ count quiet. quiet) commits.time)

-- what holds of the pages holds after a call that tells the same pages
pub told_on : (P : Image → Type 0) (told told' : Type 0) (old new : View) → (told' → told) → (told → new.image ≡ old.image)
    → (told → P old.image) → told' → P new.image
told_on P told told' old new back same holds now = subst P (sym (same (back now))) (holds (back now))
