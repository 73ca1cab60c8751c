-- What becomes of pages.
use Rattle.std.proofs.Common.{◌≡◌, ℕ, zero, suc, ◌<◌, cond, Some, sym, ap, subst, arith, inl, inr, ◌∙◌}
use Rattle.std.proofs.lemmas.Bool.{cases_lt}
use Rattle.std.proofs.lemmas.Bool.Decides.{eqb_tells}
use Rattle.block_disk.specs.View.{Image, View, Now, Only}
use Rattle.block_disk.proofs.Passing.{passes_weaker}
use Rattle.gate_pages.specs.Batch.{page_in}
use Rattle.gate_pages.specs.Pages.{Quiet, Reads}
use Rattle.gate_pages.proofs.Moving.{time_then}
use Rattle.page_space.specs.Firsts.{first_page, first_below}
use Rattle.page_space.specs.Layout.{HasMagic}
use Rattle.store_upgrade.specs.OldStores.{HasOldMagic}
use Rattle.store_upgrade.specs.Upgraded.{current}
use Rattle.store_upgrade.proofs.Magics.{either_magic}
use Rattle.empty_store.specs.Kept.{Stays}

first_at : (count n p : ℕ) → p < n → page_in (first_below count n) p ≡ Some (first_page count p)
first_at count zero p low = absurd (omega (arith, low))
first_at count (suc n) p low = elim (eqb_tells p n) [
  | inl is ↦
      ap (λ b. cond b (Some (first_page count n)) (page_in (first_below count n) p)) is.0
      ∙ ap (λ m. Some (first_page count m)) (sym is.1)
  | inr other ↦
      ap (λ b. cond b (Some (first_page count n)) (page_in (first_below count n) p)) other.0
      ∙ elim (cases_lt p n) [
        | inl below ↦ first_at count n p below
        | inr above ↦ absurd (other.1 (omega (arith, low, above)))
      ]
]

-- pages that were read alone stay
pub stays_read : (told told' : Type 0) (old new : View) → Only old.image (Now old) → Reads told told' old new → Stays old new
stays_read told told' old new only reads =
    passes_weaker old new (Now old) (λ pages. pages ≡ old.image) (Quiet old) (Quiet old) (λ pages left. only pages left)
    (λ count quiet. quiet) reads.time

-- pages that were read and lack the magic of version 2 lack that of version 1 too, where they lack it once they are current
pub lacks_both : (told told' : Type 0) (old mid : View) → Reads told told' old mid → (told → HasMagic (old.image 0) → ⊥) → told
    → HasMagic (current old.image 0) → HasOldMagic (mid.image 0)
lacks_both told told' old mid reads lacks is magic = elim (either_magic old.image magic) [
  | inl new ↦ absurd (lacks is new)
  | inr one ↦ let P : Image → Type 0 = λ image. HasOldMagic (image 0) in subst P (sym (reads.image is)) one
]

pub stays_then : (told told' : Type 0) (old mid new : View) → told → Only old.image (Now old) → Reads told told' old mid → Stays mid new
    → Stays old new
stays_then told told' old mid new holds only reads stays =
    time_then old mid new (λ pages. pages ≡ old.image) (stays_read told told' old mid only reads)
    (passes_weaker mid new (λ pages. pages ≡ mid.image) (λ pages. pages ≡ old.image) (Quiet mid) (Quiet mid) (λ pages same. same
    ∙ reads.image holds) (λ count quiet. quiet) stays)
