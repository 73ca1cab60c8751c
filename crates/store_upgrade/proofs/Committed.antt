-- What an upgrade leaves.
use Rattle.std.proofs.Common.{◌≡◌, ℕ, ◌≤◌, Bool, true, false, List, length, Some, None, Option, is_some, unwrap_or, refl, sym, ap, subst}
use Rattle.std.proofs.Common.{arith, inl, inr, ◌∙◌}
use Rattle.std.proofs.lemmas.Bool.{cases_Bool, cases_lt}
use Rattle.std.proofs.Math.Path.{fun_ext}
use Rattle.block_disk.specs.Counts.{HasRisen}
use Rattle.block_disk.specs.View.{Image, View, Now, Only}
use Rattle.block_disk.proofs.Passing.{passes_weaker}
use Rattle.gate_pages.specs.Batch.{Entry, page_in, put_all, AllBelow}
use Rattle.gate_pages.specs.Pages.{Quiet, Reads, Commits, BeforeOrAfter}
use Rattle.gate_pages.proofs.Moving.{time_then}
use Rattle.store_upgrade.specs.declared.errors.UpgradeError.{UpgradeError}
use Rattle.store_upgrade.specs.declared.errors.UpgradeError.TheVariants.{Damaged, DiskFault, NoMemory}
use Rattle.store_upgrade.specs.OldStores.{HasOldMagic, has_old_magic, KeepsOldRules, IsOldStore}
use Rattle.store_upgrade.specs.Upgraded.{upgraded, current}
use Rattle.store_upgrade.specs.Upgrading.{Looks, Upgrades, Prevents, IsPlace, Stops, StopsFirst, HasOldCatalog, HasNewPages}
use Rattle.store_upgrade.specs.Upgrading.{BeforeOrUpgraded}
use Rattle.store_upgrade.proofs.Looking.{looks_one, looks_more, looks_then}
use Rattle.store_upgrade.proofs.Magics.{old_by, old_is, current_upgraded, upgraded_behind}

-- the first count has risen where a later one, which is the same, has
pub risen_on : (old mid new : ℕ) → mid ≡ old → HasRisen mid new → HasRisen old new
risen_on old mid new same (inl risen) = inl (omega (arith, same, risen))
risen_on old mid new same (inr last) = inr (omega (arith, same, last.0), last.1 ∙ same)

apart : true ≡ false → ⊥
apart same = absurd (cc)

-- no page from 17 on is in the batch
none_of : (o : Option (List ℕ)) → is_some o ≡ false → o ≡ None
none_of None is = refl
none_of (Some page) is = absurd (cc)

none_at : (batch : List Entry) (p : ℕ) → 17 ≤ p → AllBelow 17 batch → page_in batch p ≡ None
none_at batch p high below = none_of (page_in batch p) (elim (cases_Bool (is_some (page_in batch p))) [
  | inl is ↦ absurd (omega (arith, below p is, high))
  | inr is ↦ is
])

-- page 0 as read has the old magic, or lacks it
pub read_old : (told : Type 0) (page : List ℕ) (image : Image) (old : Bool) → (told → page ≡ image 0) → old ≡ has_old_magic page
    → old ≡ true → told → HasOldMagic (image 0)
read_old told page image old is test so t = subst HasOldMagic (is t) (old_by page (sym test ∙ so))

pub read_new : (told : Type 0) (page : List ℕ) (image : Image) (old : Bool) → (told → page ≡ image 0) → old ≡ has_old_magic page
    → old ≡ false → told → HasOldMagic (image 0) → ⊥
read_new told page image old is test so t has =
    let here : has_old_magic page ≡ true = old_is page (subst HasOldMagic (sym (is t)) has) in
    apart (sym here ∙ sym test ∙ so)

-- pages that were only read
pub upgrades_looked : (told told' : Type 0) (old new : View) → Only old.image (Now old) → Looks 17 told told' old new
    → Upgrades told told' old new
upgrades_looked told told' old new only looks = record {
  time = passes_weaker old new (Now old) (λ pages. told
      → BeforeOrUpgraded old.image pages) (Quiet old) (Quiet old) (λ pages left t. inl (only pages left)) (λ count quiet. quiet) looks.time;
  told = looks.told;
  was_told = looks.was_told;
  size = looks.size;
  beside = looks.beside;
  faults = looks.faults;
  reads = looks.reads;
  syncs = record { low = omega (arith, looks.syncs); high = omega (arith, looks.syncs) };
  writes = record { low = omega (arith, looks.writes); high = omega (arith, looks.writes) };
}

pub looks_17 : (told told' : Type 0) (old new : View) → Reads told told' old new → Looks 17 told told' old new
looks_17 told told' old new reads = looks_more 1 17 told told' old new (omega arith) (looks_one told told' old new reads)

-- page 0 was read, then the catalog, and then the batch was committed
module _ (told told' told'' : Type 0) (old mid near : View) (batch : List Entry) (magic : told
    → HasOldMagic (old.image 0)) (reads : Reads told told' old mid) (looks : Looks 16 told' told'' mid near) where
  pub looked : Looks 17 told told'' old near
  looked = looks_then 1 16 17 told told' told'' old mid near (omega arith) (looks_one told told' old mid reads) looks

  catalog_old : (page : ℕ) → told → HasOldCatalog page mid.image → HasOldCatalog page old.image
  catalog_old page t kept p low high = let K : Image → Type 0 = λ i. KeepsOldRules (i p) in subst K (reads.image t) (kept p low high)

  pub old_store : (told' → HasOldCatalog 17 mid.image) → told → IsOldStore old.image
  old_store kept t = record { magic = magic t; catalog = catalog_old 17 t (kept (reads.told t)) }

  -- the batch puts the pages that these become
  pub put_is : AllBelow 17 batch → (told' → HasNewPages 17 batch mid.image) → told → put_all batch near.image ≡ upgraded old.image
  put_is below pages t = fun_ext (λ p. elim (cases_lt p 17) [
    | inl low ↦ ap (λ (o : Option (List ℕ)). unwrap_or o (near.image p)) (pages (reads.told t) p low)
        ∙ ap (λ (i : Image). upgraded i p) (reads.image t)
    | inr high ↦
        ap (λ (o : Option (List ℕ)). unwrap_or o (near.image p)) (none_at batch p high below)
        ∙ ap (λ (i : Image). i p) (looked.image t)
        ∙ sym (upgraded_behind old.image p high)
  ])

  pub upgrades_committed : (told''' : Type 0) (new : View) → Only old.image (Now old) → length batch ≡ 17 → AllBelow 17 batch
      → (told' → HasOldCatalog 17 mid.image) → (told' → HasNewPages 17 batch mid.image)
      → Commits batch told'' told''' near new → Upgrades told told''' old new
  upgrades_committed told''' new only few below kept pages commits = record {
    time = time_then old near new (λ image. told → BeforeOrUpgraded old.image image)
        (passes_weaker old near (Now old) (λ image. told
        → BeforeOrUpgraded old.image image) (Quiet old) (Quiet old) (λ image left t. inl (only image left))
        (λ count quiet. quiet) looked.time)
        (passes_weaker near new (BeforeOrAfter batch near.image) (λ image. told
        → BeforeOrUpgraded old.image image) (Quiet near) (Quiet near)
        (λ image which t. elim which [
          | inl before ↦ inl (before ∙ looked.image t)
          | inr after ↦ inr (old_store kept t, after ∙ put_is below pages t)
        ])
        (λ count quiet. quiet) commits.time);
    told = λ t. commits.told (looked.told t);
    was_told = λ t. looked.was_told (commits.was_told t);
    size = commits.size ∙ looked.size;
    beside = commits.beside ∙ looked.beside;
    faults = omega (arith, commits.faults, looked.faults);
    reads = record { low = omega (arith, commits.reads, looked.reads.low); high = omega (arith, commits.reads, looked.reads.high) };
    syncs = record { low = omega (arith, commits.syncs.low, looked.syncs); high = omega (arith, commits.syncs.high, looked.syncs) };
    writes = record {
      low = omega (arith, commits.writes.low, looked.writes);
      high = omega (arith, commits.writes.high, looked.writes, few);
    };
  }

  pub committed_current : (image : Image) → AllBelow 17 batch → (told' → HasNewPages 17 batch mid.image)
      → (told'' → image ≡ put_all batch near.image) → told → image ≡ current old.image
  committed_current image below pages done t = done (looked.told t) ∙ put_is below pages t ∙ sym (current_upgraded old.image (magic t))

  -- why the catalog wasn't read
  pub prevents : mid.faults ≡ old.faults → (cause : UpgradeError) → StopsFirst cause told' mid near → Prevents cause told old near
  prevents same (Damaged page) is = λ t.
      let K : Image → Type 0 = λ i. KeepsOldRules (i page) in
      let so = is.1 (reads.told t) in
      record {
        magic = magic t;
        place = is.0;
        before = catalog_old page t so.0;
        breaks = λ keeps. so.1 (subst K (sym (reads.image t)) keeps);
      }
  prevents same DiskFault is = risen_on old.faults mid.faults near.faults same is
  prevents same NoMemory is = tt

  pub stops : (cause : UpgradeError) → Stops cause told told'' old near
  stops (Damaged page) = looked
  stops DiskFault = λ fit. looked
  stops NoMemory = looked

pub places : (cause : UpgradeError) (told : Type 0) (old new : View) → StopsFirst cause told old new → IsPlace cause
places (Damaged page) told old new is = is.0
places DiskFault told old new is = tt
places NoMemory told old new is = tt
