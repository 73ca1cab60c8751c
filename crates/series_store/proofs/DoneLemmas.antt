-- A staged edit is committed.
use Rattle.std.proofs.Common.{◌≡◌, ℕ, ◌<◌, List, Result, Ok, refl, sym, ap, subst}
use Rattle.block_disk.specs.View.{Image, View, Now, Only, Passes}
use Rattle.gate_pages.specs.Pages.{Quiet, Commits}
use Rattle.page_space.specs.Transactions.{held, left_by}
use Rattle.page_space.specs.declared.superblock.Superblock.{Superblock}
use Rattle.page_space.specs.declared.txn.Txn.{Txn}
use Rattle.series_book.specs.declared.one_series.Series.{Series}
use Rattle.series_book.specs.declared.outcomes.Outcome.{Outcome}
use Rattle.series_book.specs.declared.refusals.Refusal.{Refusal}
use Rattle.series_book.specs.Edits.{Edited}
use Rattle.series_catalog.specs.declared.stored_series.StoredSeries.{StoredSeries}
use Rattle.stored_book.specs.Damage.{IsDamagedOnce}
use Rattle.stored_book.specs.Standing.{StandsForBook}
use Rattle.series_store.specs.Changing.{IsDoneBy, IsEitherBy, IsAnswered}
use Rattle.series_store.specs.Results.{IsEditCause}
use Rattle.series_store.specs.Staging.{IsCatalogOf, IsWholeOf, IsStageCause}
use Rattle.series_store.specs.declared.errors.StoreError.{StoreError}
use Rattle.series_store.specs.declared.errors.StoreError.TheVariants.{Refused, NotAStore, DiskFault, Damaged, NoMemory}
use Rattle.series_store.proofs.SaveLemmas.{saved_time}
use Rattle.series_store.proofs.StageLemmas.{catalog_as}

-- what a transaction that changes nothing leaves is what is stored
pub begun : (fit told : Type 0) (image : Image) (s : Superblock) (txn : Txn) (items : List StoredSeries) → fit → txn.superblock ≡ s
    → (told → left_by txn image ≡ image) → IsCatalogOf (fit × told) image s items
    → IsWholeOf s.total told (left_by txn image) txn.superblock items
begun fit told image s txn items sound numbers left are = record {
  total_is = ap (λ (s : Superblock). s.total) numbers;
  catalog = catalog_as (fit × told) told image (left_by txn image) s txn.superblock items items (λ t. (sound, t)) left numbers refl are;
}

-- why an edit wasn't staged as the pages are
pub stored_cause : (told : Type 0) (s : Superblock) (txn : Txn) (e : StoreError) (old new : View) → txn.superblock ≡ s
    → (told → left_by txn old.image ≡ old.image) → IsStageCause e told (left_by txn old.image) txn.superblock old.faults new.faults
    → IsEditCause e told s old new
stored_cause told s txn (Refused refusal) old new numbers left why = tt
stored_cause told s txn NotAStore old new numbers left why = why
stored_cause told s txn DiskFault old new numbers left why = why
stored_cause told s txn (Damaged page) old new numbers left why =
    let D : Image → Type 0 = λ i. IsDamagedOnce i s page in
    let S : Superblock → Type 0 = λ s. (page < s.total) × (told → IsDamagedOnce (left_by txn old.image) s page) in
    let at : S s = subst S numbers why in
    (at.0, λ t. subst D (left t) (at.1 t))
stored_cause told s txn NoMemory old new numbers left why = tt

-- the moments while what is staged is committed
pub done_moments : (answer : Result Edited Refusal) (total : ℕ) (book : List Series) (outcome : Outcome) (txn : Txn) (told told' : Type 0)
    (old mid new : View) → StandsForBook old.image total book → IsDoneBy answer total outcome (left_by txn mid.image)
    → Only old.image (Now old) → mid.image ≡ old.image → Passes old mid (Now old) (Quiet old) → Commits (held txn) told told' mid new
    → Passes old new (IsEitherBy answer total book) (Quiet old)
done_moments answer total book outcome txn told told' old mid new stands done only same time commits =
    let B : Image → Type 0 = λ i. StandsForBook (left_by txn i) total done.edited.book in
    let A : Result Edited Refusal → Type 0 = λ answer. Passes old new (IsEitherBy answer total book) (Quiet old) in
    subst A (sym done.accepted) (saved_time done.edited total book (held txn) told told' old mid new stands
    (subst B same done.stands) only same time commits)

-- the staged edit is done
pub done_answered : (answer : Result Edited Refusal) (total : ℕ) (book : List Series) (outcome : Outcome) (txn : Txn) (told told' : Type 0)
    (old mid new : View) → StandsForBook old.image total book → IsDoneBy answer total outcome (left_by txn mid.image)
    → Only old.image (Now old) → mid.image ≡ old.image → Passes old mid (Now old) (Quiet old) → Commits (held txn) told told' mid new
    → new.image ≡ left_by txn mid.image → IsAnswered answer total book (Ok outcome) old new
done_answered answer total book outcome txn told told' old mid new stands done only same time commits left =
    let D : Image → Type 0 = λ i. IsDoneBy answer total outcome i in
    record {
      done = subst D (sym left) done;
      refused = tt;
      moments = done_moments answer total book outcome txn told told' old mid new stands done only same time commits;
    }
