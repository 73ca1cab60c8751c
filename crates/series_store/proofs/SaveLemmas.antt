-- A record is written and committed.
use Rattle.std.proofs.Common.{◌≡◌, ℕ, List, Result, Ok, Err, refl, sym, subst, inl, inr}
use Rattle.std.specs.Result.{IsErrAnd}
use Rattle.block_disk.specs.View.{View, Now, Only, Passes}
use Rattle.gate_pages.specs.Batch.{Entry, put_all}
use Rattle.gate_pages.specs.Pages.{Quiet, Commits}
use Rattle.series_book.specs.declared.one_series.Series.{Series}
use Rattle.series_book.specs.declared.outcomes.Outcome.{Outcome}
use Rattle.series_book.specs.declared.refusals.Refusal.{Refusal}
use Rattle.series_book.specs.Edits.{Edited}
use Rattle.series_store.specs.Changing.{IsRefusedBy, IsEitherBy, IsAnswered}
use Rattle.series_store.specs.declared.errors.StoreError.{StoreError}
use Rattle.series_store.proofs.TimeLemmas.{reads_leave, commit_leaves}
use Rattle.stored_book.specs.Standing.{StandsForBook}

-- the call ended with this error, which tells nothing of the book
pub failed : (answer : Result Edited Refusal) (total : ℕ) (book : List Series) (result : Result Outcome StoreError) (cause : StoreError)
    (old new : View) → IsRefusedBy answer cause → IsErrAnd result (λ e. e ≡ cause)
    → Passes old new (IsEitherBy answer total book) (Quiet old) → IsAnswered answer total book result old new
failed answer total book (Ok outcome) cause old new says is time = absurd is
failed answer total book (Err e) cause old new says is time =
    let P : StoreError → Type 0 = λ e. IsRefusedBy answer e in
    record { done = tt; refused = subst P (sym is) says; moments = time }

-- nothing was committed
pub failed_reading : (answer : Result Edited Refusal) (total : ℕ) (book : List Series) (result : Result Outcome StoreError)
    (cause : StoreError) (old new : View) → IsRefusedBy answer cause → IsErrAnd result (λ e. e ≡ cause)
    → StandsForBook old.image total book → Only old.image (Now old) → Passes old new (Now old) (Quiet old)
    → IsAnswered answer total book result old new
failed_reading answer total book result cause old new says is stands only time =
    failed answer total book result cause old new says is (reads_leave old new (IsEitherBy answer total book) only (inl stands) time)

-- the moments of a commit
pub saved_time : (edited : Edited) (total : ℕ) (book : List Series) (batch : List Entry) (told told' : Type 0) (old mid new : View)
    → StandsForBook old.image total book → StandsForBook (put_all batch old.image) total edited.book
    → Only old.image (Now old) → mid.image ≡ old.image → Passes old mid (Now old) (Quiet old) → Commits batch told told' mid new
    → Passes old new (IsEitherBy (Ok edited) total book) (Quiet old)
saved_time edited total book batch told told' old mid new stands later only same time commits =
    commit_leaves batch told told' old mid new (IsEitherBy (Ok edited) total book) only (inl stands)
    (inr (record { edited = edited; accepted = refl; stands = later })) same time commits
