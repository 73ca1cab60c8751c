-- What an edit tells by what the book answers, and a store in which no series is selected.
use Rattle.std.specs.Prelude.{ℕ, ℤ, ◌≡◌, ◌≤◌, ◌⊎◌, ◌++◌, ◌∷◌, [], length, List, Option, Result, Ok, Err, None, IfOk, IfErr, OnOk}
use Rattle.block_disk.specs.View.{Image, View, Passes}
use Rattle.gate_pages.specs.Pages.{Quiet, GoesOn}
use Rattle.page_space.specs.declared.superblock.Superblock.{Superblock}
use Rattle.series_book.specs.declared.limits.TheConstants.{MOST_SLOTS}
use Rattle.series_book.specs.declared.one_series.Series.{Series}
use Rattle.series_book.specs.declared.outcomes.Outcome.{Outcome}
use Rattle.series_book.specs.declared.refusals.Refusal.{Refusal}
use Rattle.series_book.specs.Edits.{Edited, within, with_slots, overwritten, cleared}
use Rattle.series_catalog.specs.Catalogs.{entry_of}
use Rattle.series_catalog.specs.declared.stored_series.StoredSeries.{StoredSeries}
use Rattle.stored_book.specs.Standing.{StandsForBook}
use Rattle.tree_walk.specs.declared.tree.Tree.{Tree}
use Rattle.tree_walk.specs.declared.trail.Trail.{Trail}
use Rattle.tree_walk.specs.Walk.{FitsAny}
use Rattle.series_store.specs.Creating.{series_of}
use Rattle.series_store.specs.Results.{IsEditCause, IsUnchangedFor, Moves}
use Rattle.series_store.specs.declared.errors.StoreError.{StoreError}
use Rattle.series_store.specs.declared.errors.StoreError.TheVariants.{Refused, NotAStore, DiskFault, Damaged, NoMemory}

-- no series is selected
pub record IsIdle (tree : Tree) (trail : Trail) : Type 0 where
  pub slots : tree.slots ≡ 0
  pub none : tree.span ≡ None
  pub trail_is : FitsAny trail

-- what the book answers where values are put into slots of a series from one on
abbrev pub after_put : ℕ → List Series → ℕ → Series → ℕ → List (Option ℤ) → Result Edited Refusal
after_put total book id series slot values = within total book id series (Ok (overwritten series.slots slot values))

abbrev pub with_cleared : List Series → ℕ → Series → ℕ → ℕ → Edited
with_cleared book id series slot count = record {
  book = with_slots book id series (cleared series.slots slot count);
  slots = length series.slots;
}

abbrev pub with_added : List Series → StoredSeries → Edited
with_added book series = record { book = book ++ series_of (entry_of series) ∷ []; slots = 0 }

-- the book accepts, and the pages stand for what it is then
pub record IsDoneBy (answer : Result Edited Refusal) (total : ℕ) (outcome : Outcome) (image : Image) : Type 0 where
  pub edited : Edited
  pub accepted : answer ≡ Ok edited
  pub slots : outcome.slots ≡ edited.slots
  pub stands : StandsForBook image total edited.book

-- the book refuses so, or the disk or the memory failed
abbrev pub IsRefusedBy : Result Edited Refusal → StoreError → Type 0
IsRefusedBy answer (Refused refusal) = answer ≡ Err refusal
IsRefusedBy answer NotAStore = ⊥
IsRefusedBy answer DiskFault = Unit {0}
IsRefusedBy answer (Damaged page) = ⊥
IsRefusedBy answer NoMemory = Unit {0}

pub record IsAfterBy (answer : Result Edited Refusal) (total : ℕ) (image : Image) : Type 0 where
  pub edited : Edited
  pub accepted : answer ≡ Ok edited
  pub stands : StandsForBook image total edited.book

-- pages that stand for the book from before, or for the one that it makes of it
abbrev pub IsEitherBy : Result Edited Refusal → ℕ → List Series → Image → Type 0
IsEitherBy answer total book image = StandsForBook image total book ⊎ IsAfterBy answer total image

-- where the pages stood for a book that answers so, a call did the same
pub record IsAnswered (answer : Result Edited Refusal) (total : ℕ) (book : List Series) (result : Result Outcome StoreError)
    (old new : View) : Type 0 where
  pub done : IfOk result (λ outcome. IsDoneBy answer total outcome new.image)
  pub refused : IfErr result (λ e. IsRefusedBy answer e)
  pub moments : Passes old new (IsEitherBy answer total book) (Quiet old)

-- what a call did, whatever the pages are
pub record IsCarriedOut (told told' : Type 0) (old new under under' : View) (s s' : Superblock)
    (result : Result Outcome StoreError) : Type 0 where
  pub moves : Moves told told' old new
  pub goes_on : GoesOn under under'
  pub cause : IfErr result (λ e. IsEditCause e told s old new)
  pub unchanged : IfErr result (λ e. IsUnchangedFor e told old new)
  pub sound : OnOk result new.fit
  pub total : s'.total ≡ s.total
  pub slots : IfOk result (λ outcome. outcome.slots ≤ MOST_SLOTS)
