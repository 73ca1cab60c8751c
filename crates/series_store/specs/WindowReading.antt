-- How the values of a window are read from the pages of a tree.
use Rattle.std.specs.Prelude.{ℕ, ℤ, suc, ◌≡◌, ◌<◌, ◌==◌, if◌then◌else◌, List, [], ◌∷◌, ◌++◌, Option, ⊤}
use Rattle.block_disk.specs.Counts.{HasRisen}
use Rattle.block_disk.specs.View.{View}
use Rattle.om3_coeff.specs.declared.span.Span.{Span}
use Rattle.om3_coeff.specs.Keys.{page_levels}
use Rattle.page_space.specs.declared.superblock.Superblock.{Superblock}
use Rattle.stored_book.specs.Records.{entry}
use Rattle.series_store.specs.Sending.{HasUnfitPage}
use Rattle.series_store.specs.Windows.{run_of}
use Rattle.series_store.specs.declared.errors.StoreError.{StoreError}
use Rattle.series_store.specs.declared.errors.StoreError.TheVariants.{Refused, NotAStore, DiskFault, Damaged, NoMemory}
use Rattle.series_store.specs.declared.slot_run.SlotRun.{SlotRun}
use Rattle.series_store.specs.declared.window_values.WindowValues.{WindowValues}

-- a slot behind runs: the last of them goes on with it where it ended right before it
unfoldable pub behind_runs : List SlotRun → ℕ → List SlotRun
behind_runs [] slot = run_of slot ∷ []
behind_runs (run ∷ []) slot = if slot == run.end then record run { end = suc slot } ∷ [] else run ∷ run_of slot ∷ []
behind_runs (run ∷ next ∷ runs) slot = run ∷ behind_runs (next ∷ runs) slot

-- the value of a slot stands behind those of the slots before it
pub record IsAdded (slot : ℕ) (value : ℤ) (old new : WindowValues) : Type 0 where
  pub runs : new.runs.items ≡ behind_runs old.runs.items slot
  pub values_are : new.stored.items ≡ old.stored.items ++ value ∷ []

-- why the values of a window of the tree below a page of this page level weren't read; a page that is named is below the total
abbrev pub IsTreeWindowCause : StoreError → Type 0 → View → View → ℕ → ℕ → ℕ → Option Span → Type 0
IsTreeWindowCause (Refused refusal) told old new total level page top = ⊥
IsTreeWindowCause NotAStore told old new total level page top = ⊥
IsTreeWindowCause DiskFault told old new total level page top = HasRisen old.faults new.faults
IsTreeWindowCause (Damaged at) told old new total level page top = (at < total) × (told → HasUnfitPage old.image total level page top at)
IsTreeWindowCause NoMemory told old new total level page top = ⊤

-- the same of the tree that the record of the series of this id names
abbrev pub IsWindowCause : StoreError → Type 0 → Superblock → ℕ → View → View → Type 0
IsWindowCause e told s id old new = IsTreeWindowCause e told old new s.total (page_levels (entry old.image id).slots)
    (entry old.image id).root (entry old.image id).span
