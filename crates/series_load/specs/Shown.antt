-- A load into a store, in the words of the store.
use Rattle.std.specs.Prelude.{◌≡◌, ℕ, List, Option, Result, Err, length}
use Rattle.block_disk.specs.declared.streams.Streams as streams
use Rattle.gate_pages.specs.declared.pages.Pages.{Ghosts}
use Rattle.series_book.specs.declared.one_series.Series.{Series}
use Rattle.series_book.specs.declared.edits.Edit.{Edit}
use Rattle.stored_book.specs.Standing.{StandsForBook}
use Rattle.series_store.specs.Shown as shown
use Rattle.series_store.specs.declared.store.Store.{Store}
use Rattle.series_load.specs.Ends.{Outcome, IsLoadCause}
use Rattle.series_load.specs.Runs.{Run}
use Rattle.series_load.specs.Sets.{AreEdits, AreSets, IsNamed}
use Rattle.series_load.specs.Sides.{Side, side}
use Rattle.series_load.specs.Steps.{Carries, Does, DoesFirst, DoesLine, IsAtLine, IsSetCause, KeepsRuns, LineAdds, NoBad, Took}
use Rattle.run_ends.specs.declared.ending.End.{End}
use Rattle.series_load.specs.declared.loader.Loader.{Loader}

-- a book can be asked each set that is kept
abbrev pub KeepsEdits : Loader → Type 0
KeepsEdits loader = AreEdits loader.kept.sets.items loader.kept.ats.items

-- the loader keeps these runs
abbrev pub KeepsSo : Loader → List Run → Option Run → Type 0
KeepsSo loader waiting open_run = KeepsRuns loader.name waiting open_run loader.kept loader.run

-- it takes the line at this offset, whose text is this one, and keeps the sets of the runs that end
abbrev pub TookLine : ℕ → List ℕ → List Run → Option Run → Loader → Loader → Type 0
TookLine at text waiting open_run before after =
    Took (λ ends still. LineAdds before.scale before.step at text before.first open_run before.points ends after.first still after.points)
    before.name waiting after.kept after.run

module _ {P : Type 0} {g : Ghosts P} where
  -- the pages of a store with these streams, and its numbers
  abbrev pub side_of : streams.Ghosts P → Store P g → Side
  side_of beside it = side (shown.IsTold it) (shown.view it) (shown.under it) (shown.total it) (length (shown.catalog it))
      (beside.left (shown.pages it)) (beside.sent (shown.pages it)) (beside.read_faults (shown.pages it))
      (beside.send_faults (shown.pages it)) (beside.pieces (shown.pages it))

  -- what calls move, whatever the pages are
  abbrev pub CarriesOn : Store P g → Store P g → Type 0
  CarriesOn old new = Carries (shown.IsTold old) (shown.IsTold new) (shown.view old) (shown.view new) (shown.under old) (shown.under new)
      (shown.total old) (shown.total new) (length (shown.catalog old)) (length (shown.catalog new))

  -- why a set wasn't done, whatever the pages are
  abbrev pub FailsFor : End → Store P g → Store P g → Type 0
  FailsFor e old new = IsSetCause e (shown.IsTold new) (shown.total old) (shown.view old) (shown.view new)

  -- why a load ended, whatever the pages are
  abbrev pub EndsFor : streams.Ghosts P → End → Store P g → Store P g → Type 0
  EndsFor beside e old new = IsLoadCause e (shown.IsTold new) (shown.total old) (shown.view old) (shown.view new)
      (beside.read_faults (shown.pages old)) (beside.read_faults (shown.pages new))

  -- so of each book that the pages stand for, and the runs that the loader keeps
  abbrev pub ForRuns : Store P g → Loader → (ℕ → List Series → List Run → Option Run → Type 0) → Type 0
  ForRuns it loader IsSo = (total : ℕ) (book : List Series) (waiting : List Run) (open_run : Option Run) → shown.IsTold it
      → StandsForBook (shown.image it) total book → KeepsSo loader waiting open_run → IsSo total book waiting open_run

  -- or the runs of these sets
  abbrev pub ForSets : Store P g → List Edit → List ℕ → (ℕ → List ℕ → List Series → List Run → Type 0) → Type 0
  ForSets it sets ats IsSo = (total : ℕ) (name : List ℕ) (book : List Series) (runs : List Run) → shown.IsTold it
      → StandsForBook (shown.image it) total book → AreSets name runs sets ats → IsSo total name book runs

  -- so of each book that the pages stand for, and its series of this name
  abbrev pub ForNamed : Store P g → List ℕ → (ℕ → List Series → Series → Type 0) → Type 0
  ForNamed it name IsSo = (total : ℕ) (book : List Series) (series : Series) → shown.IsTold it → StandsForBook (shown.image it) total book
      → IsNamed book name series → IsSo total book series

  -- or a series with this step and scale
  abbrev pub ForLoaded : Store P g → Loader → (ℕ → List Series → Series → Type 0) → Type 0
  ForLoaded it loader IsSo = (total : ℕ) (book : List Series) (series : Series) → shown.IsTold it
      → StandsForBook (shown.image it) total book → loader.step ≡ series.step → loader.scale ≡ series.scale → IsSo total book series

  -- a call does the sets of these runs, or of some first of them
  abbrev pub DoesRuns : {T : Type 0} → ℕ → List ℕ → List Series → List Run → Result T End → Store P g → Store P g → Type 0
  DoesRuns total name book runs result old new = Does NoBad total name book runs result (shown.view old) (shown.view new)

  abbrev pub DoesSome : ℕ → List ℕ → List Series → List Run → Result ℕ End → Store P g → Store P g → Type 0
  DoesSome total name book runs result old new = DoesFirst total name book runs result (shown.view old) (shown.view new)

  -- at a bad line it does the sets of these runs before it
  abbrev pub StopsAt : ℕ → ℕ → List ℕ → List Series → List Run → End → Store P g → Store P g → Type 0
  StopsAt at total name book runs end old new =
      Does {T = ℕ} (IsAtLine at total name book runs (shown.image new)) total name book runs (Err end) (shown.view old) (shown.view new)

  -- it takes the line at this offset, whose text is this one, where sets may be done
  abbrev pub TakesLine : {T : Type 0} → ℕ → List ℕ → ℕ → List Series → List Run → Option Run → Result T End → Loader → Loader → Store P g
      → Store P g → Type 0
  TakesLine at text total book waiting open_run result before after old new =
      DoesLine before.scale before.step at text before.first before.points total before.name book waiting open_run result after.first
      after.points after.kept after.run (shown.view old) (shown.view new)

  -- a whole input is loaded, or not all of it
  abbrev pub LoadsSo : streams.Ghosts P → List ℕ → ℕ → List Series → Series → Result ℕ End → Store P g → Store P g → Type 0
  LoadsSo beside name total book series result old new = Outcome total name book series (beside.left (shown.pages old))
      (beside.left (shown.pages new)) result (shown.view old) (shown.view new)
