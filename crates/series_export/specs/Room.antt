-- A series' export is loaded into a store with room.
use Rattle.std.specs.Prelude.{◌≡◌, ℕ, ◌+◌, ◌≤◌, List, [], Option, None}
use Rattle.block_disk.specs.View.{Image}
use Rattle.series_book.specs.declared.one_series.Series.{Series}
use Rattle.series_book.specs.declared.refusals.Refusal.{Refusal}
use Rattle.series_book.specs.Pages.{series_pages, pages_of}
use Rattle.series_load.specs.Rows.{Reading, ReadsRows}
use Rattle.series_load.specs.Runs.{Run, AllRuns}
use Rattle.series_load.specs.Sets.{IsNamed, Loads}
use Rattle.series_load.specs.Ends.{IsAtBad, IsAtRefusal}
use Rattle.series_export.specs.Exports.{export_text, stored_values}
use Rattle.series_export.specs.RoundTrips.{values_of, IsBegunAs, HoldsSame, HoldsNamed}

-- a new series of this name is there, of the start, step and scale of the other
pub record HasNewFor (name : List ℕ) (book : List Series) (series : Series) : Type 0 where
  pub begun : Series
  pub named : IsNamed book name begun
  pub alike : IsBegunAs series begun

-- A new series for the other is there, and the pages of the book and those of the other's slots are no more than the
-- total. Missing slots at the end need no room.
pub record HasRoomFor (total : ℕ) (name : List ℕ) (book : List Series) (series : Series) : Type 0 where
  pub new : HasNewFor name book series
  pub after : Series
  pub same : HoldsSame series after
  pub room : pages_of book + series_pages after.slots ≤ total

-- all runs of rows that read the stored values of the series
pub record AreRunsOf (series : Series) (runs : List Run) : Type 0 where
  pub rows : List (Option Reading)
  pub values : values_of rows ≡ stored_values series
  pub all : AllRuns series.step rows runs

-- the sets of the runs are accepted, one after the other
pub record Accepts (total : ℕ) (name : List ℕ) (book : List Series) (runs : List Run) : Type 0 where
  pub new : List Series
  pub loads : Loads total name book runs new

-- those of all such runs are
abbrev pub AcceptsRunsOf : ℕ → List ℕ → List Series → Series → Type 0
AcceptsRunsOf total name book series = (runs : List Run) → AreRunsOf series runs → Accepts total name book runs

-- All lines of the series' export are rows, and the sets of all their runs are accepted. The series of this name holds the
-- same then, and its export is the same text.
pub record LoadsBack (total : ℕ) (name : List ℕ) (book : List Series) (series : Series) : Type 0 where
  pub rows : List (Option Reading)
  pub reads : ReadsRows series.scale (export_text series None) (export_text series None) [] rows
  pub runs : List Run
  pub all : AllRuns series.step rows runs
  pub new : List Series
  pub loads : Loads total name book runs new
  pub holds : HoldsNamed new name series
  pub text : export_text holds.after None ≡ export_text series None

-- a load of the input stops at no bad line and at no set that is refused
pub record GoesThrough (total : ℕ) (name : List ℕ) (book : List Series) (series : Series) (input : List ℕ) : Type 0 where
  pub good : (at : ℕ) (image : Image) → IsAtBad total name book series input at image → ⊥
  pub accepted : (at : ℕ) (refusal : Refusal) (image : Image) → IsAtRefusal total name book series input at refusal image → ⊥
