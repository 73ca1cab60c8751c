-- A series that is loaded from the export of another.
use Rattle.std.specs.Prelude.{◌≡◌, ℕ, List, [], ◌∷◌, ◌++◌, replicate, Option, None, Some}
use Rattle.series_book.specs.declared.one_series.Series.{Series}
use Rattle.series_load.specs.Rows.{Reading}
use Rattle.series_load.specs.Sets.{IsNamed}
use Rattle.block_disk.specs.View.{Image}
use Rattle.stored_book.specs.Standing.{StandsForBook}
use Rattle.series_export.specs.Exports.{Stored}

-- the readings of rows, as values at times
abbrev pub values_of : List (Option Reading) → List Stored
values_of [] = []
values_of (None ∷ rows) = values_of rows
values_of (Some reading ∷ rows) = record { time = reading.time; value = reading.value } ∷ values_of rows

-- a series of the same start, step and scale that has no slots yet
pub record IsBegunAs (series begun : Series) : Type 0 where
  pub start : begun.start ≡ series.start
  pub step : begun.step ≡ series.step
  pub scale : begun.scale ≡ series.scale
  pub none : begun.slots ≡ []

-- a series of the same start, step and scale whose slots are those of the other, but for missing ones at their end
pub record HoldsSame (series after : Series) : Type 0 where
  pub start : after.start ≡ series.start
  pub step : after.step ≡ series.step
  pub scale : after.scale ≡ series.scale
  pub missing : ℕ
  pub slots : series.slots ≡ after.slots ++ replicate missing None

-- the series of this name holds the same
pub record HoldsNamed (book : List Series) (name : List ℕ) (series : Series) : Type 0 where
  pub after : Series
  pub named : IsNamed book name after
  pub same : HoldsSame series after

-- the pages stand for a book in which the series of this name holds the same
pub record StandsForSame (total : ℕ) (name : List ℕ) (series : Series) (image : Image) : Type 0 where
  pub book : List Series
  pub stands : StandsForBook image total book
  pub holds : HoldsNamed book name series
