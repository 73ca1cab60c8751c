-- How many blocks the answer of a sum reads at most.
use Rattle.std.specs.Prelude.{◌≡◌, ◌⊎◌, ℕ, List}
use Rattle.chart_grid.specs.declared.grid.Grid.{Grid}
use Rattle.derive_command.specs.Answers.{AreOnOneGrid, IsGridOf}
use Rattle.derive_command.specs.declared.request.Request.{Request}
use Rattle.series_book.specs.declared.one_series.Series.{Series}
use Rattle.series_pair.specs.Costs.{ReadsSum}

-- rows are searched, by the slots of the first series in the window that is asked for
pub record ReadsRows (book : List Series) (r : Request) (old new : ℕ) : Type 0 where
  pub series : AreOnOneGrid book r
  pub grid : Grid
  pub grid_is : IsGridOf r grid
  pub few : ReadsSum book series.x series.y grid old new

-- a refusal that needs no rows reads nothing
abbrev pub ReadsAnswer : List Series → Request → ℕ → ℕ → Type 0
ReadsAnswer book r old new = (new ≡ old) ⊎ ReadsRows book r old new
