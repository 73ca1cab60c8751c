-- How often the lines of an input sync the disk, and the pushes behind them.
use Rattle.std.specs.Prelude.{ℕ, ◌+◌, ◌*◌, ◌≤◌, List, length}
use Rattle.chart_service.specs.Serving.{told}
use Rattle.chart_service.specs.Syncing.{edits_of}
use Rattle.chart_world.specs.Fronts.{BeginsWith}

-- Some first lines of the input sync at most four times for each of them that spells an edit. The last one may have failed.
pub record SyncsLines (input : List ℕ) (from to : ℕ) : Type 0 where
  pub front : List ℕ
  pub rest : List ℕ
  pub begins : BeginsWith input front rest
  pub few : to ≤ from + 4 * length (edits_of (told front))
