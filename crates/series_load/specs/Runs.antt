-- Rows as runs of readings.
use Rattle.std.specs.Prelude.{◌≡◌, ◌⊎◌, ℕ, pos, ◌-ℤ◌, ◌^◌, ◌<◌, ◌≤◌, List, [], ◌∷◌, ◌++◌, length, map, Option, None, Some}
use Rattle.series_load.specs.Rows.{Reading, Stops, ReadsRows}

-- rows, each with a reading or without one
abbrev pub Rows : Type 0
Rows = List (Option Reading)

-- readings, one at least
pub record Run : Type 0 where
  pub first : Reading
  pub others : List Reading

abbrev pub readings : Run → List Reading
readings run = run.first ∷ run.others

-- the rows that are its readings
abbrev pub rows_of : Run → List (Option Reading)
rows_of run = map Some (readings run)

-- the later of two times is a step behind the other
abbrev pub Follows : ℕ → Reading → Reading → Type 0
Follows step one next = next.time -ℤ one.time ≡ pos step

-- each reading follows the one before it
abbrev pub AreSteady : ℕ → Reading → List Reading → Type 0
AreSteady step first [] = Unit {0}
AreSteady step first (next ∷ later) = Follows step first next × AreSteady step next later

abbrev pub last_of : Reading → List Reading → Reading
last_of first [] = first
last_of first (next ∷ later) = last_of next later

abbrev pub last_reading : Run → Reading
last_reading run = last_of run.first run.others

-- at most 256 readings that follow each other
pub record IsRun (step : ℕ) (run : Run) : Type 0 where
  pub steady : AreSteady step run.first run.others
  pub few : length (readings run) ≤ 256

-- the first row behind a run doesn't go on with it: it has no reading, or one that doesn't follow
abbrev pub Breaks : ℕ → Run → List (Option Reading) → Type 0
Breaks step run [] = ⊥
Breaks step run (None ∷ later) = Unit {0}
Breaks step run (Some next ∷ later) = Follows step (last_reading run) next → ⊥

-- A run ends with its 256th reading, or where a row behind it breaks it.
abbrev pub EndsAt : ℕ → Run → List (Option Reading) → Type 0
EndsAt step run behind = (length (readings run) ≡ 256) ⊎ Breaks step run behind

-- The rows from the front on are these runs, each as long as it can be, and rows without a reading between
-- them. What hasn't ended at the last row is still open.
pub data Cut (step : ℕ) : List (Option Reading) → List Run → Option Run → Type 0 where
  nothing : Cut step [] [] None
  still : (run : Run) → IsRun step run → length (readings run) < 256 → Cut step (rows_of run) [] (Some run)
  gap : (rows : List (Option Reading)) (runs : List Run) (open_run : Option Run) → Cut step rows runs open_run
      → Cut step (None ∷ rows) runs open_run
  whole : (run : Run) (rows : List (Option Reading)) (runs : List Run) (open_run : Option Run) → IsRun step run → EndsAt step run rows
      → Cut step rows runs open_run → Cut step (rows_of run ++ rows) (run ∷ runs) open_run

-- the runs that have ended within the rows
abbrev pub Ended : ℕ → List (Option Reading) → List Run → Type 0
Ended step rows runs = (open_run : Option Run) × Cut step rows runs open_run

-- all runs of the rows: the end, and a bad line, end a run as a row without a reading does
abbrev pub AllRuns : ℕ → List (Option Reading) → List Run → Type 0
AllRuns step rows runs = Ended step (rows ++ None ∷ []) runs

-- the runs are the first of the input: those that have ended within its first lines, or all of the lines before
-- its end or before its first bad line; no line that begins or ends behind the first 2^32 bytes is among them
pub record AreFirst (scale step : ℕ) (input : List ℕ) (runs : List Run) : Type 0 where
  pub front : List ℕ
  pub rest : List ℕ
  pub early : length front ≤ 2 ^ 32
  pub rows : List (Option Reading)
  pub reads : ReadsRows scale input front rest rows
  pub ended : Ended step rows runs ⊎ (Stops scale front rest × AllRuns step rows runs)
