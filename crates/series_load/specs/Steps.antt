-- What a line more does to the run that stands open, and to the store.
use Rattle.std.specs.Prelude.{◌≡◌, ◌≢◌, ◌⊎◌, ℕ, ℤ, ◌+◌, ◌-◌, ◌<◌, ◌≤◌, Bool, true, false, List, [], ◌∷◌, ◌++◌, length, map, take, slice_get}
use Rattle.std.specs.Prelude.{Option, None, Some, Result, Ok, Err, IfOk, OnOk, IfErr, count_by, is_some, ⊤}
use Rattle.std.specs.List.{filter}
use Rattle.block_disk.specs.Counts.{HasRisen}
use Rattle.block_disk.specs.View.{Image, View, Passes}
use Rattle.gate_pages.specs.Pages.{Quiet, GoesOn}
use Rattle.csv_load.specs.Rows.{Says, Fails}
use Rattle.csv_load.specs.declared.row.Row.TheVariants as row
use Rattle.csv_load.specs.declared.row.RowCause.{RowCause}
use Rattle.series_book.specs.declared.one_series.Series.{Series}
use Rattle.series_book.specs.Refusals.{number_of}
use Rattle.series_book.specs.declared.refusals.Refusal.{Refusal}
use Rattle.series_book.specs.declared.outcomes.Outcome.{Outcome}
use Rattle.stored_book.specs.Damage.{IsBadForEdit}
use Rattle.series_store.specs.declared.errors.StoreError.{StoreError}
use Rattle.series_store.specs.declared.errors.StoreError.TheVariants as store
use Rattle.chart_world.specs.Fronts.{says}
use Rattle.series_load.specs.Fronts.{PlacedLine}
use Rattle.series_load.specs.Rows.{Reading, AreTable}
use Rattle.series_load.specs.Costs.{Costs, spent_by}
use Rattle.series_load.specs.Runs.{Run, readings, last_reading, Cut}
use Rattle.series_load.specs.Sets.{AreSets, IsAfter, IsPartDone, IsRefusedIn, OfRefusal}
use Rattle.run_ends.specs.declared.ending.End.{End}
use Rattle.run_ends.specs.declared.ending.End.TheVariants.{NoMemory, DiskFault, DamagedPage, BadInput, Refused}
use Rattle.series_load.specs.declared.kept_sets.KeptSets.{KeptSets}
use Rattle.series_load.specs.declared.open_run.OpenRun.{OpenRun}
use Rattle.series_load.specs.declared.open_run.Reading.{Reading as Pair}
use Rattle.series_load.specs.declared.said.Said.{Said}
use Rattle.series_load.specs.declared.said.Said.TheVariants.{Header, Point, Gap, Bad}

-- what is kept of a run that stands open
pub record KeepsRun (run : Run) (kept : OpenRun) : Type 0 where
  pub at_is : kept.at ≡ run.first.at
  pub time_is : kept.time ≡ run.first.time
  pub last_is : kept.last ≡ (last_reading run).time
  pub values_are : kept.values.items ≡ map (λ reading. reading.value) (readings run)

abbrev pub Keeps : Option Run → OpenRun → Type 0
Keeps None kept = kept.values.items ≡ []
Keeps (Some run) kept = KeepsRun run kept

-- a time with its value, in the line at this offset
abbrev pub reading_at : ℕ → Pair → Reading
reading_at at pair = record { at = at; time = pair.time; value = pair.value }

-- the run that stands open, as a list
abbrev pub closed : Option Run → List Run
closed None = []
closed (Some run) = run ∷ []

-- the run that stands open ends
abbrev pub Closes : Option Run → List Run → Option Run → Type 0
Closes old ends new = (ends ≡ closed old) × (new ≡ None)

-- Behind rows that leave this run open, a row more ends these runs and leaves that run open.
abbrev pub Adds : ℕ → Option Run → Option Reading → List Run → Option Run → Type 0
Adds step old row ends new = (rows : List (Option Reading)) (runs : List Run) → Cut step rows runs old
    → Cut step (rows ++ row ∷ []) (runs ++ ends) new

-- the same of a time with its value, in the line at this offset
abbrev pub AddsReading : ℕ → ℕ → Pair → Option Run → List Run → Option Run → Type 0
AddsReading step at pair old ends new = Adds step old (Some (reading_at at pair)) ends new

-- how far the lines have been read: whether none was yet, the runs that have ended, the one that stands open, and how
-- many rows have a reading
pub record Read (scale step : ℕ) (lines : List PlacedLine) (runs : List Run) (first : Bool) (open_run : Option Run)
    (points : ℕ) : Type 0 where
  pub rows : List (Option Reading)
  pub table : AreTable scale lines rows
  pub cut : Cut step rows runs open_run
  pub counted : points ≡ count_by is_some rows
  pub none_yet : first ≡ true → lines ≡ []
  pub some_yet : first ≡ false → 0 < length lines

-- the line, unless it is empty
abbrev pub if_told : ℕ → Option (List ℕ) → List PlacedLine
if_told at text = filter (λ line. says line.text) (record { at = at; text = text } ∷ [])

-- a line more ends these runs
abbrev pub LineAdds : ℕ → ℕ → ℕ → List ℕ → Bool → Option Run → ℕ → List Run → Bool → Option Run → ℕ → Type 0
LineAdds scale step at text first old points ends first' new points' = (lines : List PlacedLine) (runs : List Run) →
    Read scale step lines runs first old points → Read scale step (lines ++ if_told at (Some text)) (runs ++ ends) first' new points'

-- the line says this; a header counts as the first line alone
abbrev pub SaysSo : ℕ → Bool → List ℕ → Said → Type 0
SaysSo scale first text Header = (first ≡ true) × Says scale text row.Header
SaysSo scale first text (Point reading) = Says scale text (row.Point reading.time reading.value)
SaysSo scale first text Gap = (time : ℤ) × Says scale text (row.Skip time)
SaysSo scale first text Bad = ((cause : RowCause) × Fails scale text cause) ⊎ ((first ≡ false) × Says scale text row.Header)

-- so many rows have a reading, with a line that says this
abbrev pub points_with : ℕ → Said → ℕ
points_with points Header = points
points_with points (Point reading) = points + 1
points_with points Gap = points
points_with points Bad = points

-- a line that isn't empty says what may stand there, and is counted where it has a reading
pub record SaysGood (scale : ℕ) (first : Bool) (points : ℕ) (text : List ℕ) (points' : ℕ) : Type 0 where
  pub some : 0 < length text
  pub said : Said
  pub good : said ≢ Bad
  pub says_it : SaysSo scale first text said
  pub counted : points' ≡ points_with points said

-- the line is empty, or it says so, and no line behind it is the first
abbrev pub LineReads : ℕ → Bool → ℕ → List ℕ → Bool → ℕ → Type 0
LineReads scale first points text first' points' =
    ((text ≡ []) × (first' ≡ first) × (points' ≡ points)) ⊎ (SaysGood scale first points text points' × (first' ≡ false))

-- a line that an end calls bad is the one at this offset
abbrev pub BlamesLine : ℕ → End → Type 0
BlamesLine at (BadInput place) = place ≡ at
BlamesLine at end = ⊤

-- and it is bad, with this text
abbrev pub BlamesText : ℕ → ℕ → Bool → List ℕ → End → Type 0
BlamesText scale at first text (BadInput place) = (place ≡ at) × (0 < length text) × SaysSo scale first text Bad
BlamesText scale at first text end = ⊤

-- the end calls no line bad
abbrev pub BlamesNone : End → Type 0
BlamesNone (BadInput place) = ⊥
BlamesNone end = ⊤

-- what is kept: the sets of the runs that have ended and aren't done, and the run that stands open
pub record KeepsRuns (name : List ℕ) (waiting : List Run) (open_run : Option Run) (kept : KeptSets) (run : OpenRun) : Type 0 where
  pub sets : AreSets name waiting kept.sets.items kept.ats.items
  pub still : Keeps open_run run

-- runs ended as G says, and are kept behind those that wait
pub record Took (G : List Run → Option Run → Type 0) (name : List ℕ) (waiting : List Run) (kept : KeptSets) (run : OpenRun) : Type 0 where
  pub ends : List Run
  pub new : Option Run
  pub gives : G ends new
  pub keeps : KeepsRuns name (waiting ++ ends) new kept run

-- a line more ends runs, and these are those that wait and those that it ends
pub record RunsOfLine (scale step at : ℕ) (text : List ℕ) (first : Bool) (points : ℕ) (waiting : List Run) (open_run : Option Run)
    (runs : List Run) : Type 0 where
  pub ends : List Run
  pub first' : Bool
  pub new : Option Run
  pub points' : ℕ
  pub adds : LineAdds scale step at text first open_run points ends first' new points'
  pub runs_are : runs ≡ waiting ++ ends

-- the line is bad, and these are the runs that wait and the one that stands open
pub record RunsOfBad (scale : ℕ) (text : List ℕ) (first : Bool) (waiting : List Run) (open_run : Option Run)
    (runs : List Run) : Type 0 where
  pub some : 0 < length text
  pub bad : SaysSo scale first text Bad
  pub runs_are : runs ≡ waiting ++ closed open_run

-- the runs whose sets may be done at a line
abbrev pub LineRuns : ℕ → ℕ → ℕ → List ℕ → Bool → ℕ → List Run → Option Run → List Run → Type 0
LineRuns scale step at text first points waiting open_run runs =
    (runs ≡ waiting) ⊎ RunsOfLine scale step at text first points waiting open_run runs ⊎ RunsOfBad scale text first waiting open_run runs

-- why not all of the runs' sets were done; B says of a bad line what is done then
abbrev pub StopsSo : (ℕ → Type 0) → ℕ → List ℕ → List Series → List Run → Image → End → Type 0
StopsSo B total name book runs image NoMemory = IsPartDone total name book runs image
StopsSo B total name book runs image DiskFault = ⊤
StopsSo B total name book runs image (BadInput at) = B at
StopsSo B total name book runs image (Refused at number) = OfRefusal number (λ refusal. IsRefusedIn total name book runs at refusal image)
StopsSo B total name book runs image end = ⊥

-- no line is bad
abbrev pub NoBad : ℕ → Type 0
NoBad at = ⊥

-- What a call does where the pages stand for the book: it does the sets of these runs.
pub record Does {T : Type 0} (B : ℕ → Type 0) (total : ℕ) (name : List ℕ) (book : List Series) (runs : List Run) (result : Result T End)
    (old new : View) : Type 0 where
  pub costs : Costs (length runs) (spent_by old) new
  pub done : OnOk result (IsAfter total name book runs new.image)
  pub stops : IfErr result (λ e. StopsSo B total name book runs new.image e)
  pub moments : Passes old new (IsPartDone total name book runs) (Quiet old)

-- the same of so many first of the runs
pub record DoesFirst (total : ℕ) (name : List ℕ) (book : List Series) (runs : List Run) (result : Result ℕ End)
    (old new : View) : Type 0 where
  pub costs : Costs (length runs) (spent_by old) new
  pub few : IfOk result (λ count. Costs count (spent_by old) new)
  pub done : IfOk result (λ count. IsAfter total name book (take count runs) new.image)
  pub stops : IfErr result (λ e. StopsSo NoBad total name book runs new.image e)
  pub moments : Passes old new (IsPartDone total name book runs) (Quiet old)

-- the last answer is this refusal, of the set of a run that begins at the offset
pub record IsLastRefused (ats : List ℕ) (answers : List (Result Outcome Refusal)) (end : End) : Type 0 where
  pub refusal : Refusal
  pub at : ℕ
  pub last : slice_get answers (length answers - 1) ≡ Some (Err refusal)
  pub at_is : slice_get ats (length answers - 1) ≡ Some at
  pub end_is : end ≡ Refused at (number_of refusal)

-- how many sets these answers are of, or the refusal of the last one
abbrev pub Counts : List ℕ → List (Result Outcome Refusal) → Result ℕ End → Type 0
Counts ats answers (Ok count) = (count ≡ length answers)
    × ((outcome : Outcome) × (slice_get answers (length answers - 1) ≡ Some (Ok outcome)))
Counts ats answers (Err end) = IsLastRefused ats answers end

-- a line was taken: runs ended, the sets of some that waited were done, and those of others are kept
pub record LineTook (scale step at : ℕ) (text : List ℕ) (first : Bool) (points : ℕ) (waiting : List Run) (open_run : Option Run) (total : ℕ)
    (name : List ℕ) (book : List Series) (first' : Bool) (points' : ℕ) (kept : KeptSets) (run : OpenRun) (old new : View) : Type 0 where
  pub ends : List Run
  pub still : Option Run
  pub adds : LineAdds scale step at text first open_run points ends first' still points'
  pub done : List Run
  pub later : List Run
  pub split : waiting ++ ends ≡ done ++ later
  pub after : IsAfter total name book done new.image
  pub keeps : KeepsRuns name later still kept run
  pub costs : Costs (length done) (spent_by old) new

-- why a set wasn't done, whatever the pages are
abbrev pub IsSetCause : End → Type 0 → ℕ → View → View → Type 0
IsSetCause NoMemory told total old new = ⊤
IsSetCause DiskFault told total old new = HasRisen old.faults new.faults
IsSetCause (DamagedPage page) told total old new = (page < total) × (told → IsBadForEdit new.size new.image page)
IsSetCause (BadInput at) told total old new = ⊤
IsSetCause (Refused at number) told total old new = ⊤
IsSetCause end told total old new = ⊥

-- unless a call of the disk failed, the pages are sound
abbrev pub IsSoundFor : End → View → Type 0
IsSoundFor DiskFault new = ⊤
IsSoundFor end new = new.fit

-- what calls move, whatever the pages are
pub record Carries (told told' : Type 0) (old new under under' : View) (total total' count count' : ℕ) : Type 0 where
  pub is_told : told → told'
  pub was_told : told' → told
  pub size : new.size ≡ old.size
  pub beside : new.beside ≡ old.beside
  pub faults : old.faults ≤ new.faults
  pub goes_on : GoesOn under under'
  pub total_is : total' ≡ total
  pub more : count ≤ count'

-- what an error of the store is for a load, where a run that begins there was stored; `NotAStore` comes from no edit
abbrev pub end_at : ℕ → StoreError → End
end_at at (store.Refused refusal) = Refused at (number_of refusal)
end_at at store.NotAStore = NoMemory
end_at at store.DiskFault = DiskFault
end_at at (store.Damaged page) = DamagedPage page
end_at at store.NoMemory = NoMemory

-- a bad line is this one, and the sets of these runs before it were done
pub record IsAtLine (at total : ℕ) (name : List ℕ) (book : List Series) (runs : List Run) (image : Image) (place : ℕ) : Type 0 where
  pub at_is : place ≡ at
  pub after : IsAfter total name book runs image

-- the same of a line that isn't too long
pub record IsAtText (scale at : ℕ) (text : List ℕ) (first : Bool) (total : ℕ) (name : List ℕ) (book : List Series) (runs : List Run)
    (image : Image) (place : ℕ) : Type 0 where
  pub at_line : IsAtLine at total name book runs image place
  pub some : 0 < length text
  pub bad : SaysSo scale first text Bad

module _ (scale step at : ℕ) (text : List ℕ) (first : Bool) (points total : ℕ) (name : List ℕ) (book : List Series) (waiting : List Run)
    (open_run : Option Run) where
  -- what a line's sets leave
  pub record LineLeaves (image : Image) : Type 0 where
    pub runs : List Run
    pub are : LineRuns scale step at text first points waiting open_run runs
    pub part : IsPartDone total name book runs image

  pub record LineStops (old new : View) (e : End) : Type 0 where
    pub runs : List Run
    pub are : LineRuns scale step at text first points waiting open_run runs
    pub why : StopsSo (IsAtText scale at text first total name book (waiting ++ closed open_run) new.image) total name book runs new.image e
    pub costs : Costs (length runs) (spent_by old) new

  -- what taking a line does
  pub record DoesLine {T : Type 0} (result : Result T End) (first' : Bool) (points' : ℕ) (kept : KeptSets) (run : OpenRun)
      (old new : View) : Type 0 where
    pub took : OnOk result (LineTook scale step at text first points waiting open_run total name book first' points' kept run old new)
    pub stops : IfErr result (LineStops old new)
    pub moments : Passes old new LineLeaves (Quiet old)
