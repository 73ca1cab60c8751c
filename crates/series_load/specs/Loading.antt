-- What a load holds on its way, and what is done of a line.
use Rattle.std.specs.Prelude.{◌≡◌, ℕ, ◌+◌, ◌≤◌, Bool, List, [], ◌++◌, length, Option, None, Some, ⊤}
use Rattle.block_disk.specs.View.{Image, View}
use Rattle.line_runs.specs.Given as given
use Rattle.line_runs.specs.Given.{Given, Line, Pause}
use Rattle.series_book.specs.declared.one_series.Series.{Series}
use Rattle.stored_book.specs.Standing.{StandsForBook}
use Rattle.series_load.specs.Costs.{Costs, Spent}
use Rattle.series_load.specs.Runs.{Run}
use Rattle.series_load.specs.Sets.{IsPartDone, Loads}
use Rattle.series_load.specs.Steps.{BlamesLine, BlamesNone, BlamesText, IsAtLine, IsAtText, KeepsRuns, LineAdds, LineReads, LineRuns}
use Rattle.series_load.specs.Steps.{StopsSo, closed}
use Rattle.run_ends.specs.declared.ending.End.{End}
use Rattle.run_ends.specs.declared.ending.End.TheVariants.{DiskFault}
use Rattle.series_load.specs.declared.loader.Loader.{Loader}

-- the series and the book that the pages stand for, the runs that have ended and whose sets aren't done, how far the lines
-- were read, since when how many bytes were sent, what was spent before, and how many sets were done
pub record Held : Type 0 where
  pub total : ℕ
  pub name : List ℕ
  pub scale : ℕ
  pub step : ℕ
  pub book : List Series
  pub waiting : List Run
  pub first : Bool
  pub open_run : Option Run
  pub points : ℕ
  pub since : ℕ
  pub count : ℕ
  pub before : Spent
  pub asked : ℕ

-- the same of a load whose loader is this one
abbrev pub seen : Held → Loader → Held
seen held loader = record {
  total = held.total;
  name = loader.name;
  scale = loader.scale;
  step = loader.step;
  book = held.book;
  waiting = held.waiting;
  first = loader.first;
  open_run = held.open_run;
  points = loader.points;
  since = held.since;
  count = held.count;
  before = held.before;
  asked = held.asked;
}

-- and with another book, other runs that wait, further lines read, and more sets done
abbrev pub moved : Held → List Series → List Run → Bool → Option Run → ℕ → ℕ → Held
moved held book waiting first open_run points asked = record {
  total = held.total;
  name = held.name;
  scale = held.scale;
  step = held.step;
  book = book;
  waiting = waiting;
  first = first;
  open_run = open_run;
  points = points;
  since = held.since;
  count = held.count;
  before = held.before;
  asked = asked;
}

-- no byte was sent since this moment
pub record NoneSent (since count : ℕ) (at : View) : Type 0 where
  pub later : since ≤ at.clock
  pub here : (time : ℕ) → since ≤ time → time ≤ at.clock → at.sent_by time ≡ count

-- the loader and the pages are those of such a load
pub record StandsSo (told : Type 0) (at : View) (loader : Loader) (held : Held) : Type 0 where
  pub is_told : told
  pub stands : StandsForBook at.image held.total held.book
  pub keeps : KeepsRuns loader.name held.waiting held.open_run loader.kept loader.run
  pub quiet : NoneSent held.since held.count at
  pub costs : Costs held.asked held.before at
  pub seen_is : held ≡ seen held loader

-- a line was taken: runs ended, the sets of some that waited were done, and the others wait
pub record LineTaken (held : Held) (at : ℕ) (line text : List ℕ) (behind : Held) : Type 0 where
  pub ends : List Run
  pub done : List Run
  pub book : List Series
  pub waiting : List Run
  pub first : Bool
  pub open_run : Option Run
  pub points : ℕ
  pub adds : LineAdds held.scale held.step at line held.first held.open_run held.points ends first open_run points
  pub split : held.waiting ++ ends ≡ done ++ waiting
  pub loads : Loads held.total held.name held.book done book
  pub behind_is : behind ≡ moved held book waiting first open_run points (held.asked + length done)
  pub unsent : text ≡ []

-- at a pause the sets of the runs that wait are done
pub record PauseTaken (held : Held) (text : List ℕ) (behind : Held) : Type 0 where
  pub book : List Series
  pub loads : Loads held.total held.name held.book held.waiting book
  pub behind_is : behind ≡ moved held book [] held.first held.open_run held.points (held.asked + length held.waiting)
  pub unsent : text ≡ []

-- at the end that of the run that stands open is done too
pub record EndTaken (held : Held) (text : List ℕ) (behind : Held) : Type 0 where
  pub book : List Series
  pub loads : Loads held.total held.name held.book (held.waiting ++ closed held.open_run) book
  pub behind_is : behind ≡ moved held book [] held.first None held.points (held.asked + length (held.waiting ++ closed held.open_run))
  pub unsent : text ≡ []

abbrev pub LoadDoes : Held → Given → List ℕ → Held → Type 0
LoadDoes held (Line at None) text behind = ⊥
LoadDoes held (Line at (Some line)) text behind = LineTaken held at line text behind
LoadDoes held Pause text behind = PauseTaken held text behind
LoadDoes held given.End text behind = EndTaken held text behind

-- the runs whose sets may be done, and what is done of a bad line
abbrev pub RunsBy : Held → Given → List Run → Type 0
RunsBy held (Line at None) runs = runs ≡ held.waiting ++ closed held.open_run
RunsBy held (Line at (Some line)) runs = LineRuns held.scale held.step at line held.first held.points held.waiting held.open_run runs
RunsBy held Pause runs = runs ≡ held.waiting
RunsBy held given.End runs = runs ≡ held.waiting ++ closed held.open_run

abbrev pub BadBy : Held → Given → Image → ℕ → Type 0
BadBy held (Line at None) image place = IsAtLine at held.total held.name held.book (held.waiting ++ closed held.open_run) image place
BadBy held (Line at (Some line)) image place =
    IsAtText held.scale at line held.first held.total held.name held.book (held.waiting ++ closed held.open_run) image place
BadBy held Pause image place = ⊥
BadBy held given.End image place = ⊥

-- why it stopped the load, and what a crash leaves meanwhile
pub record LoadStops (held : Held) (it : Given) (new : View) (end : End) : Type 0 where
  pub runs : List Run
  pub are : RunsBy held it runs
  pub why : StopsSo (BadBy held it new.image) held.total held.name held.book runs new.image end
  pub quiet : NoneSent held.since held.count new
  pub costs : Costs (held.asked + length runs) held.before new

pub record LoadLeaves (held : Held) (it : Given) (from : ℕ) (image : Image) (sent : ℕ) : Type 0 where
  pub runs : List Run
  pub are : RunsBy held it runs
  pub part : IsPartDone held.total held.name held.book runs image

-- ---- whatever the pages are

-- how far the lines were read: by this scale, whether none was yet that isn't empty, and how many rows have a reading
pub record Scan : Type 0 where
  pub scale : ℕ
  pub first : Bool
  pub points : ℕ

-- by a loader
abbrev pub scan_of : Loader → Scan
scan_of loader = record { scale = loader.scale; first = loader.first; points = loader.points }

-- further lines
abbrev pub further : Scan → Bool → ℕ → Scan
further scan first points = record { scale = scan.scale; first = first; points = points }

-- a line was read
pub record LineScanned (scan : Scan) (text : List ℕ) (behind : Scan) : Type 0 where
  pub first : Bool
  pub points : ℕ
  pub reads : LineReads scan.scale scan.first scan.points text first points
  pub behind_is : behind ≡ further scan first points

-- at a pause and at the end none was
abbrev pub ScanDoes : Scan → Given → Scan → Type 0
ScanDoes scan (Line at None) behind = ⊥
ScanDoes scan (Line at (Some text)) behind = LineScanned scan text behind
ScanDoes scan Pause behind = behind ≡ scan
ScanDoes scan given.End behind = behind ≡ scan

-- what an end says of the line that was given
abbrev pub ScanStops : Scan → Given → End → Type 0
ScanStops scan (Line at None) end = BlamesLine at end
ScanStops scan (Line at (Some text)) end = BlamesText scan.scale at scan.first text end
ScanStops scan Pause end = BlamesNone end
ScanStops scan given.End end = BlamesNone end

-- ---- the one or the other

-- a load on its way, of which it is known what it holds, or only how far the lines were read
pub data Loading : Type 0 where
  Booked : Held → Loading
  Scanned : Scan → Loading

abbrev pub IsBooked : (Held → Type 0) → Loading → Type 0
IsBooked IsSo (Booked held) = IsSo held
IsBooked IsSo (Scanned scan) = ⊥

abbrev pub IsScanned : (Scan → Type 0) → Loading → Type 0
IsScanned IsSo (Booked held) = ⊥
IsScanned IsSo (Scanned scan) = IsSo scan

-- the loader is that of such a load, and so are the pages where it is known what it holds
abbrev pub StandsFor : Type 0 → View → Loader → Loading → Type 0
StandsFor told at loader (Booked held) = StandsSo told at loader held
StandsFor told at loader (Scanned scan) = scan ≡ scan_of loader

-- then it is told what a crash leaves, between lines too
abbrev pub Lasts : Loading → Type 0
Lasts (Booked held) = ⊤
Lasts (Scanned scan) = ⊥

abbrev pub RestsSo : Loading → Image → Type 0
RestsSo (Booked held) image = StandsForBook image held.total held.book
RestsSo (Scanned scan) image = ⊤

-- what is done, why it stopped the load, and what a crash leaves meanwhile
abbrev pub LoadingDoes : Loading → Given → List ℕ → Loading → Type 0
LoadingDoes (Booked held) it text behind = IsBooked (λ next. LoadDoes held it text next) behind
LoadingDoes (Scanned scan) it text behind = (text ≡ []) × IsScanned (λ next. ScanDoes scan it next) behind

abbrev pub LoadingStops : Loading → Given → View → End → Type 0
LoadingStops (Booked held) it new end = LoadStops held it new end
LoadingStops (Scanned scan) it new end = ScanStops scan it end

abbrev pub LoadingLeaves : Loading → Given → ℕ → Image → ℕ → Type 0
LoadingLeaves (Booked held) it from image sent = LoadLeaves held it from image sent
LoadingLeaves (Scanned scan) it from image sent = ⊤

-- after it no line may be given
abbrev pub Harms : End → Type 0
Harms end = end ≡ DiskFault
