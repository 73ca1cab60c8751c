-- What a call of the program is in lists of runs: which run it makes, what it leaves for the first one, and what it draws.
use Rattle.std.specs.Prelude.{⊤, ◌≡◌, ℕ, ◌-◌, ◌++◌, List, [], ◌∷◌, Option, Some, if◌then◌else◌}
use Rattle.std.specs.List.{list_any}
use Rattle.block_disk.specs.View.{Image, View, Honest, sent_now}
use Rattle.chart_service.specs.Serving.{told}
use Rattle.gate_pages.specs.Journal.{page_count}
use Rattle.program_words.specs.declared.words.Command.{Command}
use Rattle.program_words.specs.declared.words.Command.TheVariants.{Plot, Load, Demo, Run, Serve, Draw, Init}
use Rattle.program_words.specs.declared.words.Command.TheVariants.{Check, ListSeries, Export, Retain, Cover, Live, Host, Derive}
use Rattle.served_fronts.specs.Fronts.{Draws, Covers}
use Rattle.served_fronts.specs.Headline.{Task, IsRun}
use Rattle.served_fronts.specs.Headline as headline
use Rattle.served_fronts.specs.Headline.Task.{serves, runs, watches, looks, changes}
use Rattle.stored_book.specs.Standing.{RecoversTo}
use Rattle.chart_program.specs.HostLines.{asks_sweep}
use Rattle.chart_program.specs.Lives.{BeginsOn, IsLeftAt}

-- What a command is for over an input. A store that is there is left alone by `init`; where a line asks for a sweep `host` does
-- more than its lines say, and else it is as `live`.
abbrev pub task_of : Command → List ℕ → Task
task_of Serve input = serves
task_of Run input = runs
task_of (Load name) input = changes
task_of (Demo seed rounds) input = changes
task_of Retain input = changes
task_of Live input = watches
task_of Host input = if list_any asks_sweep (told input) then changes else watches
task_of Check input = looks
task_of ListSeries input = looks
task_of (Export name window) input = looks
task_of Derive input = looks
task_of (Plot w h) input = looks
task_of Draw input = looks
task_of (Cover every) input = looks
task_of Init input = looks

-- the run of a call from one disk to another that sent these bytes, and a crash at a moment of it
abbrev pub run_of : Task → Image → List ℕ → List ℕ → ℕ → View → View → ℕ → Image → headline.Run
run_of task begins input sent status old new at after = record {
  task = task;
  begins = begins;
  input = input;
  sent = sent;
  status = status;
  by_then = new.sent_by at - sent_now old;
  left = after;
}

-- Where the disk has an image with nothing pending, and the world tells its bytes: whatever moment a crash comes at, and whatever
-- it leaves, this is a run.
abbrev pub MakesRuns : ℕ → Option (List ℕ) → Command → View → View → List ℕ → Option (List ℕ) → Option (List ℕ) → Type 0
MakesRuns status left command old new input before now =
    (begins after : Image) (at : ℕ) (was sent bytes : List ℕ) → BeginsOn begins old → IsLeftAt old new at after
    → left ≡ Some bytes → before ≡ Some was → now ≡ Some (was ++ sent)
    → IsRun (page_count old.size) (run_of (task_of command input) begins input sent status old new at after)

-- what `init` made stands for the book without a series, with nothing pending
abbrev pub BeginsRuns : Command → View → View → Type 0
BeginsRuns Init old new = Honest old → BeginsOn new.image new × RecoversTo (page_count old.size) new.image (page_count old.size) []
BeginsRuns command old new = ⊤

-- the codes of a drawing that had memory, where no stream failed
abbrev pub drawing_codes : List ℕ
drawing_codes = 0 ∷ 8 ∷ 9 ∷ 10 ∷ 11 ∷ 15 ∷ []

-- what `draw` and `cover` send is what the laws on fronts take it for
abbrev pub DrawsFronts : Option (List ℕ) → Command → View → View → List ℕ → Option (List ℕ) → Option (List ℕ) → Type 0
DrawsFronts left Draw old new input before now = Draws input left before now
DrawsFronts left (Cover every) old new input before now = Covers every input left before now
DrawsFronts left command old new input before now = ⊤
