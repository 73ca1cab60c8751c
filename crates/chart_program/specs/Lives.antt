-- Runs over one disk, each begun on an image that a crash of the run before left.
use Rattle.std.specs.Prelude.{◌≡◌, ℕ, ◌+◌, ◌<◌, ◌≤◌, ◌⊎◌, List, [], ◌∷◌, length, Option, None, IfSome, ⊤}
use Rattle.block_disk.specs.View.{Image, View, Now, Honest, Only, sent_now}
use Rattle.gate_pages.specs.Journal.{page_count}
use Rattle.chart_world.specs.Fronts.{BeginsWith}
use Rattle.chart_frames.specs.declared.frame.Frame.{Frame}
use Rattle.series_book.specs.declared.one_series.Series.{Series}
use Rattle.series_book.specs.Edits.{id_of}
use Rattle.stored_book.specs.Standing.{RecoversTo}
use Rattle.series_load.specs.Rows.{Reading, ReadsRows}
use Rattle.series_load.specs.Runs.{Run as RunOfRows, AllRuns, AreFirst}
use Rattle.series_load.specs.Sets.{IsNamed, Loads}
use Rattle.demo_workload.specs.Replying.{AnswersEach}
use Rattle.demo_workload.specs.Workload.{workload}
use Rattle.chart_service.specs.State.{State}
use Rattle.chart_service.specs.Serving.{Answers, AnswersNext, told}
use Rattle.chart_service.specs.Moments.{SendsReply}
use Rattle.program_words.specs.declared.words.Command.{Command}
use Rattle.program_words.specs.declared.words.Command.TheVariants.{Plot, Load, Demo, Run, Serve, Draw, Init, Check, ListSeries, Export}
use Rattle.program_words.specs.declared.words.Command.TheVariants.{Retain, Cover, Live, Host, Derive}
use Rattle.store_commands.specs.Books.{begun}
use Rattle.store_commands.specs.Loaded.{IsAheadLoad}
use Rattle.demo_workload.specs.Demonstrated.{AnswersFirst, IsAheadDemo}
use Rattle.chart_program.specs.HostLines.{LeavesHostLines}
use Rattle.chart_program.specs.Served.{Spelled, AreTexts, IsAheadOn}
use Rattle.retain_command.specs.Sweeping.{IsAhead as IsAheadBy}
use Rattle.hosted_lines.specs.Running.{IsAhead as IsAheadHosted}
use Rattle.hosted_lines.specs.Begun.{begun_live}
use Rattle.live_command.specs.Running.{IsAhead as IsAheadLive}

-- ---- one life

-- A run of a command, begun on an image with nothing pending where so many bytes were sent before, and an image that a
-- crash at a moment of it may leave, with the number of bytes sent by then.
pub record Life : Type 0 where
  pub command : Command
  pub input : List ℕ
  pub begins : Image
  pub from : ℕ
  pub left : Image
  pub sent : ℕ

-- what a crash leaves of a book at a moment of a command
abbrev pub LeavesFrom : Command → List ℕ → ℕ → ℕ → List Series → ℕ → Image → ℕ → Type 0
LeavesFrom Run input count total book from image sent = IsAheadOn (AreTexts (begun total book)) input count total
    (begun total book) from image sent
LeavesFrom Serve input count total book from image sent = IsAheadOn (Spelled (begun total book)) input count total
    (begun total book) from image sent
LeavesFrom (Load name) input count total book from image sent =
    ((series : Series) → IsNamed book name series → IsAheadLoad count total name book series input from image sent)
    × (id_of name book ≡ None → RecoversTo count image total book)
LeavesFrom (Demo seed rounds) input count total book from image sent = IsAheadDemo (workload seed rounds) count total
    (begun total book) from image sent
LeavesFrom Check input count total book from image sent = RecoversTo count image total book
LeavesFrom ListSeries input count total book from image sent = RecoversTo count image total book
LeavesFrom (Export name window) input count total book from image sent = RecoversTo count image total book
LeavesFrom Retain input count total book from image sent = IsAheadBy
    (λ after. RecoversTo count image total after) total book input from sent
LeavesFrom (Cover every) input count total book from image sent = RecoversTo count image total book
LeavesFrom Live input count total book from image sent = IsAheadLive (λ after. RecoversTo count image total after) input
    (begun_live total book) from sent
LeavesFrom Host input count total book from image sent = IsAheadHosted (λ after. RecoversTo count image total after) input
    (begun_live total book) from sent
LeavesFrom Derive input count total book from image sent = RecoversTo count image total book
LeavesFrom (Plot w h) input count total book from image sent = RecoversTo count image total book
LeavesFrom Draw input count total book from image sent = RecoversTo count image total book
LeavesFrom Init input count total book from image sent = RecoversTo count image total book

-- what is known of a life by the clause on crashes of `chart`
abbrev pub IsLife : ℕ → Life → Type 0
IsLife count life = (total : ℕ) (book : List Series) → RecoversTo count life.begins total book
    → LeavesFrom life.command life.input count total book life.from life.left life.sent

-- the disk has this image, and nothing is pending
pub record BeginsOn (image : Image) (disk : View) : Type 0 where
  pub honest : Honest disk
  pub only : Only image (Now disk)

-- the life of a run from one disk to another, where a crash at this moment left this image
abbrev pub life_of : Command → List ℕ → Image → View → View → ℕ → Image → Life
life_of command input begins old new at left = record {
  command = command;
  input = input;
  begins = begins;
  from = sent_now old;
  left = left;
  sent = new.sent_by at;
}

-- a crash at this moment of the run may leave this image
abbrev pub IsLeftAt : View → View → ℕ → Image → Type 0
IsLeftAt old new at left = (old.clock ≤ at) × ((at ≤ new.clock) × new.crash at left)

-- a run that begins on an image with nothing pending is a life, whatever image a crash at whatever moment leaves
abbrev pub AreItsLives : Command → List ℕ → View → View → Type 0
AreItsLives command input old new = (begins left : Image) (at : ℕ) → BeginsOn begins old → IsLeftAt old new at left
    → IsLife (page_count old.size) (life_of command input begins old new at left)

-- the same where the bytes sent before are told
abbrev pub IsLived : Command → View → View → List ℕ → Option (List ℕ) → Option (List ℕ) → Type 0
IsLived command old new input before now = IfSome before (λ bytes. AreItsLives command input old new)

-- ---- lives in a row

-- each life begins on the image that the one before left
abbrev pub AreLives : ℕ → Image → List Life → Type 0
AreLives count image [] = ⊤
AreLives count image (life ∷ lives) = (life.begins ≡ image) × IsLife count life × AreLives count life.left lives

-- The new book is the old one after the accepted edits of some first lines: of all lines whose answers were sent whole by
-- then, and of at most `most_ahead` lines more, of whose answers no more was sent than those of the first of them are long.
pub record IsAfterLines (IsText : List (Option (List ℕ)) → List Frame → List ℕ
    → Type 0) (input : List ℕ) (total : ℕ) (old new : List Series) (from sent : ℕ) : Type 0 where
  pub front : List ℕ
  pub rest : List ℕ
  pub begins_with : BeginsWith input front rest
  pub between : State
  pub text : List ℕ
  pub answers : Answers IsText front text (begun total old) between
  pub state : ((new ≡ between.book) × (sent ≡ from + length text))
      ⊎ ((after : State) × (next : AnswersNext (length front) rest between after) × (new ≡ after.book)
      × ((sent ≡ from + length text) ⊎ SendsReply IsText (told front) answers.frames text between (told next.front) next.frames from sent))

-- the new book is the old one after the sets of all runs of the input's rows
pub record IsAfterAll (total : ℕ) (name : List ℕ) (series : Series) (input : List ℕ) (old new : List Series) : Type 0 where
  pub rows : List (Option Reading)
  pub reads : ReadsRows series.scale input input [] rows
  pub runs : List RunOfRows
  pub all : AllRuns series.step rows runs
  pub loads : Loads total name old runs new

-- it is the old one after the sets of some first runs; of all, once a byte of the line `loaded` was sent
pub record IsAfterSets (total : ℕ) (name : List ℕ) (input : List ℕ) (old new : List Series) (from sent : ℕ) : Type 0 where
  pub series : Series
  pub named : IsNamed old name series
  pub runs : List RunOfRows
  pub first : AreFirst series.scale series.step input runs
  pub loads : Loads total name old runs new
  pub all : from < sent → IsAfterAll total name series input old new

-- it is the one that some first requests leave; all of them, once a byte of the summary was sent
pub record IsAfterRequests (seed rounds total : ℕ) (old new : List Series) (from sent : ℕ) : Type 0 where
  pub state : State
  pub some : AnswersFirst (workload seed rounds) (begun total old) state
  pub new_is : new ≡ state.book
  pub all : from < sent → (frames : List Frame) × (last : State) × AnswersEach (begun total old) (workload seed rounds) frames last
      × (new ≡ last.book)

-- what a life leaves of a book
abbrev pub Outlives : Command → List ℕ → ℕ → List Series → List Series → ℕ → ℕ → Type 0
Outlives Run input total old new from sent = IsAfterLines (AreTexts (begun total old)) input total old new from sent
Outlives Serve input total old new from sent = IsAfterLines (Spelled (begun total old)) input total old new from sent
Outlives (Load name) input total old new from sent = IsAfterSets total name input old new from sent
    ⊎ ((id_of name old ≡ None) × (new ≡ old))
Outlives (Demo seed rounds) input total old new from sent = IsAfterRequests seed rounds total old new from sent
Outlives Check input total old new from sent = new ≡ old
Outlives ListSeries input total old new from sent = new ≡ old
Outlives (Export name window) input total old new from sent = new ≡ old
Outlives Retain input total old new from sent = IsAheadBy (λ after. new ≡ after) total old input from sent
Outlives Live input total old new from sent = IsAheadLive (λ after. new ≡ after) input (begun_live total old) from sent
Outlives Host input total old new from sent =
    LeavesHostLines total old input new × IsAheadHosted (λ after. new ≡ after) input (begun_live total old) from sent
Outlives Derive input total old new from sent = new ≡ old
Outlives (Plot w h) input total old new from sent = new ≡ old
Outlives Draw input total old new from sent = new ≡ old
Outlives (Cover every) input total old new from sent = new ≡ old
Outlives Init input total old new from sent = new ≡ old

-- the disk recovers to a book at the start of each life, which is the one that the life before left
abbrev pub AreBooks : ℕ → ℕ → List Series → List Life → Type 0
AreBooks count total book [] = ⊤
AreBooks count total book (life ∷ lives) =
    RecoversTo count life.begins total book
    × ((next : List Series) × Outlives life.command life.input total book next life.from life.sent × RecoversTo count life.left total next
    × AreBooks count total next lives)
