-- The run of a host over lines: what is answered, done together and pushed, one after the other.
use Rattle.std.specs.Prelude.{ℕ, ◌≡◌, ◌+◌, ◌*◌, ◌≤◌, List, [], ◌∷◌, ◌++◌, length, Option, None, Some, ⊤}
use Rattle.chart_frames.specs.declared.frame.Frame.{Frame}
use Rattle.chart_frames.specs.Frames.{Fits}
use Rattle.chart_service.specs.EditGroups.{SpellEdits}
use Rattle.chart_service.specs.ReadingBlocks.{ReadsLine}
use Rattle.chart_service.specs.Serving.{most_ahead}
use Rattle.chart_service.specs.State.{State}
use Rattle.chart_service.specs.Syncing.{edit_of, edits_of, group_syncs}
use Rattle.host_lines.specs.Grammar.{host_line}
use Rattle.host_lines.specs.declared.asked.HostLine.{HostLine}
use Rattle.host_lines.specs.declared.asked.HostLine.TheVariants.{List as ListLine, Values, Sum, Sweep, Bad, Other}
use Rattle.host_replies.specs.Replies.{ReadsReportOver, Reported}
use Rattle.host_sweeps.specs.Sweeping.{SweepReplied, step_clears, step_reads}
use Rattle.live_service.specs.LiveReplies.{GroupReplied, LiveReplied, LiveState, Pushed, ReadsPush}
use Rattle.retention.specs.declared.rule.Rule.{Rule}
use Rattle.series_book.specs.declared.edits.Edit.{Edit}

-- What a host does: it answers a line, which is its text or nothing where that is too long; it reports what a line asks of the
-- host alone; it does the step of a sweep that a line asks for; it does the edits that some lines spell, together; or it makes
-- a push.
pub data Event : Type 0 where
  answer : Option (List ℕ) → Event
  report : List ℕ → Event
  sweep : List ℕ → Event
  group : List (Option (List ℕ)) → Event
  push : Event

-- one of them, and those behind it
pub record OneThen {X : Type 0} (one : List Frame → X → X → Type 0) (others : X → List Frame
    → Type 0) (old : X) (frames : List Frame) : Type 0 where
  pub first : List Frame
  pub between : X
  pub happens : one first old between
  pub more : List Frame
  pub later : others between more
  pub frames_are : frames ≡ first ++ more

-- events that happen so, one after the other, each with its frames
abbrev pub InRow : {X : Type 0} → (Event → List Frame → X → X → Type 0) → X → List Event → List Frame → X → Type 0
InRow {X} happens old [] frames new = (frames ≡ []) × (new ≡ old)
InRow {X} happens old (event ∷ later) frames new = OneThen (happens event) (λ between more. InRow happens between later more new) old frames

-- the line asks nothing of the host alone
abbrev pub IsPassed : Option (List ℕ) → Type 0
IsPassed None = ⊤
IsPassed (Some text) = host_line text ≡ Other

-- a line that asks nothing of the host alone is answered by its frame, where no push is pending
pub record AnswersLine (line : Option (List ℕ)) (frames : List Frame) (old new : LiveState) : Type 0 where
  pub passed : IsPassed line
  pub frame : Frame
  pub frames_are : frames ≡ frame ∷ []
  pub idle : old.pending ≡ []
  pub replied : LiveReplied line frame old new

-- what a line asks of the host alone is reported by its frame, where no push is pending; the book and the sessions stay
pub record Reports (line : List ℕ) (frames : List Frame) (old new : LiveState) : Type 0 where
  pub frame : Frame
  pub frames_are : frames ≡ frame ∷ []
  pub idle : old.pending ≡ []
  pub reported : Reported (host_line line) frame old.state
  pub fits : Fits frame
  pub same : new ≡ old

-- the step of a sweep is done that a line asks for, where no push is pending
pub record Sweeps (line : List ℕ) (frames : List Frame) (old new : LiveState) : Type 0 where
  pub rule : Rule
  pub asks : host_line line ≡ Sweep rule
  pub frame : Frame
  pub frames_are : frames ≡ frame ∷ []
  pub idle : old.pending ≡ []
  pub replied : SweepReplied rule frame old new

-- edits are done together that lines spell, at most so many, where no push is pending
pub record DoesGroup (lines : List (Option (List ℕ))) (frames : List Frame) (old new : LiveState) : Type 0 where
  pub edits : List Edit
  pub spell : SpellEdits lines edits
  pub few : length lines ≤ most_ahead
  pub idle : old.pending ≡ []
  pub replied : GroupReplied edits frames old new

-- a push is made
pub record MakesPush (frames : List Frame) (old new : LiveState) : Type 0 where
  pub frame : Frame
  pub frames_are : frames ≡ frame ∷ []
  pub pushed : Pushed frame old new

-- what an event does
abbrev pub Happens : Event → List Frame → LiveState → LiveState → Type 0
Happens (answer line) frames old new = AnswersLine line frames old new
Happens (report line) frames old new = Reports line frames old new
Happens (sweep line) frames old new = Sweeps line frames old new
Happens (group lines) frames old new = DoesGroup lines frames old new
Happens push frames old new = MakesPush frames old new

-- the lines that are answered
abbrev pub lines_in : List Event → List (Option (List ℕ))
lines_in [] = []
lines_in (answer line ∷ later) = line ∷ lines_in later
lines_in (report line ∷ later) = Some line ∷ lines_in later
lines_in (sweep line ∷ later) = Some line ∷ lines_in later
lines_in (group lines ∷ later) = lines ++ lines_in later
lines_in (push ∷ later) = lines_in later

-- how many of them are groups
abbrev pub groups_in : List Event → ℕ
groups_in [] = 0
groups_in (answer line ∷ later) = groups_in later
groups_in (report line ∷ later) = groups_in later
groups_in (sweep line ∷ later) = groups_in later
groups_in (group lines ∷ later) = groups_in later + 1
groups_in (push ∷ later) = groups_in later

-- ---- what it costs

-- a state, and how often blocks were read and the disk was synced until then
pub record Counted : Type 0 where
  pub live : LiveState
  pub reads : ℕ
  pub syncs : ℕ

-- how many blocks an event reads at most, where there is a bound
abbrev pub ReadsBy : Event → LiveState → ℕ → ℕ → Type 0
ReadsBy (answer line) old from to = ReadsLine line old.state from to
ReadsBy (report line) old from to = ReadsReportOver old.state.book (host_line line) from to
ReadsBy (sweep line) old from to = to ≤ from + step_reads
ReadsBy (group lines) old from to = to ≤ from + 96 * length lines
ReadsBy push old from to = ReadsPush old.pending old.state from to

-- the clears that a line asks for
abbrev pub clears_asked : HostLine → State → List Edit
clears_asked (Sweep rule) state = step_clears state rule
clears_asked ListLine state = []
clears_asked (Values name t0 t1) state = []
clears_asked (Sum session request) state = []
clears_asked (Bad at) state = []
clears_asked Other state = []

-- how often it syncs the disk at most: each clear of a step is one commit, and a group as its edits are committed together
abbrev pub SyncsBy : Event → LiveState → ℕ → ℕ → Type 0
SyncsBy (answer line) old from to = to ≤ from + 4 * length (edit_of line)
SyncsBy (report line) old from to = to ≡ from
SyncsBy (sweep line) old from to = to ≤ from + 4 * length (clears_asked (host_line line) old.state)
SyncsBy (group lines) old from to = to ≤ from + group_syncs old.state.total old.state.book (edits_of lines)
SyncsBy push old from to = to ≡ from

pub record Costs (event : Event) (old : LiveState) (reads reads' syncs syncs' : ℕ) : Type 0 where
  pub reads_few : ReadsBy event old reads reads'
  pub syncs_few : SyncsBy event old syncs syncs'

pub record HappensFor (event : Event) (frames : List Frame) (old new : Counted) : Type 0 where
  pub happens : Happens event frames old.live new.live
  pub costs : Costs event old.live old.reads new.reads old.syncs new.syncs
