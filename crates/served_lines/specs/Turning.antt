-- What is answered of lines, what is kept back of them, and what that costs.
use Rattle.std.specs.Prelude.{◌≡◌, ℕ, ◌+◌, ◌*◌, ◌≤◌, ◌⊎◌, List, [], ◌∷◌, ◌++◌, length, Option, None, Some, ⊤}
use Rattle.std.specs.Borrow.{GName}
use Rattle.block_disk.specs.Streams.{sent_after}
use Rattle.block_disk.specs.View.{Image}
use Rattle.chart_frames.specs.declared.frame.Frame.{Frame}
use Rattle.line_runs.specs.Given.{Given, Line, Pause, End}
use Rattle.series_book.specs.declared.edits.Edit.{Edit}
use Rattle.series_book.specs.EditLists.{after_edits}
use Rattle.series_store.specs.Groups.{weight}
use Rattle.stored_book.specs.Standing.{StandsForBook}
use Rattle.zoom_session.specs.declared.session.Session.{Session}
use Rattle.zoom_session.specs.Sessions.{is_open}
use Rattle.chart_service.specs.EditGroups.{SpellEdits}
use Rattle.chart_service.specs.Blaming.{BlamesEnd, GivesLast}
use Rattle.chart_service.specs.Making.{Makes, AreMade, LinesStop, LinesMoments}
use Rattle.chart_service.specs.Naming.{GivesFirst}
use Rattle.chart_service.specs.ReadingBlocks.{ReadsLine, ReadsInTurn}
use Rattle.chart_service.specs.Serving.{RepliesToAll, most_ahead, unless_empty}
use Rattle.chart_service.specs.State.{State}
use Rattle.chart_service.specs.Syncing.{edits_of}
use Rattle.chart_service.specs.declared.failure.AnswerEnd.{AnswerEnd}

-- what stands over a book: what replies keep, the state, the lines that are kept back, what was sent, and how often blocks
-- were read and the disk was synced
pub record Held (S : Type 0) : Type 0 where
  pub kept : S
  pub state : State
  pub ahead : List (Option (List ℕ))
  pub sent : Option (List ℕ)
  pub reads : ℕ
  pub syncs : ℕ

-- what is known whatever the pages are: what replies keep behind the reference of this name, the lines that are kept back, and
-- the open sessions
pub record Named (S : Type 0) : Type 0 where
  pub name : GName
  pub kept : S
  pub ahead : List (Option (List ℕ))
  pub sessions : List Session

pub data Stand (S : Type 0) : Type 0 where
  Any : Named S → Stand S
  Over : Held S → Stand S

-- the lines of what is given, and how many pauses it is
abbrev pub lines_of : Given → List (Option (List ℕ))
lines_of (Line at line) = unless_empty line
lines_of Pause = []
lines_of End = []

abbrev pub pauses_of : Given → ℕ
pauses_of (Line at line) = 0
pauses_of Pause = 1
pauses_of End = 0

-- ---- lines that are answered

-- Of the lines kept back and these behind them some first were answered, in this text, and the others are kept back.
pub record Answered {S F : Type 0} (makes : Makes S F) (old new : Held S) (lines : List (Option (List ℕ))) (text : List ℕ) : Type 0 where
  pub front : List (Option (List ℕ))
  pub split : old.ahead ++ lines ≡ front ++ new.ahead
  pub frames : List Frame
  pub replied : RepliesToAll old.state front frames new.state
  pub made : AreMade makes old.kept new.kept front frames text
  pub sent : new.sent ≡ sent_after text old.sent
  pub reads : ReadsInTurn old.state front frames new.state old.reads new.reads
  pub total_is : new.state.total ≡ old.state.total
  pub book_is : new.state.book ≡ after_edits old.state.total old.state.book (edits_of front)

-- Lines are given, with so many pauses, and these edits are done: the disk is synced at most four times for each other line,
-- for each pause, for each 64 edits and for each 22 of their weight.
pub record Costs (state : State) (done : List Edit) (lines : List (Option (List ℕ))) (pauses old new : ℕ) : Type 0 where
  pub others : ℕ
  pub counted : length lines ≡ others + length (edits_of lines)
  pub full : ℕ
  pub heavy : ℕ
  pub few : new ≤ old + 4 * (others + pauses + full + heavy)
  pub full_paid : full * 64 ≤ length done
  pub heavy_paid : heavy * 22 ≤ weight state.total state.book done

-- lines are given, with so many pauses
pub record Turn {S F : Type 0} (makes : Makes S F) (old new : Held S) (lines : List (Option (List ℕ))) (pauses : ℕ)
    (text : List ℕ) : Type 0 where
  pub answered : Answered makes old new lines text
  pub costs : Costs old.state (edits_of answered.front) lines pauses old.syncs new.syncs

-- what is given when a pause comes isn't kept back
abbrev pub KeepsNone : Given → List (Option (List ℕ)) → Type 0
KeepsNone (Line at line) ahead = ⊤
KeepsNone Pause ahead = ahead ≡ []
KeepsNone End ahead = ⊤

-- frames were given to these lines one after the other, in this text
abbrev pub GivesText : {S F : Type 0} → Makes S F → Named S → Named S → List (Option (List ℕ)) → List ℕ → Type 0
GivesText makes old new front text =
    (before now : Option (List ℕ)) → now ≡ sent_after text before
    → GivesLast makes front old.kept new.kept old.sessions new.sessions before now

-- of the lines kept back and these behind them some first were given frames, and the others are kept back
pub record GivesSome {S F : Type 0} (makes : Makes S F) (old new : Named S) (lines : List (Option (List ℕ))) (text : List ℕ) : Type 0 where
  pub same_reference : new.name ≡ old.name
  pub front : List (Option (List ℕ))
  pub split : old.ahead ++ lines ≡ front ++ new.ahead
  pub gives : GivesText makes old new front text

abbrev pub Does : {S F : Type 0} → Makes S F → Stand S → Given → List ℕ → Stand S → Type 0
Does makes (Any old) it text (Any new) = GivesSome makes old new (lines_of it) text × KeepsNone it new.ahead
Does makes (Any old) it text (Over new) = ⊥
Does makes (Over old) it text (Any new) = ⊥
Does makes (Over old) it text (Over new) = Turn makes old new (lines_of it) (pauses_of it) text × KeepsNone it new.ahead

-- ---- lines on their way

-- some first of the lines kept back and of these were answered, and the next ones are on their way
pub record Begun {S F : Type 0} (makes : Makes S F) (old : Held S) (lines : List (Option (List ℕ))) : Type 0 where
  pub text : List ℕ
  pub between : Held S
  pub answered : Answered makes old between [] text
  pub next : List (Option (List ℕ))
  pub later : List (Option (List ℕ))
  pub next_are : between.ahead ++ lines ≡ next ++ later
  pub some : 1 ≤ length (between.ahead ++ lines)
  pub few : length next ≤ most_ahead

-- what lines read that weren't answered: the line that is given, where none is kept back, as much as it may, edits at most
-- 96 blocks each
abbrev pub ReadsNext : List (Option (List ℕ)) → List (Option (List ℕ)) → List (Option (List ℕ)) → State → ℕ → ℕ → Type 0
ReadsNext ahead given next state from to =
    ((line : Option (List ℕ)) × (ahead ≡ []) × (given ≡ line ∷ []) × ReadsLine line state from to)
    ⊎ ((edits : List Edit) × SpellEdits next edits × (length edits ≤ most_ahead) × (to ≤ from + 96 * length edits))

-- what some first of these lines cost
pub record CostsSome (old : State) (all lines : List (Option (List ℕ))) (pauses from to : ℕ) : Type 0 where
  pub front : List (Option (List ℕ))
  pub rest : List (Option (List ℕ))
  pub split : all ≡ front ++ rest
  pub costs : Costs old (edits_of front) lines pauses from to

-- Lines stopped the answering. Some were answered before; the next ones weren't, or the bytes of their frames weren't made
-- or sent.
pub record StopsSo {S F : Type 0} (makes : Makes S F) (old : Held S) (it : Given) (kept : S) (image : Image)
    (sessions : List Session) (now : Option (List ℕ)) (reads syncs : ℕ) (end : AnswerEnd F) : Type 0 where
  pub begun : Begun makes old (lines_of it)
  pub why : LinesStop makes begun.next begun.between.kept kept begun.between.state image sessions begun.between.sent now end
  pub reads_next : ReadsNext begun.between.ahead (lines_of it) begun.next begun.between.state begun.between.reads reads
  pub costs : CostsSome old.state (old.ahead ++ lines_of it) (lines_of it) (pauses_of it) old.syncs syncs

-- Frames were given, and it stopped behind some first of them. A page is called damaged by the line behind the answered ones.
pub record StopsAt {S F : Type 0} (makes : Makes S F) (old : Named S) (it : Given) (name : GName) (kept : S) (told : Type 0) (count : ℕ)
    (image : Image) (before now : Option (List ℕ)) (end : AnswerEnd F) : Type 0 where
  pub same_reference : name ≡ old.name
  pub gives : GivesFirst makes old.kept kept (λ n. is_open n old.sessions) before now end
  pub blames : BlamesEnd makes (old.ahead ++ lines_of it) old.kept kept old.sessions before now told count image end

-- what a crash leaves meanwhile, where lines began after so many bytes
pub record LeavesSo {S F : Type 0} (makes : Makes S F) (old : Held S) (it : Given) (from : ℕ) (image : Image) (count : ℕ) : Type 0 where
  pub begun : Begun makes old (lines_of it)
  pub moments : LinesMoments makes begun.between.kept begun.next begun.between.state (from + length begun.text) image count

abbrev pub Leaves : {S F : Type 0} → Makes S F → Stand S → Given → ℕ → Image → ℕ → Type 0
Leaves makes (Any old) it from image count = ⊤
Leaves makes (Over old) it from image count = LeavesSo makes old it from image count

-- between lines a crash leaves the book
abbrev pub Rests : {S : Type 0} → Stand S → Image → Type 0
Rests (Any old) image = ⊤
Rests (Over old) image = StandsForBook image old.state.total old.state.book

-- the bytes sent are told, so what a crash leaves is too
abbrev pub AreTold : Option (List ℕ) → Type 0
AreTold None = ⊥
AreTold (Some bytes) = ⊤

abbrev pub Lasting : {S : Type 0} → Stand S → Type 0
Lasting (Any old) = ⊥
Lasting (Over old) = AreTold old.sent
