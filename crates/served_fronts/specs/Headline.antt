-- What is promised of served charts, over any list of runs, each begun on what a crash of the one before left: where lines are
-- served, or answered by texts, no acknowledged edit is lost, and of any front of a serving's answers `draw` sends the pictures of
-- the book as it was at each view's line. Of runs that watch, look or change less is said (IsExact). Books.antt has the book after
-- lines, Answers.antt what is said to lines and what is drawn of it; this is the rest, in the order in which it is needed. The
-- program comes in by IsRun alone.
use Rattle.std.specs.Prelude.{⊤, ◌≡◌, ℕ, ◌+◌, ◌≤◌, List, [], ◌∷◌, ◌++◌, length, take, Option}
use Rattle.series_book.specs.declared.one_series.Series.{Series}
use Rattle.block_disk.specs.View.{Image}
use Rattle.stored_book.specs.Standing.{RecoversTo}
use Rattle.chart_service.specs.Serving.{told}
use Rattle.request_lines.specs.declared.requests.Request.{Request}
use Rattle.served_fronts.specs.Books.{Line, AreSaid, after_requests}
use Rattle.served_fronts.specs.Answers.{Answer, AreAnswers, AreFrames, bytes_of, whole_in}
use Rattle.served_fronts.specs.Texts.{AreTexted}

-- ---- runs

-- What a run is for: it serves lines (the command `serve`), it answers them by texts (`run`), it answers them and follows views
-- (`live`, and `host` where no line asks for a sweep), it leaves the book alone, or it changes the book otherwise. Of each command
-- `task_of` says it (crates/chart_program/specs/Exact.antt).
pub data Task : Type 0 where
  serves : Task
  runs : Task
  watches : Task
  looks : Task
  changes : Task

-- A run over a disk, told to its end, and a crash at one of its moments, or at the end: what stood on the disk at first, the input,
-- all bytes that the run sends by its end, its status there, how many of them were sent by the crash, and what the crash left. Where
-- the power failed, no byte behind these was sent.
pub record Run : Type 0 where
  pub task : Task
  pub begins : Image
  pub input : List ℕ
  pub sent : List ℕ
  pub status : ℕ
  pub by_then : ℕ
  pub left : Image

-- ---- what is promised of a run

-- Some first ones of the lines of the input that aren't empty (`told`) say these requests, and the replies of these answers fit
-- them, over a book and with no session open.
pub record AnswersFirst (total : ℕ) (book : List Series) (input : List ℕ) (requests : List (Option Request))
    (answers : List Answer) : Type 0 where
  pub lines : List Line
  pub later : List Line
  pub split : told input ≡ lines ++ later
  pub said : AreSaid lines requests
  pub fit : AreAnswers total book [] requests answers

-- All bytes that the run sends are the first ones of such answers, for which AreSo holds: AreFrames, of which `draw` makes the
-- right pictures, or AreTexted, in which the pictures stand. With status 0 they are all bytes of the answers to all lines.
pub record Says (AreSo : List Answer → Type 0) (total : ℕ) (book : List Series) (run : Run) : Type 0 where
  pub requests : List (Option Request)
  pub answers : List Answer
  pub first : AnswersFirst total book run.input requests answers
  pub are : AreSo answers
  pub unsent : List ℕ
  pub bytes : bytes_of answers ≡ run.sent ++ unsent
  pub all : run.status ≡ 0 → (first.later ≡ []) × (unsent ≡ [])

-- The next book is that after some first lines. All bytes sent by the crash are the first ones of the answers to these: so it has
-- each edit whose answer stands whole in them. At most 64 of these lines have answers that don't.
pub record LeavesBook (total : ℕ) (book : List Series) (run : Run) (next : List Series) : Type 0 where
  pub requests : List (Option Request)
  pub answers : List Answer
  pub first : AnswersFirst total book run.input requests answers
  pub are : AreFrames answers
  pub unsent : List ℕ
  pub bytes : bytes_of answers ≡ take run.by_then run.sent ++ unsent
  pub few : length answers ≤ length (whole_in run.by_then answers) + 64
  pub next_is : next ≡ after_requests total book requests

-- The same of texts. The lines of `requests` have texts, which begin with all that was sent by the crash; those of `ahead`, behind
-- them, are done too, and nothing was sent for them. Of both together at most 64 have no text that was sent whole.
pub record LeavesAhead (total : ℕ) (book : List Series) (run : Run) (next : List Series) : Type 0 where
  pub requests : List (Option Request)
  pub ahead : List (Option Request)
  pub texts : List Answer
  pub lines : List Line
  pub later : List Line
  pub split : told run.input ≡ lines ++ later
  pub said : AreSaid lines (requests ++ ahead)
  pub fit : AreAnswers total book [] requests texts
  pub are : AreTexted texts
  pub unsent : List ℕ
  pub bytes : bytes_of texts ≡ take run.by_then run.sent ++ unsent
  pub few : length lines ≤ length (whole_in run.by_then texts) + 64
  pub next_is : next ≡ after_requests total book (requests ++ ahead)

-- the next book is that after some first lines; what was sent isn't looked at
pub record LeavesLines (total : ℕ) (book : List Series) (input : List ℕ) (next : List Series) : Type 0 where
  pub lines : List Line
  pub later : List Line
  pub split : told input ≡ lines ++ later
  pub requests : List (Option Request)
  pub said : AreSaid lines requests
  pub next_is : next ≡ after_requests total book requests

-- From one book to the next a run was exact. Of runs that watch or look nothing is said of the bytes sent, and of those that change
-- the book otherwise nothing at all.
abbrev pub IsExact : Task → ℕ → List Series → Run → List Series → Type 0
IsExact serves total book run next = Says AreFrames total book run × LeavesBook total book run next
IsExact runs total book run next = Says AreTexted total book run × LeavesAhead total book run next
IsExact watches total book run next = LeavesLines total book run.input next
IsExact looks total book run next = next ≡ book
IsExact changes total book run next = ⊤

-- ---- what is taken of each run: the clause `exact` of the program's call gives it (crates/chart_program/src/top.rt)

-- Where the disk, which has `count` pages, stood for a book that may take `total` of them, the run was exact from it to some next book,
-- and what the crash left stands for that one. Of a run over a disk that stands for no book nothing is taken.
abbrev pub IsRun : ℕ → Run → Type 0
IsRun count run =
    (total : ℕ) (book : List Series) → RecoversTo count run.begins total book
    → (next : List Series) × IsExact run.task total book run next × RecoversTo count run.left total next

-- ---- many runs

-- each run begins on what a crash of the one before left
abbrev pub AreRuns : ℕ → Image → List Run → Type 0
AreRuns count image [] = ⊤
AreRuns count image (run ∷ later) = (run.begins ≡ image) × IsRun count run × AreRuns count run.left later

-- from book to book each run was exact
abbrev pub AreExact : ℕ → List Series → List Run → Type 0
AreExact total book [] = ⊤
AreExact total book (run ∷ later) = (next : List Series) × IsExact run.task total book run next × AreExact total next later

-- Over a disk that stands for a book, whatever runs follow and wherever they crash, each of them is exact from the book that the
-- one before left.
abbrev pub ChartsAreExact : Type 0
ChartsAreExact =
    (count total : ℕ) (book : List Series) (image : Image) (list : List Run)
    → RecoversTo count image total book → AreRuns count image list → AreExact total book list
