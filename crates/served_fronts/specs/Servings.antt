-- What a serving gives of its run, in the words of frames and texts.
use Rattle.std.specs.Prelude.{◌≡◌, ℕ, ◌-◌, List, [], ◌++◌}
use Rattle.block_disk.specs.View.{Image}
use Rattle.series_book.specs.declared.one_series.Series.{Series}
use Rattle.stored_book.specs.Standing.{StandsForBook}
use Rattle.chart_frames.specs.declared.frame.Frame.{Frame}
use Rattle.chart_service.specs.State.{State, IsSound}
use Rattle.chart_service.specs.Serving.{told, RepliesToAll, AreSpelled}
use Rattle.chart_service.specs.Moments.{IsAhead}
use Rattle.chart_service.specs.Stepping.{state_of}
use Rattle.served_fronts.specs.Books.{Line}
use Rattle.served_fronts.specs.Texts.{AreTexts}
use Rattle.served_fronts.specs.Headline.{Run, IsExact}
use Rattle.served_fronts.specs.Headline.Task.{serves, runs}

-- The bytes sent begin the text of the frames that answer some first lines of the input; with status 0 they are that of all lines.
pub record SendsFirstBytes (IsText : List Line → List Frame → List ℕ
    → Type 0) (old : State) (input : List ℕ) (status : ℕ) (sent : List ℕ) : Type 0 where
  pub lines : List Line
  pub later : List Line
  pub split : told input ≡ lines ++ later
  pub frames : List Frame
  pub new : State
  pub replied : RepliesToAll old lines frames new
  pub text : List ℕ
  pub texts : IsText lines frames text
  pub unsent : List ℕ
  pub bytes : text ≡ sent ++ unsent
  pub all : status ≡ 0 → (later ≡ []) × (unsent ≡ [])

-- Where a serving sent such bytes over a book, and a crash left such pages, its run was exact.
abbrev pub ServingsAreExact : Type 0
ServingsAreExact =
    (total : ℕ) (book : List Series) (run : Run) (pages : Image) (from count : ℕ)
    → IsSound (state_of book total []) → SendsFirstBytes AreSpelled (state_of book total []) run.input run.status run.sent
    → IsAhead AreSpelled run.input total (state_of book total []) from pages count → run.by_then ≡ count - from
    → (next : List Series) × IsExact serves total book run next × StandsForBook pages total next

-- The same of a run that sent texts.
abbrev pub TextsAreExact : Type 0
TextsAreExact =
    (total : ℕ) (book : List Series) (run : Run) (pages : Image) (from count : ℕ)
    → SendsFirstBytes (AreTexts (state_of book total [])) (state_of book total []) run.input run.status run.sent
    → IsAhead (AreTexts (state_of book total [])) run.input total (state_of book total []) from pages count
    → run.by_then ≡ count - from
    → (next : List Series) × IsExact runs total book run next × StandsForBook pages total next
