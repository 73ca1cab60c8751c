-- The laws of fronts of what answers lines.
use Rattle.std.specs.Prelude.{◌≡◌, ℕ, ◌-◌, ◌≤◌, ◌^◌, List, [], ◌++◌, length, map, take, flat_map, All, Option, None}
use Rattle.std.specs.List.{filter}
use Rattle.block_disk.specs.View.{Image}
use Rattle.series_book.specs.declared.one_series.Series.{Series}
use Rattle.stored_book.specs.Standing.{RecoversTo}
use Rattle.chart_grid.specs.declared.grid.Grid.{Grid}
use Rattle.line_raster.specs.Canvas.{Canvas}
use Rattle.plain_chart.specs.declared.sample.Sample.{Sample}
use Rattle.plain_chart.specs.declared.value_range.ValueRange.{ValueRange}
use Rattle.plain_chart.specs.Chart.{IsChart}
use Rattle.pbm_writer.specs.Picture.{picture}
use Rattle.chart_frames.specs.declared.frame.Frame.{Frame}
use Rattle.chart_frames.specs.Frames.{spelling}
use Rattle.chart_frames.specs.Pending.{Pending}
use Rattle.chart_client.specs.declared.holding.Holding.{Holding}
use Rattle.chart_service.specs.State.{State, IsSound}
use Rattle.chart_service.specs.Serving.{RepliesToAll, AreSpelled}
use Rattle.chart_service.specs.Moments.{IsAhead}
use Rattle.chart_service.specs.Stepping.{state_of}
use Rattle.chart_service.specs.Alone.{only}
use Rattle.drawn_replies.specs.Pictures.{names}
use Rattle.draw_command.specs.Draws.{DrawsFirst, IsFront}
use Rattle.served_fronts.specs.Books.{Line, AreSaid, said_by, after_lines}
use Rattle.served_fronts.specs.Fronts.{whole_frames, SendsFirstPictures, SendsFirstOwn, Draws}
use Rattle.served_fronts.specs.Answers.{TellsSize, HasAnswers}
use Rattle.served_fronts.specs.Crashes.{KeepsLines}

-- Where some first frames of a front were drawn, and no frame stands whole behind them, they are those that stand whole in it.
abbrev pub FrontsDrawTheBook : Type 0
FrontsDrawTheBook =
    (lines : List Line) (frames : List Frame) (old new : State) (n : ℕ) (rest : Pending) (holdings : List Holding)
    (before now : Option (List ℕ))
    → IsSound old → old.sessions ≡ [] → RepliesToAll old lines frames new
    → DrawsFirst None (take n (flat_map spelling frames)) rest holdings before now → IsFront rest.rest
    → SendsFirstPictures old lines (whole_frames n frames) before now

-- The same of the frames of one session, from any state in which it isn't open.
abbrev pub OwnFrontsDrawTheBook : Type 0
OwnFrontsDrawTheBook =
    (m : ℕ) (lines : List Line) (frames : List Frame) (old new : State) (n : ℕ) (rest : Pending) (holdings : List Holding)
    (before now : Option (List ℕ))
    → IsSound old → only m old.sessions ≡ [] → RepliesToAll old lines frames new
    → DrawsFirst None (take n (flat_map spelling (filter (names m) frames))) rest holdings before now → IsFront rest.rest
    → SendsFirstOwn m old lines (whole_frames n (filter (names m) frames)) before now

-- A front that `draw` was given gives the pictures of the frames that stand whole in it, whatever end the drawing had.
abbrev pub DrawnFrontsAreTheBook : Type 0
DrawnFrontsAreTheBook =
    (lines : List Line) (frames : List Frame) (old new : State) (n : ℕ) (left before now : Option (List ℕ))
    → IsSound old → old.sessions ≡ [] → RepliesToAll old lines frames new → n ≤ 2 ^ 32
    → Draws (take n (flat_map spelling frames)) left before now → SendsFirstPictures old lines (whole_frames n frames) before now

-- The same of a front of one session's frames, from any state in which it isn't open.
abbrev pub DrawnOwnFrontsAreTheBook : Type 0
DrawnOwnFrontsAreTheBook =
    (m : ℕ) (lines : List Line) (frames : List Frame) (old new : State) (n : ℕ) (left before now : Option (List ℕ))
    → IsSound old → only m old.sessions ≡ [] → RepliesToAll old lines frames new → n ≤ 2 ^ 32
    → Draws (take n (flat_map spelling (filter (names m) frames))) left before now
    → SendsFirstOwn m old lines (whole_frames n (filter (names m) frames)) before now

-- Lines have their answers, and of a front of these their pictures are drawn.
abbrev pub LinesAreAnswered : Type 0
LinesAreAnswered =
    (lines : List Line) (frames : List Frame) (old new : State)
    → IsSound old → old.sessions ≡ [] → RepliesToAll old lines frames new → HasAnswers old lines frames

-- An image that a crash left while lines were answered, from a state in which no session is open, keeps the lines.
abbrev pub CrashesKeepTheLines : Type 0
CrashesKeepTheLines =
    (image : Image) (total : ℕ) (old : State) (input : List ℕ) (from count : ℕ)
    → IsSound old → old.sessions ≡ [] → old.total ≡ total → IsAhead AreSpelled input total old from image count
    → (from ≤ count) × KeepsLines image total old input (count - from)

-- The book after the replies to lines is the one after the lines.
abbrev pub BooksFollowTheLines : Type 0
BooksFollowTheLines =
    (lines : List Line) (frames : List Frame) (old new : State)
    → RepliesToAll old lines frames new → (new.book ≡ after_lines old.total old.book lines) × (new.total ≡ old.total)

-- What answers some first lines and what answers some first lines of the same ones have the same first bytes.
abbrev pub FirstBytesAgree : Type 0
FirstBytesAgree =
    (lines others behind more : List Line) (frames shown : List Frame) (old new state : State) (n : ℕ)
    → RepliesToAll old lines frames new → RepliesToAll old others shown state → lines ++ behind ≡ others ++ more
    → n ≤ length (flat_map spelling frames) → n ≤ length (flat_map spelling shown)
    → take n (flat_map spelling frames) ≡ take n (flat_map spelling shown)

-- The charts of the same samples have one picture.
abbrev pub ChartsHaveOnePicture : Type 0
ChartsHaveOnePicture =
    (grid : Grid) (range : ValueRange) (samples : List Sample) (first second : Canvas)
    → IsChart grid range samples first → IsChart grid range samples second → picture first ≡ picture second

-- Bytes are cut into answers in one way: of two cuts of bytes that begin alike the one with fewer answers is a front of the other.
abbrev pub BytesAreCutInOneWay : Type 0
BytesAreCutInOneWay =
    (first second : List (List ℕ)) (behind more : List ℕ) → All TellsSize first → All TellsSize second
    → flat_map (λ bytes. bytes) first ++ behind ≡ flat_map (λ bytes. bytes) second ++ more → length first ≤ length second
    → (later : List (List ℕ)) × (second ≡ first ++ later)

-- A line says what it is read as.
abbrev pub LinesSayWhatIsRead : Type 0
LinesSayWhatIsRead = (lines : List Line) → AreSaid lines (map said_by lines)

-- A store that recovers to a book begins a sound state, with no session open.
abbrev pub StoresBeginSound : Type 0
StoresBeginSound =
    (count total : ℕ) (image : Image) (book : List Series) → RecoversTo count image total book → IsSound (state_of book total [])
