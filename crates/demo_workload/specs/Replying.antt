-- What requests are answered one after the other, the pictures of the replies, and the book that they leave.
use Rattle.std.specs.Prelude.{ℕ, ◌≡◌, ◌++◌, List, [], ◌∷◌, Option}
use Rattle.block_disk.specs.View.{Image, View, Passes}
use Rattle.gate_pages.specs.Pages.{Quiet}
use Rattle.line_raster.specs.Canvas.{Canvas}
use Rattle.request_lines.specs.declared.requests.Request.{Request}
use Rattle.chart_frames.specs.declared.frame.Frame.{Frame}
use Rattle.stored_book.specs.Standing.{StandsForBook}
use Rattle.chart_service.specs.State.{State}
use Rattle.series_book.specs.declared.one_series.Series.{Series}
use Rattle.chart_service.specs.Stepping.{RepliedTo, state_of}
use Rattle.drawn_replies.specs.Mirrors.{IsPictureOf}
use Rattle.demo_workload.specs.declared.summaries.Summary.{Summary}
use Rattle.demo_workload.specs.Summaries.{summary_of}

-- Each request is answered by its frame, in the state that the requests before it left.
abbrev pub AnswersEach : State → List Request → List Frame → State → Type 0
AnswersEach old [] [] new = new ≡ old
AnswersEach old [] (frame ∷ frames) new = ⊥
AnswersEach old (request ∷ requests) [] new = ⊥
AnswersEach old (request ∷ requests) (frame ∷ frames) new =
    (between : State) × RepliedTo request frame old between × AnswersEach between requests frames new

-- The same, and each of these pictures is that of its frame: of the book as it is at that request, where the frame
-- answers a view.
abbrev pub PicturesEach : State → List Request → List Frame → List (Option Canvas) → State → Type 0
PicturesEach old [] frames pictures new = (frames ≡ []) × (pictures ≡ []) × (new ≡ old)
PicturesEach old (request ∷ requests) [] pictures new = ⊥
PicturesEach old (request ∷ requests) (frame ∷ frames) [] new = ⊥
PicturesEach old (request ∷ requests) (frame ∷ frames) (picture ∷ pictures) new =
    (between : State) × RepliedTo request frame old between × IsPictureOf old between frame picture
    × PicturesEach between requests frames pictures new

-- the summary is that of the replies to the requests and of their pictures
pub record Summarizes (requests : List Request) (old new : State) (summary : Summary) : Type 0 where
  pub frames : List Frame
  pub pictures : List (Option Canvas)
  pub replied : PicturesEach old requests frames pictures new
  pub sums : summary ≡ summary_of frames pictures

-- the pages stand for the book that some first requests leave
pub record IsPartWay (requests : List Request) (total : ℕ) (old : State) (image : Image) : Type 0 where
  pub first : List Request
  pub rest : List Request
  pub split : requests ≡ first ++ rest
  pub frames : List Frame
  pub new : State
  pub answered : AnswersEach old first frames new
  pub stands : StandsForBook image total new.book

-- at each moment from old to new a crash leaves such pages, and no byte is sent
abbrev pub PassesPartWay : List Request → ℕ → List Series → View → View → Type 0
PassesPartWay requests total book old new = Passes old new (IsPartWay requests total (state_of book total [])) (Quiet old)
