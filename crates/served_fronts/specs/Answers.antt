-- What is said to the lines of an input, in the words of books, sessions, views and pictures.
use Rattle.std.specs.Prelude.{⊤, ◌≡◌, ℕ, ℤ, ◌+◌, ◌*◌, ◌-◌, ◌<◌, ◌≤◌, ◌^◌, ◌+ℤ◌, ◌⊎◌, ◌==◌, ◌||◌, nat_le, nat_lt, if◌then◌else◌}
use Rattle.std.specs.Prelude.{Bool, false, List, [], ◌∷◌, ◌++◌, length, map, take, drop, flat_map, All, Option, None, Some, is_some}
use Rattle.std.specs.Prelude.{IsTrue, Result, Ok, Err, slice_get}
use Rattle.std.specs.List.{filter, list_any}
use Rattle.series_book.specs.declared.one_series.Series.{Series}
use Rattle.series_book.specs.declared.refusals.Refusal.{Refusal}
use Rattle.series_book.specs.Edits.{Edited, apply, id_of}
use Rattle.request_lines.specs.declared.requests.Request.{Request}
use Rattle.request_lines.specs.declared.requests.Request.TheVariants.{Edit, Open, View, Zoom, Pan, Close}
use Rattle.request_lines.specs.declared.ranges.RangeWord.{RangeWord}
use Rattle.value_filter.specs.declared.steps.Step.{Step}
use Rattle.value_filter.specs.Expressions.{Expression}
use Rattle.value_filter.specs.Grammar.{IsFilter}
use Rattle.value_filter.specs.Steps.{postfix}
use Rattle.zoom_session.specs.declared.view_spec.ViewSpec.{ViewSpec}
use Rattle.chart_grid.specs.Limits.{IsBadWindow, IsBadSide}
use Rattle.chart_grid.specs.Projection.{ShowsWindow, HasCanvas}
use Rattle.chart_service.specs.Viewing.{range_spec, IsBadRange, ShowsRange, kept_by}
use Rattle.chart_service.specs.Replies.{cache_of}
use Rattle.plain_chart.specs.declared.sample.Sample.{Sample}
use Rattle.plain_chart.specs.declared.value_range.ValueRange.{ValueRange}
use Rattle.plain_chart.specs.Samples.{values_of}
use Rattle.plain_chart.specs.Chart.{IsChart}
use Rattle.line_raster.specs.Canvas.{Canvas, black_at}
use Rattle.chart_grid.specs.declared.grid.Grid.{Grid}
use Rattle.pbm_writer.specs.Picture.{picture}
use Rattle.block_disk.specs.Streams.{sent_after}
use Rattle.chart_frames.specs.declared.frame.Frame.{Frame}
use Rattle.chart_frames.specs.Format.{number_in}
use Rattle.chart_frames.specs.Frames.{spelling}
use Rattle.chart_service.specs.State.{State}
use Rattle.served_fronts.specs.Books.{Line, said_by, after_request}
use Rattle.served_fronts.specs.Fronts.{Draws, Covers}

-- ---- sessions

-- A session that is open: its number, how many coefficients its client keeps, and the view that it was answered last.
pub record OpenSession : Type 0 where
  pub number : ℕ
  pub cache : ℕ
  pub last : Option ViewSpec

-- the open session of a number
abbrev pub session_at : ℕ → List OpenSession → Option OpenSession
session_at n [] = None
session_at n (s ∷ ss) = if s.number == n then Some s else session_at n ss

abbrev pub is_there : ℕ → List OpenSession → Bool
is_there n sessions = list_any (λ s. s.number == n) sessions

-- a session can't be opened: it is open, 16 are, or its client would keep no coefficient, or more than 131,072
abbrev pub cant_open : ℕ → ℕ → List OpenSession → Bool
cant_open n cache sessions = is_there n sessions || (nat_le 16 (length sessions) || (nat_lt cache 1 || nat_lt 131072 cache))

-- the sessions without the one of a number
abbrev pub without : ℕ → List OpenSession → List OpenSession
without n [] = []
without n (s ∷ ss) = if s.number == n then ss else s ∷ without n ss

-- the sessions behind a view that was answered in the one of a number
abbrev pub with_view : ℕ → ViewSpec → List OpenSession → List OpenSession
with_view n view [] = []
with_view n view (s ∷ ss) =
    if s.number == n then record { number = s.number; cache = s.cache; last = Some view } ∷ ss else s ∷ with_view n view ss

-- ---- what is said to a line

-- An edit was done; a session was opened, whose client keeps so many coefficients, or one was closed; a view was answered in one,
-- which keeps these samples; or an edit or another line was refused.
pub data Reply : Type 0 where
  applied : Reply
  opened : ℕ → ℕ → Reply
  closed : ℕ → Reply
  shown : ℕ → ViewSpec → List Sample → Reply
  refused : Reply

abbrev pub after_reply : List OpenSession → Reply → List OpenSession
after_reply sessions applied = sessions
after_reply sessions (opened n cache) = sessions ++ record { number = n; cache = cache; last = None } ∷ []
after_reply sessions (closed n) = without n sessions
after_reply sessions (shown n view samples) = with_view n view sessions
after_reply sessions refused = sessions

-- the samples are those that the view keeps of its series, as it is in the book
pub record Keeps (book : List Series) (view : ViewSpec) (samples : List Sample) : Type 0 where
  pub series : Series
  pub stored : slice_get book view.series ≡ Some series
  pub are : samples ≡ kept_by view series

-- a text, where there is one, spells this filter
abbrev pub HasFilter : Option (List ℕ) → Option (List Step) → Type 0
HasFilter None filter = filter ≡ None
HasFilter (Some text) filter = (f : Expression) × IsFilter text f × (filter ≡ Some (postfix f))

-- it spells none
abbrev pub IsBadFilter : Option (List ℕ) → Type 0
IsBadFilter None = ⊥
IsBadFilter (Some text) = (f : Expression) → IsFilter text f → ⊥

-- the book has no series of this name
abbrev pub HasNone : List Series → List ℕ → Type 0
HasNone book name = (id : ℕ) (series : Series) → id_of name book ≡ Some id → slice_get book id ≡ Some series → ⊥

-- A view on so many columns may need more coefficients than a client keeps: on each of 35 levels one for each border between
-- columns, and two for each column.
abbrev pub MayLack : ℕ → ℕ → Type 0
MayLack cache w = cache < (3 * w + 1) * 35

-- the view that a line asks for
pub record IsAsked (book : List Series) (name : List ℕ) (w h : ℕ) (t0 t1 : ℤ) (word : RangeWord) (text : Option (List ℕ))
    (view : ViewSpec) : Type 0 where
  pub series : id_of name book ≡ Some view.series
  pub window : ShowsWindow view.grid t0 t1
  pub canvas : HasCanvas view.grid w h
  pub range : view.range ≡ range_spec word
  pub filter : HasFilter text view.filter

-- The causes for which a session may be refused it: without any it is shown. Where MayLack alone holds it may be either.
abbrev pub CantShow : List Series → List ℕ → ℕ → ℕ → ℤ → ℤ → RangeWord → Option (List ℕ) → OpenSession → Type 0
CantShow book name w h t0 t1 word text s =
    IsBadFilter text ⊎ (HasNone book name ⊎ (IsBadWindow t0 t1 ⊎ ((IsBadSide w ⊎ IsBadSide h) ⊎ (IsBadRange word
    ⊎ ((text ≡ None) × MayLack s.cache w)))))

-- a view over another window
pub record IsOver (last : ViewSpec) (window : ℤ × ℤ) (view : ViewSpec) : Type 0 where
  pub series : view.series ≡ last.series
  pub shows : ShowsWindow view.grid window.0 window.1
  pub canvas : HasCanvas view.grid last.grid.w last.grid.h
  pub range : view.range ≡ last.range
  pub filter : view.filter ≡ last.filter

-- the last view of a session over another window, and why the session isn't answered it
abbrev pub IsMoved : (ViewSpec → ℤ × ℤ) → OpenSession → ViewSpec → Type 0
IsMoved window s view = (last : ViewSpec) × (s.last ≡ Some last) × IsOver last (window last) view

abbrev pub CantMove : (ViewSpec → ℤ × ℤ) → OpenSession → Type 0
CantMove window s =
    (s.last ≡ None) ⊎ ((last : ViewSpec) × (s.last ≡ Some last)
    × (IsBadWindow (window last).0 (window last).1 ⊎ ((last.filter ≡ None) × MayLack s.cache last.grid.w)))

-- A reply in the session of a number: the view that is asked for is shown, or there is a cause why it isn't.
abbrev pub FitsIn : List Series → ℕ → (OpenSession → ViewSpec → Type 0) → (OpenSession → Type 0) → Option OpenSession → Reply → Type 0
FitsIn book n Asks Cant None reply = reply ≡ refused
FitsIn book n Asks Cant (Some s) applied = ⊥
FitsIn book n Asks Cant (Some s) (opened m cache) = ⊥
FitsIn book n Asks Cant (Some s) (closed m) = ⊥
FitsIn book n Asks Cant (Some s) (shown m view samples) = (m ≡ n) × Asks s view × Keeps book view samples
FitsIn book n Asks Cant (Some s) refused = Cant s

-- an edit is done or refused
abbrev pub reply_of : Result Edited Refusal → Reply
reply_of (Ok edited) = applied
reply_of (Err refusal) = refused

-- a reply fits a request, over this book, which may take so many pages, and these open sessions
abbrev pub FitsRequest : ℕ → List Series → List OpenSession → Request → Reply → Type 0
FitsRequest total book sessions (Edit edit) reply = reply ≡ reply_of (apply book total edit)
FitsRequest total book sessions (Open n cache) reply =
    reply ≡ (if cant_open n (cache_of cache) sessions then refused else opened n (cache_of cache))
FitsRequest total book sessions (View n name w h t0 t1 word text) reply =
    FitsIn book n (λ s view. IsAsked book name w h t0 t1 word text view) (CantShow book name w h t0 t1 word text)
    (session_at n sessions) reply
FitsRequest total book sessions (Zoom n t0 t1) reply =
    FitsIn book n (IsMoved (λ last. (t0, t1))) (CantMove (λ last. (t0, t1))) (session_at n sessions) reply
FitsRequest total book sessions (Pan n by) reply =
    FitsIn book n (IsMoved (λ last. (last.grid.t0 +ℤ by, last.grid.t1 +ℤ by))) (CantMove (λ last. (last.grid.t0 +ℤ by, last.grid.t1 +ℤ by)))
    (session_at n sessions) reply
FitsRequest total book sessions (Close n) reply = reply ≡ (if is_there n sessions then closed n else refused)

-- a reply fits what a line says
abbrev pub FitsSaid : ℕ → List Series → List OpenSession → Option Request → Reply → Type 0
FitsSaid total book sessions None reply = reply ≡ refused
FitsSaid total book sessions (Some request) reply = FitsRequest total book sessions request reply

-- ---- answers, with their bytes

-- the bytes that are sent for a line, and what they say
pub record Answer : Type 0 where
  pub bytes : List ℕ
  pub reply : Reply

-- The kind of a reply: of a view that is shown by the samples' coefficients, or with a filter by its rows.
abbrev pub kind_of : Reply → ℕ
kind_of applied = 1
kind_of refused = 2
kind_of (opened n cache) = 3
kind_of (closed n) = 4
kind_of (shown n view samples) = if is_some view.filter then 6 else 5

-- the number in the first four of these bytes, the highest first, tells how many follow
abbrev pub TellsSize : List ℕ → Type 0
TellsSize bytes = length bytes ≡ 4 + number_in 4 bytes

-- The bytes of one answer of `serve`, and no more: they tell their size, so that bytes are cut into answers in one way, and then
-- the kind of the reply.
pub record IsFrame (reply : Reply) (bytes : List ℕ) : Type 0 where
  pub size : TellsSize bytes
  pub kind : number_in 1 (drop 4 bytes) ≡ kind_of reply

-- each request has its answer, over the book and the open sessions that those before it left
abbrev pub AreAnswers : ℕ → List Series → List OpenSession → List (Option Request) → List Answer → Type 0
AreAnswers total book sessions [] [] = ⊤
AreAnswers total book sessions [] (answer ∷ later) = ⊥
AreAnswers total book sessions (request ∷ requests) [] = ⊥
AreAnswers total book sessions (request ∷ requests) (answer ∷ later) =
    FitsSaid total book sessions request answer.reply
    × AreAnswers total (after_request total book request) (after_reply sessions answer.reply) requests later

abbrev pub bytes_of : List Answer → List ℕ
bytes_of answers = flat_map (λ answer. answer.bytes) answers

-- the answers that stand whole in the first so many of their bytes
abbrev pub whole_in : ℕ → List Answer → List Answer
whole_in n [] = []
whole_in n (answer ∷ later) = if nat_le (length answer.bytes) n then answer ∷ whole_in (n - length answer.bytes) later else []

-- ---- pictures

-- the drawing is the chart of the samples that a view keeps, over the range that it asks for or over that of their values
pub record IsDrawing (view : ViewSpec) (samples : List Sample) (drawing : Canvas) : Type 0 where
  pub range : ValueRange
  pub over : ShowsRange view.range (values_of samples) range
  pub chart : IsChart view.grid range samples drawing

-- the bytes are the picture of such a drawing
abbrev pub IsPicture : ViewSpec → List Sample → List ℕ → Type 0
IsPicture view samples bytes = (drawing : Canvas) × IsDrawing view samples drawing × (bytes ≡ picture drawing)

-- a view that is shown has its picture, and no other reply has one
abbrev pub HasPicture : Reply → List ℕ → Type 0
HasPicture applied bytes = bytes ≡ []
HasPicture (opened n cache) bytes = bytes ≡ []
HasPicture (closed n) bytes = bytes ≡ []
HasPicture (shown n view samples) bytes = IsPicture view samples bytes
HasPicture refused bytes = bytes ≡ []

-- the bytes are the pictures of the answers, one behind the other
abbrev pub ArePictures : List Answer → List ℕ → Type 0
ArePictures [] bytes = bytes ≡ []
ArePictures (answer ∷ later) bytes =
    (first : List ℕ) × (rest : List ℕ) × HasPicture answer.reply first × ArePictures later rest × (bytes ≡ first ++ rest)

-- ---- one session

-- whether a reply is said in the session of a number, and the answers that are
abbrev pub says_in : ℕ → Reply → Bool
says_in m applied = false
says_in m (opened n cache) = n == m
says_in m (closed n) = n == m
says_in m (shown n view samples) = n == m
says_in m refused = false

abbrev pub said_in : ℕ → List Answer → List Answer
said_in m answers = filter (λ answer. says_in m answer.reply) answers

-- What a client may get of answers: all of them, or those of one session from one of its openings on.
abbrev pub Reach : List Answer → List Answer → Type 0
Reach answers got =
    (got ≡ answers)
    ⊎ ((m : ℕ) × (cache : ℕ) × (before : List Answer) × (opening : Answer) × (behind : List Answer) × (opening.reply ≡ opened m cache)
    × (answers ≡ before ++ opening ∷ behind) × (got ≡ opening ∷ said_in m behind))

-- ---- what is drawn of them

-- the pictures of these answers were sent
pub record SendsPictures (answers : List Answer) (before now : Option (List ℕ)) : Type 0 where
  pub pictures : List ℕ
  pub are : ArePictures answers pictures
  pub sent : now ≡ sent_after pictures before

-- Of any front of what a client gets, cut anywhere in its first 2^32 bytes, `draw`, where it has memory and no stream fails, sends the
-- pictures of the answers that stand whole in it.
abbrev pub FrontsAreDrawn : List Answer → Type 0
FrontsAreDrawn answers =
    (got : List Answer) (n : ℕ) (left before now : Option (List ℕ)) → Reach answers got → n ≤ 2 ^ 32
    → Draws (take n (bytes_of got)) left before now → SendsPictures (whole_in n got) before now

-- ---- covers

-- of two drawings on the canvas of a grid the first is black only where the second is
abbrev pub LiesIn : Grid → Canvas → Canvas → Type 0
LiesIn grid inner outer = (x y : ℕ) → x < grid.w → y < grid.h → IsTrue (black_at inner x y) → IsTrue (black_at outer x y)

-- The bytes are the covers of a view and behind them its picture: each cover holds the picture, and lies in those before it.
pub record IsCovered (view : ViewSpec) (samples : List Sample) (bytes : List ℕ) : Type 0 where
  pub drawing : Canvas
  pub is : IsDrawing view samples drawing
  pub covers : List Canvas
  pub shrink : (i j : ℕ) (early late : Canvas) → slice_get covers i ≡ Some early → slice_get covers j ≡ Some late → i ≤ j
      → LiesIn view.grid late early
  pub hold : (i : ℕ) (cover : Canvas) → slice_get covers i ≡ Some cover → LiesIn view.grid drawing cover
  pub are : bytes ≡ flat_map picture covers ++ picture drawing

-- a view that is shown has its covers and its picture, and no other reply has any
abbrev pub HasCovers : Reply → List ℕ → Type 0
HasCovers applied bytes = bytes ≡ []
HasCovers (opened n cache) bytes = bytes ≡ []
HasCovers (closed n) bytes = bytes ≡ []
HasCovers (shown n view samples) bytes = IsCovered view samples bytes
HasCovers refused bytes = bytes ≡ []

-- the bytes are those of the answers, one behind the other
abbrev pub AreCovers : List Answer → List ℕ → Type 0
AreCovers [] bytes = bytes ≡ []
AreCovers (answer ∷ later) bytes =
    (first : List ℕ) × (rest : List ℕ) × HasCovers answer.reply first × AreCovers later rest × (bytes ≡ first ++ rest)

-- the covers and pictures of these answers were sent
pub record SendsCovers (answers : List Answer) (before now : Option (List ℕ)) : Type 0 where
  pub covers : List ℕ
  pub are : AreCovers answers covers
  pub sent : now ≡ sent_after covers before

-- The same of `cover`, which sends the covers and the pictures of these answers.
abbrev pub FrontsAreCovered : List Answer → Type 0
FrontsAreCovered answers =
    (every : ℕ) (got : List Answer) (n : ℕ) (left before now : Option (List ℕ)) → Reach answers got → n ≤ 2 ^ 32
    → Covers every (take n (bytes_of got)) left before now → SendsCovers (whole_in n got) before now

-- What `serve` sends of answers: the bytes of each are a frame, and of each front of them `draw` sends the pictures, and `cover` the
-- covers before them.
pub record AreFrames (answers : List Answer) : Type 0 where
  pub each : All (λ answer. IsFrame answer.reply answer.bytes) answers
  pub drawn : FrontsAreDrawn answers
  pub covered : FrontsAreCovered answers

-- The lines are answered, each by the bytes that spell its frame, over the book of a state.
pub record HasAnswers (old : State) (lines : List Line) (frames : List Frame) : Type 0 where
  pub answers : List Answer
  pub fit : AreAnswers old.total old.book [] (map said_by lines) answers
  pub spelled : map (λ answer. answer.bytes) answers ≡ map spelling frames
  pub are : AreFrames answers
