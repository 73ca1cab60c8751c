-- The reply to a request line, and the state after it, over the plain book alone.
use Rattle.std.specs.Prelude.{◌≡◌, ◌⊎◌, ℕ, ℤ, ◌+ℤ◌, ◌<◌, ◌++◌, [], ◌∷◌, Bool, true, false, List, length, Option, None, Some, Result, Ok}
use Rattle.std.specs.Prelude.{Err, slice_get, nat_lt, if◌then◌else◌}
use Rattle.series_book.specs.declared.one_series.Series.{Series}
use Rattle.series_book.specs.declared.refusals.Refusal.{Refusal}
use Rattle.series_book.specs.declared.refusals.Refusal.TheVariants.{LineTooLong, BadLine, BadFilter, UnknownSession, UnknownSeries, NoView}
use Rattle.series_book.specs.declared.refusals.Refusal.TheVariants.{BadWindow, BadCanvas, BadRange, ViewTooLarge}
use Rattle.series_book.specs.Refusals.{number_of, pair_of}
use Rattle.series_book.specs.Edits.{Edited, apply, id_of}
use Rattle.request_lines.specs.declared.requests.Request.{Request}
use Rattle.request_lines.specs.declared.requests.Request.TheVariants.{Edit as EditRequest, Open, View, Zoom, Pan, Close}
use Rattle.request_lines.specs.declared.ranges.RangeWord.{RangeWord}
use Rattle.value_filter.specs.declared.steps.Step.{Step}
use Rattle.value_filter.specs.Expressions.{Expression}
use Rattle.value_filter.specs.Steps.{postfix}
use Rattle.value_filter.specs.Grammar.{IsFilter, LeavesAt}
use Rattle.request_lines.specs.Requests.{read_line}
use Rattle.chart_grid.specs.declared.grid.Grid.{Grid}
use Rattle.chart_grid.specs.Limits.{IsWindow, IsSide, IsBadWindow, IsBadSide}
use Rattle.chart_grid.specs.Projection.{ShowsWindow, HasCanvas}
use Rattle.plain_chart.specs.declared.value_range.ValueRange.{ValueRange}
use Rattle.plain_chart.specs.Samples.{kept, values_of}
use Rattle.om3_coeff.specs.declared.key.Key.{Key}
use Rattle.om3_coeff.specs.declared.coef.Coef.{Coef}
use Rattle.zoom_session.specs.declared.session.Session.{Session}
use Rattle.zoom_session.specs.declared.view_spec.ViewSpec.{ViewSpec}
use Rattle.zoom_session.specs.declared.view_spec.RangeSpec.{RangeSpec}
use Rattle.zoom_session.specs.Sessions.{is_open, session_of, open_refusal, fresh_session, without}
use Rattle.chart_frames.specs.declared.frame.Frame.{Frame}
use Rattle.chart_frames.specs.declared.frame.Frame.TheVariants.{Done, Refused, Opened, Closed}
use Rattle.chart_frames.specs.Frames.{Fits}
use Rattle.chart_service.specs.State.{State, IsSound}
use Rattle.chart_service.specs.Viewing.{IsGoodRange, IsBadRange, range_spec, ShowsRange, axis_of, AreNeeded, Answers, AnswersRows}

-- the frame of a refusal
abbrev pub refused : Refusal → Frame
refused refusal = Refused (number_of refusal) (pair_of refusal).0 (pair_of refusal).1

-- a refusal, which changes nothing
pub record Refuses (refusal : Refusal) (answer : Frame) (old new : State) : Type 0 where
  pub reply : answer ≡ refused refusal
  pub state : new ≡ old

-- the reply to an edit, by what the edit gives
abbrev pub Edits : Result Edited Refusal → Frame → State → State → Type 0
Edits (Err refusal) answer old new = Refuses refusal answer old new
Edits (Ok edited) answer old new = (answer ≡ Done edited.slots) × (new ≡ record old { book = edited.book })

-- the reply to an opening of a session
abbrev pub Opens : Option Refusal → ℕ → ℕ → Frame → State → State → Type 0
Opens (Some refusal) number cache answer old new = Refuses refusal answer old new
Opens None number cache answer old new =
    (answer ≡ Opened number cache) × (new ≡ record old { sessions = old.sessions ++ fresh_session number cache ∷ [] })

-- the reply to a closing of a session
abbrev pub Closes : Bool → ℕ → Frame → State → State → Type 0
Closes false number answer old new = Refuses UnknownSession answer old new
Closes true number answer old new = (answer ≡ Closed number) × (new ≡ record old { sessions = without number old.sessions })

-- the cache that an opening asks for: 65,536 where it names none
abbrev pub cache_of : Option ℕ → ℕ
cache_of None = 65536
cache_of (Some cache) = cache

-- the view needs more keys, over the range that it shows, than the session's client keeps
pub record NeedsTooMany (series : Series) (spec : ViewSpec) (number : ℕ) (answer : Frame) (old new : State) : Type 0 where
  pub session : Session
  pub open_is : session_of number old.sessions ≡ Some session
  pub range : ValueRange
  pub shown : ShowsRange spec.range (values_of (kept spec.grid (axis_of series) series.slots)) range
  pub needed : List (Key × Coef)
  pub are_needed : AreNeeded series spec.grid range needed
  pub passes : session.cache.capacity < length needed
  pub refuses : Refuses (ViewTooLarge (length needed) session.cache.capacity) answer old new

-- the reply to a view of a series that is in range, by its filter
abbrev pub AnswersBy : Option (List Step) → Series → ViewSpec → ℕ → Frame → State → State → Type 0
AnswersBy None series spec number answer old new =
    NeedsTooMany series spec number answer old new ⊎ Answers series spec number answer old new
AnswersBy (Some steps) series spec number answer old new = AnswersRows series spec number answer old new

abbrev pub AnswersView : Series → ViewSpec → ℕ → Frame → State → State → Type 0
AnswersView series spec number answer old new = AnswersBy spec.filter series spec number answer old new

-- the reply to a view of the series of this id, over a window and on a canvas that are in range
pub record Views (series : Series) (id number w h : ℕ) (t0 t1 : ℤ) (range : RangeSpec) (filter : Option (List Step)) (answer : Frame)
    (old new : State) : Type 0 where
  pub grid : Grid
  pub window : ShowsWindow grid t0 t1
  pub canvas : HasCanvas grid w h
  pub view : AnswersView series (record { series = id; grid = grid; range = range; filter = filter }) number answer old new

-- the reply to a view of a series, by its window, canvas and range
abbrev pub ViewsSeries : Option Series → ℕ → ℕ → ℕ → ℕ → ℤ → ℤ → RangeWord → Option (List Step) → Frame → State → State → Type 0
ViewsSeries None id number w h t0 t1 word filter answer old new = Refuses UnknownSeries answer old new
ViewsSeries (Some series) id number w h t0 t1 word filter answer old new =
    (IsBadWindow t0 t1 × Refuses BadWindow answer old new)
    ⊎ ((IsWindow t0 t1 × (IsBadSide w ⊎ IsBadSide h) × Refuses BadCanvas answer old new)
    ⊎ ((IsWindow t0 t1 × IsSide w × IsSide h × IsBadRange word × Refuses BadRange answer old new)
    ⊎ (IsWindow t0 t1 × IsSide w × IsSide h × IsGoodRange word × Views series id number w h t0 t1 (range_spec word) filter answer old new)))

-- the same, by the series' id
abbrev pub ViewsId : Option ℕ → ℕ → ℕ → ℕ → ℤ → ℤ → RangeWord → Option (List Step) → Frame → State → State → Type 0
ViewsId None number w h t0 t1 word filter answer old new = Refuses UnknownSeries answer old new
ViewsId (Some id) number w h t0 t1 word filter answer old new =
    ViewsSeries (slice_get old.book id) id number w h t0 t1 word filter answer old new

-- the reply to a view with this filter
abbrev pub RepliesToView : Bool → ℕ → List ℕ → ℕ → ℕ → ℤ → ℤ → RangeWord → Option (List Step) → Frame → State → State → Type 0
RepliesToView false number name w h t0 t1 word filter answer old new = Refuses UnknownSession answer old new
RepliesToView true number name w h t0 t1 word filter answer old new = ViewsId
    (id_of name old.book) number w h t0 t1 word filter answer old new

-- The reply to a view by its filter's text, where the view has one: a text that spells no filter is refused at the
-- offset at which it leaves the grammar; else the reply is that to the view with the filter, kept as its steps.
abbrev pub RepliesByText : Option (List ℕ) → (Option (List Step) → Type 0) → Frame → State → State → Type 0
RepliesByText None Reply answer old new = Reply None
RepliesByText (Some text) Reply answer old new =
    ((at : ℕ) × LeavesAt text at × Refuses (BadFilter at) answer old new)
    ⊎ ((f : Expression) × IsFilter text f × Reply (Some (postfix f)))

-- the reply to the last view over another window
pub record Moves (last : ViewSpec) (number : ℕ) (t0 t1 : ℤ) (answer : Frame) (old new : State) : Type 0 where
  pub series : Series
  pub there : slice_get old.book last.series ≡ Some series
  pub reply : (IsBadWindow t0 t1 × Refuses BadWindow answer old new)
      ⊎ (IsWindow t0 t1 × Views series last.series number last.grid.w last.grid.h t0 t1 last.range last.filter answer old new)

-- the reply to a zoom to a window, or to a pan by as much, by the session's last view
abbrev pub MovesLast : Option ViewSpec → ℕ → (ViewSpec → ℤ × ℤ) → Frame → State → State → Type 0
MovesLast None number window answer old new = Refuses NoView answer old new
MovesLast (Some last) number window answer old new = Moves last number (window last).0 (window last).1 answer old new

abbrev pub MovesIn : Option Session → ℕ → (ViewSpec → ℤ × ℤ) → Frame → State → State → Type 0
MovesIn None number window answer old new = Refuses UnknownSession answer old new
MovesIn (Some session) number window answer old new = MovesLast session.last number window answer old new

-- the reply to a request, and the state after it
abbrev pub Replies : Request → Frame → State → State → Type 0
Replies (EditRequest edit) answer old new = Edits (apply old.book old.total edit) answer old new
Replies (Open number cache) answer old new =
    Opens (open_refusal old.sessions number (cache_of cache)) number (cache_of cache) answer old new
Replies (View number name w h t0 t1 word text) answer old new =
    RepliesByText text (λ filter. RepliesToView (is_open number old.sessions) number name w h t0 t1 word filter answer old new) answer old
    new
Replies (Zoom number t0 t1) answer old new = MovesIn (session_of number old.sessions) number (λ last. (t0, t1)) answer old new
Replies (Pan number by) answer old new =
    MovesIn (session_of number old.sessions) number (λ last. (last.grid.t0 +ℤ by, last.grid.t1 +ℤ by)) answer old new
Replies (Close number) answer old new = Closes (is_open number old.sessions) number answer old new

-- a zoom of a session to the window of the view that it was answered last
abbrev pub own_zoom : ℕ → ViewSpec → Request
own_zoom number last = Zoom number last.grid.t0 last.grid.t1

-- the reply to what a line is read as
abbrev pub RepliesTo : Result Request ℕ → Frame → State → State → Type 0
RepliesTo (Err at) answer old new = Refuses (BadLine at) answer old new
RepliesTo (Ok request) answer old new = Replies request answer old new

-- the text of a line, or nothing where it has more than 8,192 bytes
abbrev pub line_text : List ℕ → Option (List ℕ)
line_text line = if nat_lt 8192 (length line) then None else Some line

-- the reply to a line: its text, or nothing where it is too long
abbrev pub RepliesToLine : Option (List ℕ) → Frame → State → State → Type 0
RepliesToLine None answer old new = Refuses LineTooLong answer old new
RepliesToLine (Some text) answer old new = RepliesTo (read_line text) answer old new

-- A line is answered: the fields of its frame meet their rules, and the state after it is sound.
abbrev pub Replied : Option (List ℕ) → Frame → State → State → Type 0
Replied line answer old new = RepliesToLine line answer old new × Fits answer × IsSound new
