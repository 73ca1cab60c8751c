-- What a call does to a service, and what it tells.
use Rattle.std.specs.Prelude.{ℕ, ℤ, List, Option, None, Result, MatchResult, IfSome, IsSomeAnd, slice_get}
use Rattle.gate_pages.specs.declared.pages.Pages.{Ghosts}
use Rattle.chart_frames.specs.declared.frame.Frame.{Frame}
use Rattle.request_lines.specs.declared.requests.Request.{Request}
use Rattle.series_book.specs.declared.one_series.Series.{Series}
use Rattle.request_lines.specs.declared.ranges.RangeWord.{RangeWord}
use Rattle.series_book.specs.Edits.{id_of}
use Rattle.value_filter.specs.declared.steps.Step.{Step}
use Rattle.zoom_session.specs.Sessions.{session_of, last_of, is_open, open_refusal}
use Rattle.zoom_session.specs.declared.session.Session.{Session}
use Rattle.zoom_session.specs.declared.view_spec.ViewSpec.{ViewSpec}
use Rattle.chart_service.specs.ReadingBlocks.{ReadsLine}
use Rattle.chart_service.specs.Blaming.{LineBlames, RequestBlames}
use Rattle.chart_service.specs.LastShown.{IsLastIn}
use Rattle.chart_service.specs.Looking.{IsViewCause, Looks, Looked, Replying}
use Rattle.chart_service.specs.Replies.{AnswersBy, AnswersView, RepliesToView, RepliesByText, MovesIn, Opens, own_zoom}
use Rattle.chart_service.specs.Shown as shown
use Rattle.chart_service.specs.State.{State}
use Rattle.chart_service.specs.Stepping.{IsStepCause, IsLineCause, IsUnchangedBy, IsUnchangedFor, ReadsBy, ReadsByText, ReadsFew, ReadsFor}
use Rattle.chart_service.specs.Stepping.{ReadsLast, ReadsRows, series_at}
use Rattle.chart_service.specs.Viewing.{AnswersRows}
use Rattle.chart_service.specs.declared.failure.ServiceError.{ServiceError}
use Rattle.chart_service.specs.declared.service.Service.{Service}
use Rattle.chart_service.specs.declared.viewport.Viewport.{Viewport}

module _ {P : Type 0} {g : Ghosts P} where
  -- the frame answers so, and the pages stand for the book that it leaves
  abbrev pub AnswersSo : (Frame → State → State → Type 0) → ℕ → List Series → Service P g → Service P g → Frame → Type 0
  AnswersSo Reply total book old new frame = shown.StandsSo total new (λ after. Reply frame (shown.state old total book) after)

  -- with a frame other than Done, and with an error that is no fault of the disk, nothing was committed
  abbrev pub CommitsOnly : Result Frame ServiceError → Service P g → Service P g → Type 0
  CommitsOnly result old new =
      MatchResult result (λ frame. IsUnchangedBy frame (shown.IsTold old) (shown.view old) (shown.view new))
      (λ error. IsUnchangedFor error (shown.IsTold old) (shown.view old) (shown.view new))

  -- a line reads no more blocks than the request that it spells may
  abbrev pub ReadsFewFor : Option (List ℕ) → ℕ → List Series → Service P g → Service P g → Type 0
  ReadsFewFor line total book old new = ReadsLine line (shown.state old total book) (shown.view old).reads (shown.view new).reads

  -- so of the view that a session was answered last, if it had one
  abbrev pub ForLast : ℕ → Service P g → (ViewSpec → Type 0) → Type 0
  ForLast session it IsSo = IfSome (last_of (session_of session it.sessions)) IsSo

  -- a repeat of a session's last view reads no more blocks than a zoom to the view's own window may
  abbrev pub ReadsFewAgain : ℕ → Service P g → Service P g → Type 0
  ReadsFewAgain session old new =
      ForLast session old (λ last. shown.ForBook old
      (λ total book. ReadsFew (own_zoom session last) book old.sessions (shown.view old).reads (shown.view new).reads))

  -- why a request wasn't answered, and a line
  abbrev pub IsCause : Request → Service P g → Service P g → ServiceError → Type 0
  IsCause request old new error =
      IsStepCause request error (shown.IsTold old) (shown.catalog old) old.sessions (shown.numbers old) (shown.view old) (shown.view new)

  abbrev pub IsCauseOfLine : Option (List ℕ) → Service P g → Service P g → ServiceError → Type 0
  IsCauseOfLine line old new error =
      IsLineCause line error (shown.IsTold old) (shown.catalog old) old.sessions (shown.numbers old) (shown.view old) (shown.view new)

  -- the request blames a page that an error calls damaged, and so does a line
  abbrev pub RequestBlamed : Request → Service P g → Service P g → ServiceError → Type 0
  RequestBlamed request old new error =
      RequestBlames request (IsLastIn old.sessions) (shown.IsTold new) (shown.view new).size (shown.image new) error

  abbrev pub LineBlamed : Option (List ℕ) → Service P g → Service P g → ServiceError → Type 0
  LineBlamed line old new error = LineBlames line (IsLastIn old.sessions) (shown.IsTold new) (shown.view new).size (shown.image new) error

  -- and a view of a series with such an id
  abbrev pub IsCauseOfView : (ℕ → Type 0) → Service P g → Service P g → ServiceError → Type 0
  IsCauseOfView IsShown old new error =
      IsViewCause IsShown error (shown.IsTold old) (shown.catalog old) (shown.total old) (shown.view old) (shown.view new)

  -- the pages, the numbers of page 0 and the catalog stay
  abbrev pub LooksOnly : Service P g → Service P g → Type 0
  LooksOnly old new =
      Looks (shown.IsTold old) (shown.IsTold new) (shown.view old) (shown.view new) (shown.under old) (shown.under new) (shown.numbers old)
      (shown.numbers new) (shown.catalog old) (shown.catalog new)

  -- so is what comes of a request that is no edit, in this session, whatever the pages are
  abbrev pub LooksIn : Option ℕ → Result Frame ServiceError → Service P g → Service P g → Type 0
  LooksIn session result old new =
      Looked session result old.sessions new.sessions (shown.IsTold old) (shown.IsTold new) (shown.view old) (shown.view new)
      (shown.under old) (shown.under new) (shown.numbers old) (shown.numbers new) (shown.catalog old) (shown.catalog new)

  -- and over each book that the pages stand for
  abbrev pub RepliesOver : (Frame → State → State → Type 0) → (List Series → ℕ → ℕ → Type 0) → Result Frame ServiceError → Service P g
      → Service P g → Type 0
  RepliesOver Reply Reads result old new =
      shown.ForBook old (λ total book. Replying Reply (Reads book) result total book old.sessions new.sessions (shown.view old)
      (shown.view new))

-- the frame has the rows that the view's filter keeps of its series, and the coefficients that its client lacks
abbrev pub HasRows : ViewSpec → ℕ → Frame → State → State → Type 0
HasRows spec number frame old new = IsSomeAnd (slice_get old.book spec.series) (λ series. AnswersRows series spec number frame old new)

abbrev pub HasCoefs : ViewSpec → ℕ → Frame → State → State → Type 0
HasCoefs spec number frame old new = IsSomeAnd (slice_get old.book spec.series) (λ series. AnswersBy None series spec number frame old new)

-- a view with a filter reads few blocks, and so does one without
abbrev pub ReadsRowsFor : ViewSpec → List Series → ℕ → ℕ → Type 0
ReadsRowsFor spec book = ReadsRows spec.grid.t0 spec.grid.t1 (slice_get book spec.series)

abbrev pub ReadsForSpec : ViewSpec → List Series → ℕ → ℕ → Type 0
ReadsForSpec spec book = ReadsFor spec.grid.w (slice_get book spec.series)

-- the same of a view whose filter may be none
abbrev pub Shows : ViewSpec → ℕ → Frame → State → State → Type 0
Shows spec number frame old new = IsSomeAnd (slice_get old.book spec.series) (λ series. AnswersView series spec number frame old new)

abbrev pub ReadsFiltered : ViewSpec → List Series → ℕ → ℕ → Type 0
ReadsFiltered spec book = ReadsBy spec.filter spec.grid.w spec.grid.t0 spec.grid.t1 (slice_get book spec.series)

-- the frame answers a view of the series of this name, with this filter, and with the filter of this text
abbrev pub ShowsBy : Option (List Step) → ℕ → List ℕ → Viewport → RangeWord → Frame → State → State → Type 0
ShowsBy filter number name viewport word frame old new =
    RepliesToView (is_open number old.sessions) number name viewport.w viewport.h viewport.t0 viewport.t1 word filter frame old new

abbrev pub ReadsNamed : Option (List Step) → List ℕ → Viewport → List Series → ℕ → ℕ → Type 0
ReadsNamed filter name viewport book = ReadsBy filter viewport.w viewport.t0 viewport.t1 (series_at book (id_of name book))

abbrev pub ShowsByText : Option (List ℕ) → ℕ → List ℕ → Viewport → RangeWord → Frame → State → State → Type 0
ShowsByText text number name viewport word frame old new = RepliesByText text
    (λ filter. ShowsBy filter number name viewport word frame old new) frame old new

abbrev pub ReadsByName : Option (List ℕ) → List ℕ → Viewport → List Series → ℕ → ℕ → Type 0
ReadsByName text name viewport book = ReadsByText text viewport.w viewport.t0 viewport.t1 (series_at book (id_of name book))

-- the frame answers a zoom or a pan of a session's last view to these ends
abbrev pub MovesTo : ℕ → (ViewSpec → ℤ × ℤ) → Frame → State → State → Type 0
MovesTo number ends frame old new = MovesIn (session_of number old.sessions) number ends frame old new

abbrev pub ReadsLastOf : ℕ → List Session → (ViewSpec → ℤ × ℤ) → List Series → ℕ → ℕ → Type 0
ReadsLastOf number sessions window book = ReadsLast book (last_of (session_of number sessions)) window

-- the frame answers the opening of a session
abbrev pub OpensIn : ℕ → ℕ → State → State → Frame → Type 0
OpensIn number cache old new frame = Opens (open_refusal old.sessions number cache) number cache frame old new
