-- The book after replies.
use Rattle.std.proofs.Common.{◌≡◌, ℕ, ℤ, inl, inr, Bool, true, false, List, [], ◌∷◌, Option, None, Some, Result, Ok, Err, ap}
use Rattle.std.proofs.Common.{◌∙◌}
use Rattle.series_book.specs.declared.one_series.Series.{Series}
use Rattle.series_book.specs.declared.refusals.Refusal.{Refusal}
use Rattle.series_book.specs.Edits.{Edited, apply, id_of}
use Rattle.request_lines.specs.declared.requests.Request.{Request}
use Rattle.request_lines.specs.declared.requests.Request.TheVariants.{Edit, Open, View, Zoom, Pan, Close}
use Rattle.request_lines.specs.declared.ranges.RangeWord.{RangeWord}
use Rattle.request_lines.specs.Requests.{read_line}
use Rattle.value_filter.specs.declared.steps.Step.{Step}
use Rattle.zoom_session.specs.declared.session.Session.{Session}
use Rattle.zoom_session.specs.declared.view_spec.ViewSpec.{ViewSpec}
use Rattle.zoom_session.specs.declared.view_spec.RangeSpec.{RangeSpec}
use Rattle.zoom_session.specs.Sessions.{is_open, session_of, open_refusal}
use Rattle.chart_frames.specs.declared.frame.Frame.{Frame}
use Rattle.std.specs.Prelude.{slice_get, ◌+ℤ◌}
use Rattle.chart_service.specs.State.{State}
use Rattle.chart_service.specs.Serving.{KeepsBook}
use Rattle.chart_service.specs.Replies.{Edits, Opens, Closes, cache_of, AnswersBy, Views, ViewsSeries, ViewsId, RepliesToView}
use Rattle.chart_service.specs.Replies.{RepliesByText, MovesLast, MovesIn, RepliesTo, RepliesToLine}
use Rattle.served_fronts.specs.Books.{Line, or_same, ok_of, after_request, after_line, after_lines}
use Rattle.served_fronts.specs.Laws.{BooksFollowTheLines}

same_state : (old new : State) → new ≡ old → KeepsBook old new
same_state old new is = (ap (λ s. s.book) is, ap (λ s. s.total) is)

by_edit : (old new : State) (frame : Frame) (r : Result Edited Refusal) → Edits r frame old new → (new.book ≡ or_same old.book r)
    × (new.total ≡ old.total)
by_edit old new frame (Ok edited) is = (ap (λ s. s.book) is.1, ap (λ s. s.total) is.1)
by_edit old new frame (Err refusal) is = same_state old new is.state

by_open : (old new : State) (frame : Frame) (o : Option Refusal) (number cache : ℕ) → Opens o number cache frame old new → KeepsBook old new
by_open old new frame (Some refusal) number cache is = same_state old new is.state
by_open old new frame None number cache is = (ap (λ s. s.book) is.1, ap (λ s. s.total) is.1)

by_close : (old new : State) (frame : Frame) (b : Bool) (number : ℕ) → Closes b number frame old new → KeepsBook old new
by_close old new frame false number is = same_state old new is.state
by_close old new frame true number is = (ap (λ s. s.book) is.1, ap (λ s. s.total) is.1)

by_view : (old new : State) (frame : Frame) (filter : Option (List Step)) (series : Series) (spec : ViewSpec) (number : ℕ)
    → AnswersBy filter series spec number frame old new → KeepsBook old new
by_view old new frame None series spec number (inl many) = same_state old new many.refuses.state
by_view old new frame None series spec number (inr answers) = (ap (λ s. s.book) answers.state, ap (λ s. s.total) answers.state)
by_view old new frame (Some steps) series spec number answers = (ap (λ s. s.book) answers.state, ap (λ s. s.total) answers.state)

by_views : (old new : State) (frame : Frame) (series : Series) (id number w h : ℕ) (t0 t1 : ℤ) (range : RangeSpec)
    (filter : Option (List Step)) → Views series id number w h t0 t1 range filter frame old new → KeepsBook old new
by_views old new frame series id number w h t0 t1 range filter v = by_view old new frame filter series
    (record { series = id; grid = v.grid; range = range; filter = filter }) number v.view

by_series : (old new : State) (frame : Frame) (o : Option Series) (id number w h : ℕ) (t0 t1 : ℤ) (word : RangeWord)
    (filter : Option (List Step)) → ViewsSeries o id number w h t0 t1 word filter frame old new → KeepsBook old new
by_series old new frame None id number w h t0 t1 word filter is = same_state old new is.state
by_series old new frame (Some series) id number w h t0 t1 word filter (inl window) = same_state old new window.1.state
by_series old new frame (Some series) id number w h t0 t1 word filter (inr (inl canvas)) = same_state old new canvas.2.state
by_series old new frame (Some series) id number w h t0 t1 word filter (inr (inr (inl range))) = same_state old new range.4.state
by_series old new frame (Some series) id number w h t0 t1 word filter (inr (inr (inr good))) =
    by_views old new frame series id number w h t0 t1 _ filter good.4

by_id : (old new : State) (frame : Frame) (o : Option ℕ) (number w h : ℕ) (t0 t1 : ℤ) (word : RangeWord) (filter : Option (List Step))
    → ViewsId o number w h t0 t1 word filter frame old new → KeepsBook old new
by_id old new frame None number w h t0 t1 word filter is = same_state old new is.state
by_id old new frame (Some id) number w h t0 t1 word filter is = by_series old new frame
    (slice_get old.book id) id number w h t0 t1 word filter is

by_opened : (old new : State) (frame : Frame) (b : Bool) (number : ℕ) (name : List ℕ) (w h : ℕ) (t0 t1 : ℤ) (word : RangeWord)
    (filter : Option (List Step)) → RepliesToView b number name w h t0 t1 word filter frame old new → KeepsBook old new
by_opened old new frame false number name w h t0 t1 word filter is = same_state old new is.state
by_opened old new frame true number name w h t0 t1 word filter is = by_id old new frame
    (id_of name old.book) number w h t0 t1 word filter is

by_text : (old new : State) (frame : Frame) (text : Option (List ℕ)) (Reply : Option (List Step) → Type 0)
    → ((f : Option (List Step)) → Reply f → KeepsBook old new) → RepliesByText text Reply frame old new → KeepsBook old new
by_text old new frame None Reply each is = each None is
by_text old new frame (Some text) Reply each (inl bad) = same_state old new bad.2.state
by_text old new frame (Some text) Reply each (inr good) = each _ good.2

by_last : (old new : State) (frame : Frame) (o : Option ViewSpec) (number : ℕ) (window : ViewSpec → ℤ × ℤ)
    → MovesLast o number window frame old new → KeepsBook old new
by_last old new frame None number window is = same_state old new is.state
by_last old new frame (Some last) number window moves = (elim moves.reply as (λ _. KeepsBook old new) [
  | inl bad ↦ same_state old new bad.1.state
  | inr good ↦ by_views old new frame moves.series last.series number last.grid.w last.grid.h (window last).0
      (window last).1 last.range last.filter good.1
])

by_session : (old new : State) (frame : Frame) (o : Option Session) (number : ℕ) (window : ViewSpec → ℤ × ℤ)
    → MovesIn o number window frame old new → KeepsBook old new
by_session old new frame None number window is = same_state old new is.state
by_session old new frame (Some session) number window is = by_last old new frame session.last number window is

pub by_request : (old new : State) (frame : Frame) (r : Result Request ℕ) → RepliesTo r frame old new
    → (new.book ≡ after_request old.total old.book (ok_of r)) × (new.total ≡ old.total)
by_request old new frame (Err at) is = same_state old new is.state
by_request old new frame (Ok (Edit edit)) is = by_edit old new frame (apply old.book old.total edit) is
by_request old new frame (Ok (Open number cache)) is = by_open old new frame (open_refusal old.sessions number (cache_of cache)) number
    (cache_of cache) is
by_request old new frame (Ok (View number name w h t0 t1 word text)) is =
    by_text old new frame text (λ filter. RepliesToView (is_open number old.sessions) number name w h t0 t1 word filter frame old new)
    (λ filter r. by_opened old new frame (is_open number old.sessions) number name w h t0 t1 word filter r) is
by_request old new frame (Ok (Zoom number t0 t1)) is = by_session old new frame (session_of number old.sessions) number
    (λ last. (t0, t1)) is
by_request old new frame (Ok (Pan number by)) is = by_session old new frame (session_of number old.sessions) number
    (λ last. (last.grid.t0 +ℤ by, last.grid.t1 +ℤ by)) is
by_request old new frame (Ok (Close number)) is = by_close old new frame (is_open number old.sessions) number is

pub by_line : (old new : State) (frame : Frame) (line : Line) → RepliesToLine line frame old new
    → (new.book ≡ after_line old.total old.book line) × (new.total ≡ old.total)
by_line old new frame None is = same_state old new is.state
by_line old new frame (Some text) is = by_request old new frame (read_line text) is

pub books_follow : BooksFollowTheLines
books_follow [] [] old new replied = same_state old new replied
books_follow [] (f ∷ fs) old new replied = absurd replied
books_follow (l ∷ ls) [] old new replied = absurd replied
books_follow (l ∷ ls) (f ∷ fs) old new replied =
    let here = by_line old replied.0 f l replied.1.0 in
    let later = books_follow ls fs replied.0 new replied.2 in
    (later.0 ∙ ap (λ t. after_lines t replied.0.book ls) here.1 ∙ ap (λ b. after_lines old.total b ls) here.0, later.1 ∙ here.1)
