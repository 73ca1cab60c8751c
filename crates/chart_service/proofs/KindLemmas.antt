-- Which frames may answer a request, and which sessions stay.
use Rattle.std.proofs.Common.{◌≡◌, ℕ, ℤ, ◌+ℤ◌, ◌≤◌, ◌<◌, Bool, true, false, if◌then◌else◌, List, length, Option, None, Some, Result, Ok}
use Rattle.std.proofs.Common.{Err, IfOk, refl, sym, subst, inl, inr}
use Rattle.std.specs.Prelude.{slice_get}
use Rattle.std.proofs.lemmas.Bool.{lt-ltb}
use Rattle.chart_frames.specs.declared.frame.Frame.{Frame}
use Rattle.request_lines.specs.declared.ranges.RangeWord.{RangeWord}
use Rattle.request_lines.specs.declared.requests.Request.{Request}
use Rattle.request_lines.specs.declared.requests.Request.TheVariants.{Edit as EditRequest, Open, View as ViewRequest, Zoom, Pan, Close}
use Rattle.request_lines.specs.Requests.{read_line}
use Rattle.series_book.specs.declared.one_series.Series.{Series}
use Rattle.series_book.specs.declared.refusals.Refusal.{Refusal}
use Rattle.series_book.specs.declared.refusals.Refusal.TheVariants.{LineTooLong, BadLine, BadFilter, BadWindow, BadCanvas, BadRange, NoView}
use Rattle.series_book.specs.declared.refusals.Refusal.TheVariants.{UnknownSeries, UnknownSession}
use Rattle.series_book.specs.Edits.{Edited, apply, id_of}
use Rattle.value_filter.specs.Steps.{postfix}
use Rattle.value_filter.specs.declared.steps.Step.{Step}
use Rattle.zoom_session.specs.declared.session.Session.{Session}
use Rattle.zoom_session.specs.declared.view_spec.RangeSpec.{RangeSpec}
use Rattle.zoom_session.specs.declared.view_spec.ViewSpec.{ViewSpec}
use Rattle.zoom_session.specs.Sessions.{is_open, open_refusal, session_of}
use Rattle.chart_service.specs.EditGroups.{IsEditReply}
use Rattle.chart_service.specs.Kinds.{KeepsSessions, MayAnswer, MayAnswerLine, MayAnswerRead, MayClose, MayOpen, MayShow}
use Rattle.chart_service.specs.Replies.{AnswersBy, Closes, Edits, Moves, MovesIn, MovesLast, Opens, Refuses, Replies, RepliesByText}
use Rattle.chart_service.specs.Replies.{RepliesTo, RepliesToLine, RepliesToView, Views, ViewsId, ViewsSeries, cache_of, line_text, refused}
use Rattle.chart_service.specs.State.{State}
use Rattle.chart_service.specs.Viewing.{range_spec}
use Rattle.chart_service.specs.declared.failure.ServiceError.{ServiceError}
use Rattle.chart_service.proofs.Sending.{text_is}

-- where the sessions stay, whatever came of it
pub kept_same : (result : Result Frame ServiceError) (old new : List Session) → new ≡ old → KeepsSessions result old new
kept_same (Ok frame) old new same = λ refuses. same
kept_same (Err error) old new same = λ other. same

-- a refusal may answer a view
pub may_refuse : (session : ℕ) (frame : Frame) (refusal : Refusal) → frame ≡ refused refusal → MayShow session frame
may_refuse session frame refusal is = let M : Frame → Type 0 = λ f. MayShow session f in subst M (sym is) tt

-- a line that is too long, one that says no request, and one that says one
pub may_long : (line : List ℕ) (frame : Frame) → 8192 < length line → frame ≡ refused LineTooLong → MayAnswerLine (line_text line) frame
may_long line frame long is =
    let B : Bool → Type 0 = λ b. MayAnswerLine (if b then None else Some line) frame in
    subst B (sym (lt-ltb 8192 (length line) long)) is

pub may_bad : (line : List ℕ) (at : ℕ) (frame : Frame) → length line ≤ 8192 → read_line line ≡ Err at → frame ≡ refused (BadLine at)
    → MayAnswerLine (line_text line) frame
may_bad line at frame short reads is =
    let L : Option (List ℕ) → Type 0 = λ o. MayAnswerLine o frame in
    let R : Result Request ℕ → Type 0 = λ r. MayAnswerRead r frame in
    subst L (sym (text_is line short)) (subst R (sym reads) is)

pub may_line : (line : List ℕ) (request : Request) (result : Result Frame ServiceError) → length line ≤ 8192 → read_line line ≡ Ok request
    → IfOk result (λ frame. MayAnswer request frame) → IfOk result (λ frame. MayAnswerLine (line_text line) frame)
may_line line request result short reads may =
    let L : Option (List ℕ) → Type 0 = λ o. IfOk result (λ frame. MayAnswerLine o frame) in
    let R : Result Request ℕ → Type 0 = λ r. IfOk result (λ frame. MayAnswerRead r frame) in
    subst L (sym (text_is line short)) (subst R (sym reads) may)

-- ---- the reply by a book may answer its line

shows_refused : (n : ℕ) (r : Refusal) (f : Frame) (old new : State) → Refuses r f old new → MayShow n f
shows_refused n r f old new is = may_refuse n f r is.reply

view_may : (filter : Option (List Step)) (series : Series) (spec : ViewSpec) (n : ℕ) (f : Frame) (old new : State)
    → AnswersBy filter series spec n f old new → MayShow n f
view_may None series spec n f old new (inl many) = let M : Frame → Type 0 = λ x. MayShow n x in subst M (sym many.refuses.reply) tt
view_may None series spec n f old new (inr is) = let M : Frame → Type 0 = λ x. MayShow n x in subst M (sym is.frame_is) refl
view_may (Some steps) series spec n f old new is = let M : Frame → Type 0 = λ x. MayShow n x in subst M (sym is.frame_is) refl

views_may : (series : Series) (id n w h : ℕ) (t0 t1 : ℤ) (range : RangeSpec) (filter : Option (List Step)) (f : Frame) (old new : State)
    → Views series id n w h t0 t1 range filter f old new → MayShow n f
views_may series id n w h t0 t1 range filter f old new is = view_may filter series
    (record { series = id; grid = is.grid; range = range; filter = filter }) n f old new is.view

series_may : (o : Option Series) (id n w h : ℕ) (t0 t1 : ℤ) (word : RangeWord) (filter : Option (List Step)) (f : Frame) (old new : State)
    → ViewsSeries o id n w h t0 t1 word filter f old new → MayShow n f
series_may None id n w h t0 t1 word filter f old new is = shows_refused n UnknownSeries f old new is
series_may (Some series) id n w h t0 t1 word filter f old new (inl bad) = shows_refused n BadWindow f old new bad.1
series_may (Some series) id n w h t0 t1 word filter f old new (inr (inl bad)) = shows_refused n BadCanvas f old new bad.2
series_may (Some series) id n w h t0 t1 word filter f old new (inr (inr (inl bad))) = shows_refused n BadRange f old new bad.4
series_may (Some series) id n w h t0 t1 word filter f old new (inr (inr (inr is))) = views_may series id n w h t0 t1
    (range_spec word) filter f old new is.4

id_may : (o : Option ℕ) (n w h : ℕ) (t0 t1 : ℤ) (word : RangeWord) (filter : Option (List Step)) (f : Frame) (old new : State)
    → ViewsId o n w h t0 t1 word filter f old new → MayShow n f
id_may None n w h t0 t1 word filter f old new is = shows_refused n UnknownSeries f old new is
id_may (Some id) n w h t0 t1 word filter f old new is = series_may (slice_get old.book id) id n w h t0 t1 word filter f old new is

named_may : (there : Bool) (n : ℕ) (name : List ℕ) (w h : ℕ) (t0 t1 : ℤ) (word : RangeWord) (filter : Option (List Step)) (f : Frame)
    (old new : State) → RepliesToView there n name w h t0 t1 word filter f old new → MayShow n f
named_may false n name w h t0 t1 word filter f old new is = shows_refused n UnknownSession f old new is
named_may true n name w h t0 t1 word filter f old new is = id_may (id_of name old.book) n w h t0 t1 word filter f old new is

text_may : (text : Option (List ℕ)) (there : Bool) (n : ℕ) (name : List ℕ) (w h : ℕ) (t0 t1 : ℤ) (word : RangeWord) (f : Frame)
    (old new : State)
    → RepliesByText text (λ filter. RepliesToView there n name w h t0 t1 word filter f old new) f old new → MayShow n f
text_may None there n name w h t0 t1 word f old new is = named_may there n name w h t0 t1 word None f old new is
text_may (Some text) there n name w h t0 t1 word f old new (inl bad) = shows_refused n (BadFilter bad.0) f old new bad.2
text_may (Some text) there n name w h t0 t1 word f old new (inr is) = named_may there n name w h t0 t1 word
    (Some (postfix is.0)) f old new is.2

moves_may : (last : ViewSpec) (n : ℕ) (t0 t1 : ℤ) (f : Frame) (old new : State) → Moves last n t0 t1 f old new → MayShow n f
moves_may last n t0 t1 f old new is = elim is.reply [
  | inl bad ↦ shows_refused n BadWindow f old new bad.1
  | inr shown ↦ views_may is.series last.series n last.grid.w last.grid.h t0 t1 last.range last.filter f old new shown.1
]

last_may : (o : Option ViewSpec) (n : ℕ) (window : ViewSpec → ℤ × ℤ) (f : Frame) (old new : State) → MovesLast o n window f old new
    → MayShow n f
last_may None n window f old new is = shows_refused n NoView f old new is
last_may (Some last) n window f old new is = moves_may last n (window last).0 (window last).1 f old new is

move_may : (o : Option Session) (n : ℕ) (window : ViewSpec → ℤ × ℤ) (f : Frame) (old new : State) → MovesIn o n window f old new
    → MayShow n f
move_may None n window f old new is = shows_refused n UnknownSession f old new is
move_may (Some session) n window f old new is = last_may session.last n window f old new is

edit_may : (r : Result Edited Refusal) (f : Frame) (old new : State) → Edits r f old new → IsEditReply f
edit_may (Err refusal) f old new is = subst IsEditReply (sym is.reply) tt
edit_may (Ok edited) f old new is = subst IsEditReply (sym is.0) tt

open_may : (o : Option Refusal) (n cache : ℕ) (f : Frame) (old new : State) → Opens o n cache f old new → MayOpen n f
open_may (Some refusal) n cache f old new is = let M : Frame → Type 0 = λ x. MayOpen n x in subst M (sym is.reply) tt
open_may None n cache f old new is = let M : Frame → Type 0 = λ x. MayOpen n x in subst M (sym is.0) refl

close_may : (there : Bool) (n : ℕ) (f : Frame) (old new : State) → Closes there n f old new → MayClose n f
close_may false n f old new is = let M : Frame → Type 0 = λ x. MayClose n x in subst M (sym is.reply) tt
close_may true n f old new is = let M : Frame → Type 0 = λ x. MayClose n x in subst M (sym is.0) refl

request_may : (request : Request) (f : Frame) (old new : State) → Replies request f old new → MayAnswer request f
request_may (EditRequest edit) f old new is = edit_may (apply old.book old.total edit) f old new is
request_may (Open n cache) f old new is = open_may (open_refusal old.sessions n (cache_of cache)) n (cache_of cache) f old new is
request_may (ViewRequest n name w h t0 t1 word text) f old new is = text_may text
    (is_open n old.sessions) n name w h t0 t1 word f old new is
request_may (Zoom n t0 t1) f old new is = move_may (session_of n old.sessions) n (λ last. (t0, t1)) f old new is
request_may (Pan n by) f old new is = move_may (session_of n old.sessions) n (λ last. (last.grid.t0 +ℤ by, last.grid.t1 +ℤ by)) f old new is
request_may (Close n) f old new is = close_may (is_open n old.sessions) n f old new is

read_may : (read : Result Request ℕ) (f : Frame) (old new : State) → RepliesTo read f old new → MayAnswerRead read f
read_may (Err at) f old new is = is.reply
read_may (Ok request) f old new is = request_may request f old new is

pub line_may : (line : Option (List ℕ)) (f : Frame) (old new : State) → RepliesToLine line f old new → MayAnswerLine line f
line_may None f old new is = is.reply
line_may (Some text) f old new is = read_may (read_line text) f old new is
