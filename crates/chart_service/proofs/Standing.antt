-- A service without the other sessions answers a session's lines by the same frames.
use Rattle.std.proofs.Common.{◌≡◌, ◌≢◌, ℕ, ℤ, suc, ◌+ℤ◌, ◌≤◌, Bool, true, false, ◌==◌, List, [], ◌∷◌, ◌++◌, length, Option, None, Some}
use Rattle.std.proofs.Common.{Result, Ok, Err, refl, ap, sym, ◌∙◌, subst, inl, inr, arith}
use Rattle.std.specs.Prelude.{if◌then◌else◌, ◌||◌, nat_le, nat_lt, slice_get}
use Rattle.std.proofs.lemmas.Bool.{eqb-true, eq-eqb}
use Rattle.std.proofs.lemmas.List.Elements.{filter-append, All-filter}
use Rattle.std.proofs.lemmas.List.Kept.{AllPairs-filter}
use Rattle.std.proofs.lemmas.List.Sums.{length-filter, count_by-le-length}
use Rattle.coefficient_cache.specs.Caches.{IsCapacity}
use Rattle.om3_coeff.specs.declared.key.Key.{Key}
use Rattle.om3_coeff.specs.declared.coef.Coef.{Coef}
use Rattle.series_book.specs.declared.one_series.Series.{Series}
use Rattle.series_book.specs.declared.refusals.Refusal.{Refusal}
use Rattle.series_book.specs.declared.refusals.Refusal.TheVariants.{SessionOpen, TooManySessions, BadCache}
use Rattle.series_book.specs.Edits.{Edited, apply, id_of}
use Rattle.request_lines.specs.declared.requests.Request.{Request}
use Rattle.request_lines.specs.declared.requests.Request.TheVariants.{Edit as EditRequest, Open, View, Zoom, Pan, Close}
use Rattle.request_lines.specs.declared.ranges.RangeWord.{RangeWord}
use Rattle.value_filter.specs.declared.steps.Step.{Step}
use Rattle.value_filter.specs.Steps.{postfix}
use Rattle.request_lines.specs.Requests.{read_line}
use Rattle.zoom_session.specs.declared.session.Session.{Session}
use Rattle.zoom_session.specs.declared.view_spec.ViewSpec.{ViewSpec}
use Rattle.zoom_session.specs.declared.view_spec.RangeSpec.{RangeSpec}
use Rattle.zoom_session.specs.Sessions.{is_open, session_of, open_refusal, fresh_session, without, viewed, after_view, most_sessions}
use Rattle.chart_frames.specs.declared.frame.Frame.{Frame}
use Rattle.chart_service.specs.State.{State, IsSound, HasViewOf}
use Rattle.chart_service.specs.Viewing.{Answers, AnswersRows, range_spec}
use Rattle.chart_service.specs.Replies.{refused, Refuses, Edits, Opens, Closes, NeedsTooMany, AnswersBy, AnswersView, Views, ViewsSeries}
use Rattle.chart_service.specs.Replies.{ViewsId, RepliesToView, RepliesByText, Moves, MovesLast, MovesIn, Replies, RepliesTo, RepliesToLine}
use Rattle.chart_service.specs.Replies.{cache_of}
use Rattle.chart_service.specs.Serving.{RepliesToAll}
use Rattle.chart_service.specs.Alone.{session_read, is_own, concerns, own_lines, own_frames, only, alone, NeverCrowded}

-- ---- the sessions of one number

pub only_open : (n : ℕ) (ss : List Session) → is_open n (only n ss) ≡ is_open n ss
only_open n [] = refl
only_open n (s ∷ ss) =
    (elim (s.number == n) as (λ b. (s.number == n) ≡ b → is_open n (if b then s ∷ only n ss else only n ss) ≡ (b || is_open n ss)) [
      | true ↦ λ h. ap (λ b. b || is_open n (only n ss)) h
      | false ↦ λ h. only_open n ss
    ]) refl

pub only_session : (n : ℕ) (ss : List Session) → session_of n (only n ss) ≡ session_of n ss
only_session n [] = refl
only_session n (s ∷ ss) =
    (elim (s.number == n) as (λ b. (s.number == n) ≡ b
    → session_of n (if b then s ∷ only n ss else only n ss) ≡ (if b then Some s else session_of n ss)) [
      | true ↦ λ h. ap (λ b. if b then Some s else session_of n (only n ss)) h
      | false ↦ λ h. only_session n ss
    ]) refl

pub only_without : (n : ℕ) (ss : List Session) → only n (without n ss) ≡ without n (only n ss)
only_without n [] = refl
only_without n (s ∷ ss) =
    (elim (s.number == n) as (λ b. (s.number == n) ≡ b
    → only n (if b then ss else s ∷ without n ss) ≡ without n (if b then s ∷ only n ss else only n ss)) [
      | true ↦ λ h. sym (ap (λ b. if b then only n ss else s ∷ without n (only n ss)) h)
      | false ↦ λ h. ap (λ b. if b then s ∷ only n (without n ss) else only n (without n ss)) h ∙ only_without n ss
    ]) refl

pub only_viewed : (n : ℕ) (spec : ViewSpec) (needed : Option (List (Key × Coef))) (ss : List Session)
    → only n (viewed n spec needed ss) ≡ viewed n spec needed (only n ss)
only_viewed n spec needed [] = refl
only_viewed n spec needed (s ∷ ss) =
    (elim (s.number == n) as (λ b. (s.number == n) ≡ b
    → only n (if b then after_view spec needed s ∷ ss else s ∷ viewed n spec needed ss) ≡ viewed n spec needed (if b then s ∷ only n ss
    else only n ss)) [
      | true ↦ λ h.
          ap (λ b. if b then after_view spec needed s ∷ only n ss else only n ss) h
          ∙ sym (ap (λ b. if b then after_view spec needed s ∷ only n ss else s ∷ viewed n spec needed (only n ss)) h)
      | false ↦ λ h. ap (λ b. if b then s ∷ only n (viewed n spec needed ss) else only n (viewed n spec needed ss)) h
          ∙ only_viewed n spec needed ss
    ]) refl

pub only_more : (n cache : ℕ) (ss : List Session) → only n (ss ++ fresh_session n cache ∷ []) ≡ only n ss ++ fresh_session n cache ∷ []
only_more n cache ss =
    filter-append (λ s. s.number == n) ss (fresh_session n cache ∷ [])
    ∙ ap (λ l. only n ss ++ l) (ap (λ b. if b then fresh_session n cache ∷ [] else []) (eq-eqb n n refl))

none_only : (n : ℕ) (ss : List Session) → is_open n ss ≡ false → only n ss ≡ []
none_only n [] none = refl
none_only n (s ∷ ss) none =
    (elim (s.number == n) as (λ b. (b || is_open n ss) ≡ false → (if b then s ∷ only n ss else only n ss) ≡ []) [
      | true ↦ λ h. cc
      | false ↦ λ h. none_only n ss h
    ]) none

-- ---- other sessions

append_none : (ss : List Session) → ss ++ [] ≡ ss
append_none [] = refl
append_none (s ∷ ss) = ap (λ l. s ∷ l) (append_none ss)

pub other_more : (n m cache : ℕ) (ss : List Session) → (m == n) ≡ false → only n (ss ++ fresh_session m cache ∷ []) ≡ only n ss
other_more n m cache ss other =
    filter-append (λ s. s.number == n) ss (fresh_session m cache ∷ [])
    ∙ ap (λ l. only n ss ++ l) (ap (λ b. if b then fresh_session m cache ∷ [] else []) other)
    ∙ append_none (only n ss)

number_other : (n m : ℕ) (s : Session) → (m == n) ≡ false → (s.number == m) ≡ true → (s.number == n) ≡ false
number_other n m s other same = ap (λ k. k == n) (eqb-true s.number m same) ∙ other

pub other_without : (n m : ℕ) (ss : List Session) → (m == n) ≡ false → only n (without m ss) ≡ only n ss
other_without n m [] other = refl
other_without n m (s ∷ ss) other =
    (elim (s.number == m) as (λ b. (s.number == m) ≡ b → only n (if b then ss else s ∷ without m ss) ≡ only n (s ∷ ss)) [
      | true ↦ λ h. sym (ap (λ b. if b then s ∷ only n ss else only n ss) (number_other n m s other h))
      | false ↦ λ h. ap (λ l. if s.number == n then s ∷ l else l) (other_without n m ss other)
    ]) refl

pub other_viewed : (n m : ℕ) (spec : ViewSpec) (needed : Option (List (Key × Coef))) (ss : List Session) → (m == n) ≡ false
    → only n (viewed m spec needed ss) ≡ only n ss
other_viewed n m spec needed [] other = refl
other_viewed n m spec needed (s ∷ ss) other =
    (elim (s.number == m) as (λ b. (s.number == m) ≡ b
    → only n (if b then after_view spec needed s ∷ ss else s ∷ viewed m spec needed ss) ≡ only n (s ∷ ss)) [
      | true ↦ λ h.
          ap (λ b. if b then after_view spec needed s ∷ only n ss else only n ss) (number_other n m s other h)
          ∙ sym (ap (λ b. if b then s ∷ only n ss else only n ss) (number_other n m s other h))
      | false ↦ λ h. ap (λ l. if s.number == n then s ∷ l else l) (other_viewed n m spec needed ss other)
    ]) refl

-- ---- a line of another session

same_by : (n m : ℕ) (o : Option (List Step)) (series : Series) (spec : ViewSpec) (frame : Frame) (old new : State) → (m == n) ≡ false
    → AnswersBy o series spec m frame old new → alone n new ≡ alone n old
same_by n m None series spec frame old new other (inl many) = ap (alone n) many.refuses.state
same_by n m None series spec frame old new other (inr answers) =
    ap (alone n) answers.state ∙ ap (λ l. record old { sessions = l }) (other_viewed n m spec (Some answers.needed) old.sessions other)
same_by n m (Some steps) series spec frame old new other answers =
    ap (alone n) answers.state ∙ ap (λ l. record old { sessions = l }) (other_viewed n m spec None old.sessions other)

same_view : (n m : ℕ) (series : Series) (spec : ViewSpec) (frame : Frame) (old new : State) → (m == n) ≡ false
    → AnswersView series spec m frame old new → alone n new ≡ alone n old
same_view n m series spec frame old new other answers = same_by n m spec.filter series spec frame old new other answers

same_series : (n m : ℕ) (o : Option Series) (id w h : ℕ) (t0 t1 : ℤ) (word : RangeWord) (filter : Option (List Step)) (frame : Frame)
    (old new : State) → (m == n) ≡ false → ViewsSeries o id m w h t0 t1 word filter frame old new → alone n new ≡ alone n old
same_series n m None id w h t0 t1 word filter frame old new other r = ap (alone n) r.state
same_series n m (Some series) id w h t0 t1 word filter frame old new other (inl r) = ap (alone n) r.1.state
same_series n m (Some series) id w h t0 t1 word filter frame old new other (inr (inl r)) = ap (alone n) r.2.state
same_series n m (Some series) id w h t0 t1 word filter frame old new other (inr (inr (inl r))) = ap (alone n) r.4.state
same_series n m (Some series) id w h t0 t1 word filter frame old new other (inr (inr (inr r))) =
    same_view n m series (record { series = id; grid = r.4.grid; range = range_spec word; filter = filter }) frame old new other r.4.view

same_id : (n m : ℕ) (o : Option ℕ) (w h : ℕ) (t0 t1 : ℤ) (word : RangeWord) (filter : Option (List Step)) (frame : Frame) (old new : State)
    → (m == n) ≡ false → ViewsId o m w h t0 t1 word filter frame old new → alone n new ≡ alone n old
same_id n m None w h t0 t1 word filter frame old new other r = ap (alone n) r.state
same_id n m (Some id) w h t0 t1 word filter frame old new other r = same_series n m
    (slice_get old.book id) id w h t0 t1 word filter frame old new other r

same_in : (n m : ℕ) (b : Bool) (name : List ℕ) (w h : ℕ) (t0 t1 : ℤ) (word : RangeWord) (filter : Option (List Step)) (frame : Frame)
    (old new : State) → (m == n) ≡ false → RepliesToView b m name w h t0 t1 word filter frame old new → alone n new ≡ alone n old
same_in n m false name w h t0 t1 word filter frame old new other r = ap (alone n) r.state
same_in n m true name w h t0 t1 word filter frame old new other r = same_id n m
    (id_of name old.book) w h t0 t1 word filter frame old new other r

same_text : (n m : ℕ) (text : Option (List ℕ)) (b : Bool) (name : List ℕ) (w h : ℕ) (t0 t1 : ℤ) (word : RangeWord) (frame : Frame)
    (old new : State) → (m == n) ≡ false → RepliesByText text
    (λ filter. RepliesToView b m name w h t0 t1 word filter frame old new) frame old new → alone n new ≡ alone n old
same_text n m None b name w h t0 t1 word frame old new other r = same_in n m b name w h t0 t1 word None frame old new other r
same_text n m (Some text) b name w h t0 t1 word frame old new other (inl bad) = ap (alone n) bad.2.state
same_text n m (Some text) b name w h t0 t1 word frame old new other (inr good) =
    same_in n m b name w h t0 t1 word (Some (postfix good.0)) frame old new other good.2

same_moves : (n m : ℕ) (last : ViewSpec) (t0 t1 : ℤ) (frame : Frame) (old new : State) → (m == n) ≡ false → Moves last m t0 t1 frame old new
    → alone n new ≡ alone n old
same_moves n m last t0 t1 frame old new other moves = elim moves.reply [
  | inl bad ↦ ap (alone n) bad.1.state
  | inr good ↦ same_view n m moves.series (record { series = last.series; grid = good.1.grid; range = last.range; filter = last.filter })
      frame old new other good.1.view
]

same_last : (n m : ℕ) (o : Option ViewSpec) (window : ViewSpec → ℤ × ℤ) (frame : Frame) (old new : State) → (m == n) ≡ false
    → MovesLast o m window frame old new → alone n new ≡ alone n old
same_last n m None window frame old new other r = ap (alone n) r.state
same_last n m (Some last) window frame old new other r = same_moves n m last (window last).0 (window last).1 frame old new other r

same_moved : (n m : ℕ) (o : Option Session) (window : ViewSpec → ℤ × ℤ) (frame : Frame) (old new : State) → (m == n) ≡ false
    → MovesIn o m window frame old new → alone n new ≡ alone n old
same_moved n m None window frame old new other r = ap (alone n) r.state
same_moved n m (Some session) window frame old new other r = same_last n m session.last window frame old new other r

same_opened : (n m cache : ℕ) (o : Option Refusal) (frame : Frame) (old new : State) → (m == n) ≡ false → Opens o m cache frame old new
    → alone n new ≡ alone n old
same_opened n m cache (Some refusal) frame old new other r = ap (alone n) r.state
same_opened n m cache None frame old new other r =
    ap (alone n) r.1 ∙ ap (λ l. record old { sessions = l }) (other_more n m cache old.sessions other)

same_closed : (n m : ℕ) (b : Bool) (frame : Frame) (old new : State) → (m == n) ≡ false → Closes b m frame old new
    → alone n new ≡ alone n old
same_closed n m false frame old new other r = ap (alone n) r.state
same_closed n m true frame old new other r =
    ap (alone n) r.1 ∙ ap (λ l. record old { sessions = l }) (other_without n m old.sessions other)

same_request : (n : ℕ) (request : Request) (frame : Frame) (old new : State) → is_own n (session_read (Ok request)) ≡ false
    → Replies request frame old new → alone n new ≡ alone n old
same_request n (EditRequest edit) frame old new other r = cc
same_request n (Open m cache) frame old new other r = same_opened n m (cache_of cache)
    (open_refusal old.sessions m (cache_of cache)) frame old new other r
same_request n (View m name w h t0 t1 word text) frame old new other r =
    same_text n m text (is_open m old.sessions) name w h t0 t1 word frame old new other r
same_request n (Zoom m t0 t1) frame old new other r = same_moved n m (session_of m old.sessions) (λ last. (t0, t1)) frame old new other r
same_request n (Pan m by) frame old new other r = same_moved n m (session_of m old.sessions)
    (λ last. (last.grid.t0 +ℤ by, last.grid.t1 +ℤ by)) frame old new other r
same_request n (Close m) frame old new other r = same_closed n m (is_open m old.sessions) frame old new other r

same_read : (n : ℕ) (reading : Result Request ℕ) (frame : Frame) (old new : State) → is_own n (session_read reading) ≡ false
    → RepliesTo reading frame old new → alone n new ≡ alone n old
same_read n (Err at) frame old new other r = cc
same_read n (Ok request) frame old new other r = same_request n request frame old new other r

same_line : (n : ℕ) (line : Option (List ℕ)) (frame : Frame) (old new : State) → concerns n line ≡ false → RepliesToLine line frame old new
    → alone n new ≡ alone n old
same_line n None frame old new other r = cc
same_line n (Some text) frame old new other r = same_read n (read_line text) frame old new other r

-- ---- a line that concerns the session

own_refused : (n : ℕ) (refusal : Refusal) (frame : Frame) (old new : State) → Refuses refusal frame old new
    → Refuses refusal frame (alone n old) (alone n new)
own_refused n refusal frame old new r = record { reply = r.reply; state = ap (alone n) r.state }

own_edit : (n : ℕ) (edited : Result Edited Refusal) (frame : Frame) (old new : State) → Edits edited frame old new
    → Edits edited frame (alone n old) (alone n new)
own_edit n (Err refusal) frame old new r = own_refused n refusal frame old new r
own_edit n (Ok edited) frame old new r = (r.0, ap (alone n) r.1)

own_opened : (n cache : ℕ) (o : Option Refusal) (frame : Frame) (old new : State) → Opens o n cache frame old new
    → Opens o n cache frame (alone n old) (alone n new)
own_opened n cache (Some refusal) frame old new r = own_refused n refusal frame old new r
own_opened n cache None frame old new r =
    (r.0, ap (alone n) r.1 ∙ ap (λ l. record old { sessions = l }) (only_more n cache old.sessions))

-- what is left of the refusals of an opening where the session isn't open and there is room
abbrev cache_refusal : ℕ → Option Refusal
cache_refusal cache = if nat_lt cache 1 || nat_lt 131072 cache then Some BadCache else None

refusal_only : (n cache : ℕ) (ss : List Session) → is_open n ss ≡ false → open_refusal (only n ss) n cache ≡ cache_refusal cache
refusal_only n cache ss none =
    let P : List Session → Type 0 = λ l. open_refusal l n cache ≡ cache_refusal cache in
    subst P (sym (none_only n ss none)) refl

crowded : (n cache : ℕ) (frame : Frame) (old new : State) → frame ≢ refused TooManySessions → (full : Bool)
    → Opens (if full then Some TooManySessions else cache_refusal cache) n cache frame old new
    → Opens (cache_refusal cache) n cache frame old new
crowded n cache frame old new not_full true r = absurd (not_full r.reply)
crowded n cache frame old new not_full false r = r

own_open_at : (n cache : ℕ) (frame : Frame) (old new : State) → frame ≢ refused TooManySessions → (here : Bool)
    → is_open n old.sessions ≡ here → Opens (if here then Some SessionOpen
    else if nat_le most_sessions (length old.sessions) then Some TooManySessions else cache_refusal cache) n cache frame old new
    → Opens (open_refusal (only n old.sessions) n cache) n cache frame (alone n old) (alone n new)
own_open_at n cache frame old new not_full true is r =
    let rest : Option Refusal = if nat_le most_sessions (length (only n old.sessions)) then Some TooManySessions else cache_refusal cache in
    let P : Option Refusal → Type 0 = λ o. Opens o n cache frame (alone n old) (alone n new) in
    let there : open_refusal (only n old.sessions) n cache ≡ Some SessionOpen = ap (λ b. if b then Some SessionOpen
    else rest) (only_open n old.sessions ∙ is) in
    subst P (sym there) (own_refused n SessionOpen frame old new r)
own_open_at n cache frame old new not_full false is r =
    let P : Option Refusal → Type 0 = λ o. Opens o n cache frame (alone n old) (alone n new) in
    subst P (sym (refusal_only n cache old.sessions is))
    (own_opened n cache (cache_refusal cache) frame old new
    (crowded n cache frame old new not_full (nat_le most_sessions (length old.sessions)) r))

own_many : (n : ℕ) (series : Series) (spec : ViewSpec) (frame : Frame) (old new : State) → NeedsTooMany series spec n frame old new
    → NeedsTooMany series spec n frame (alone n old) (alone n new)
own_many n series spec frame old new many = record {
  session = many.session;
  open_is = only_session n old.sessions ∙ many.open_is;
  range = many.range;
  shown = many.shown;
  needed = many.needed;
  are_needed = many.are_needed;
  passes = many.passes;
  refuses = own_refused n _ frame old new many.refuses;
}

pub own_answers : (n : ℕ) (series : Series) (spec : ViewSpec) (frame : Frame) (old new : State) → Answers series spec n frame old new
    → Answers series spec n frame (alone n old) (alone n new)
own_answers n series spec frame old new a = record {
  session = a.session;
  open_is = only_session n old.sessions ∙ a.open_is;
  needed = a.needed;
  are_needed = a.are_needed;
  room = a.room;
  range = a.range;
  shown = a.shown;
  frame_is = a.frame_is;
  state = ap (alone n) a.state ∙ ap (λ l. record old { sessions = l }) (only_viewed n spec (Some a.needed) old.sessions);
}

pub own_rows : (n : ℕ) (series : Series) (spec : ViewSpec) (frame : Frame) (old new : State) → AnswersRows series spec n frame old new
    → AnswersRows series spec n frame (alone n old) (alone n new)
own_rows n series spec frame old new a = record {
  session = a.session;
  open_is = only_session n old.sessions ∙ a.open_is;
  range = a.range;
  shown = a.shown;
  rows = a.rows;
  are_rows = a.are_rows;
  frame_is = a.frame_is;
  state = ap (alone n) a.state ∙ ap (λ l. record old { sessions = l }) (only_viewed n spec None old.sessions);
}

own_by : (n : ℕ) (o : Option (List Step)) (series : Series) (spec : ViewSpec) (frame : Frame) (old new : State)
    → AnswersBy o series spec n frame old new → AnswersBy o series spec n frame (alone n old) (alone n new)
own_by n None series spec frame old new (inl many) = inl (own_many n series spec frame old new many)
own_by n None series spec frame old new (inr a) = inr (own_answers n series spec frame old new a)
own_by n (Some steps) series spec frame old new a = own_rows n series spec frame old new a

own_view : (n : ℕ) (series : Series) (spec : ViewSpec) (frame : Frame) (old new : State) → AnswersView series spec n frame old new
    → AnswersView series spec n frame (alone n old) (alone n new)
own_view n series spec frame old new a = own_by n spec.filter series spec frame old new a

own_views : (n : ℕ) (series : Series) (id w h : ℕ) (t0 t1 : ℤ) (range : RangeSpec) (filter : Option (List Step)) (frame : Frame)
    (old new : State) → Views series id n w h t0 t1 range filter frame old new
    → Views series id n w h t0 t1 range filter frame (alone n old) (alone n new)
own_views n series id w h t0 t1 range filter frame old new v = record {
  grid = v.grid;
  window = v.window;
  canvas = v.canvas;
  view = own_view n series (record { series = id; grid = v.grid; range = range; filter = filter }) frame old new v.view;
}

own_series : (n : ℕ) (o : Option Series) (id w h : ℕ) (t0 t1 : ℤ) (word : RangeWord) (filter : Option (List Step)) (frame : Frame)
    (old new : State) → ViewsSeries o id n w h t0 t1 word filter frame old new
    → ViewsSeries o id n w h t0 t1 word filter frame (alone n old) (alone n new)
own_series n None id w h t0 t1 word filter frame old new r = own_refused n _ frame old new r
own_series n (Some series) id w h t0 t1 word filter frame old new (inl r) = inl (r.0, own_refused n _ frame old new r.1)
own_series n (Some series) id w h t0 t1 word filter frame old new (inr (inl r)) = inr (inl (r.0, r.1, own_refused n _ frame old new r.2))
own_series n (Some series) id w h t0 t1 word filter frame old new (inr (inr (inl r))) = inr
    (inr (inl (r.0, r.1, r.2, r.3, own_refused n _ frame old new r.4)))
own_series n (Some series) id w h t0 t1 word filter frame old new (inr (inr (inr r))) =
    inr (inr (inr (r.0, r.1, r.2, r.3, own_views n series id w h t0 t1 (range_spec word) filter frame old new r.4)))

own_id : (n : ℕ) (o : Option ℕ) (w h : ℕ) (t0 t1 : ℤ) (word : RangeWord) (filter : Option (List Step)) (frame : Frame) (old new : State)
    → ViewsId o n w h t0 t1 word filter frame old new → ViewsId o n w h t0 t1 word filter frame (alone n old) (alone n new)
own_id n None w h t0 t1 word filter frame old new r = own_refused n _ frame old new r
own_id n (Some id) w h t0 t1 word filter frame old new r = own_series n (slice_get old.book id) id w h t0 t1 word filter frame old new r

own_in : (n : ℕ) (b : Bool) (name : List ℕ) (w h : ℕ) (t0 t1 : ℤ) (word : RangeWord) (filter : Option (List Step)) (frame : Frame)
    (old new : State) → RepliesToView b n name w h t0 t1 word filter frame old new
    → RepliesToView b n name w h t0 t1 word filter frame (alone n old) (alone n new)
own_in n false name w h t0 t1 word filter frame old new r = own_refused n _ frame old new r
own_in n true name w h t0 t1 word filter frame old new r = own_id n (id_of name old.book) w h t0 t1 word filter frame old new r

own_text : (n : ℕ) (text : Option (List ℕ)) (b : Bool) (name : List ℕ) (w h : ℕ) (t0 t1 : ℤ) (word : RangeWord) (frame : Frame)
    (old new : State) → RepliesByText text (λ filter. RepliesToView b n name w h t0 t1 word filter frame old new) frame old new
    → RepliesByText text (λ filter. RepliesToView b n name w h t0 t1 word filter frame (alone n old) (alone n new)) frame (alone n old)
    (alone n new)
own_text n None b name w h t0 t1 word frame old new r = own_in n b name w h t0 t1 word None frame old new r
own_text n (Some text) b name w h t0 t1 word frame old new (inl bad) = inl (bad.0, bad.1, own_refused n _ frame old new bad.2)
own_text n (Some text) b name w h t0 t1 word frame old new (inr good) =
    inr (good.0, good.1, own_in n b name w h t0 t1 word (Some (postfix good.0)) frame old new good.2)

own_moves : (n : ℕ) (last : ViewSpec) (t0 t1 : ℤ) (frame : Frame) (old new : State) → Moves last n t0 t1 frame old new
    → Moves last n t0 t1 frame (alone n old) (alone n new)
own_moves n last t0 t1 frame old new moves = record {
  series = moves.series;
  there = moves.there;
  reply = elim moves.reply [
    | inl bad ↦ inl (bad.0, own_refused n _ frame old new bad.1)
    | inr good ↦ inr (
      good.0,
      own_views n moves.series last.series last.grid.w last.grid.h t0 t1 last.range last.filter frame old new
          good.1,
    )
  ];
}

own_last : (n : ℕ) (o : Option ViewSpec) (window : ViewSpec → ℤ × ℤ) (frame : Frame) (old new : State) → MovesLast o n window frame old new
    → MovesLast o n window frame (alone n old) (alone n new)
own_last n None window frame old new r = own_refused n _ frame old new r
own_last n (Some last) window frame old new r = own_moves n last (window last).0 (window last).1 frame old new r

own_moved : (n : ℕ) (o : Option Session) (window : ViewSpec → ℤ × ℤ) (frame : Frame) (old new : State) → MovesIn o n window frame old new
    → MovesIn o n window frame (alone n old) (alone n new)
own_moved n None window frame old new r = own_refused n _ frame old new r
own_moved n (Some session) window frame old new r = own_last n session.last window frame old new r

own_session : (n : ℕ) (window : ViewSpec → ℤ × ℤ) (frame : Frame) (old new : State)
    → MovesIn (session_of n old.sessions) n window frame old new
    → MovesIn (session_of n (only n old.sessions)) n window frame (alone n old) (alone n new)
own_session n window frame old new r =
    let P : Option Session → Type 0 = λ o. MovesIn o n window frame (alone n old) (alone n new) in
    subst P (sym (only_session n old.sessions)) (own_moved n (session_of n old.sessions) window frame old new r)

own_closed : (n : ℕ) (b : Bool) (frame : Frame) (old new : State) → Closes b n frame old new → Closes b n frame (alone n old) (alone n new)
own_closed n false frame old new r = own_refused n _ frame old new r
own_closed n true frame old new r = (r.0, ap (alone n) r.1 ∙ ap (λ l. record old { sessions = l }) (only_without n old.sessions))

-- a request of the session itself
own_request : (n : ℕ) (request : Request) (frame : Frame) (old new : State) → frame ≢ refused TooManySessions
    → is_own n (session_read (Ok request)) ≡ true → Replies request frame old new → Replies request frame (alone n old) (alone n new)
own_request n (EditRequest edit) frame old new not_full own r = own_edit n (apply old.book old.total edit) frame old new r
own_request n (Open m cache) frame old new not_full own r =
    let P : ℕ → Type 0 = λ k. Replies (Open k cache) frame old new → Replies (Open k cache) frame (alone n old) (alone n new) in
    subst P (sym (eqb-true m n own)) (own_open_at n (cache_of cache) frame old new not_full (is_open n old.sessions) refl) r
own_request n (View m name w h t0 t1 word text) frame old new not_full own r =
    let P : ℕ → Type 0 = λ k. Replies (View k name w h t0 t1 word text) frame old new
    → Replies (View k name w h t0 t1 word text) frame (alone n old) (alone n new) in
    let Q : Bool → Type 0 = λ b. RepliesByText text
    (λ filter. RepliesToView b n name w h t0 t1 word filter frame (alone n old) (alone n new)) frame (alone n old) (alone n new) in
    subst P (sym (eqb-true m n own)) (λ x. subst Q (sym (only_open n old.sessions))
    (own_text n text (is_open n old.sessions) name w h t0 t1 word frame old new x)) r
own_request n (Zoom m t0 t1) frame old new not_full own r =
    let P : ℕ → Type 0 = λ k. Replies (Zoom k t0 t1) frame old new → Replies (Zoom k t0 t1) frame (alone n old) (alone n new) in
    subst P (sym (eqb-true m n own)) (own_session n (λ last. (t0, t1)) frame old new) r
own_request n (Pan m by) frame old new not_full own r =
    let P : ℕ → Type 0 = λ k. Replies (Pan k by) frame old new → Replies (Pan k by) frame (alone n old) (alone n new) in
    subst P (sym (eqb-true m n own)) (own_session n (λ last. (last.grid.t0 +ℤ by, last.grid.t1 +ℤ by)) frame old new) r
own_request n (Close m) frame old new not_full own r =
    let P : ℕ → Type 0 = λ k. Replies (Close k) frame old new → Replies (Close k) frame (alone n old) (alone n new) in
    let Q : Bool → Type 0 = λ b. Closes b n frame (alone n old) (alone n new) in
    subst P (sym (eqb-true m n own)) (λ x. subst Q (sym (only_open n old.sessions)) (own_closed n (is_open n old.sessions) frame old new x))
    r

own_read : (n : ℕ) (reading : Result Request ℕ) (frame : Frame) (old new : State) → frame ≢ refused TooManySessions
    → is_own n (session_read reading) ≡ true → RepliesTo reading frame old new → RepliesTo reading frame (alone n old) (alone n new)
own_read n (Err at) frame old new not_full own r = own_refused n _ frame old new r
own_read n (Ok request) frame old new not_full own r = own_request n request frame old new not_full own r

own_line : (n : ℕ) (line : Option (List ℕ)) (frame : Frame) (old new : State) → frame ≢ refused TooManySessions → concerns n line ≡ true
    → RepliesToLine line frame old new → RepliesToLine line frame (alone n old) (alone n new)
own_line n None frame old new not_full own r = own_refused n _ frame old new r
own_line n (Some text) frame old new not_full own r = own_read n (read_line text) frame old new not_full own r

-- ---- all lines

first_of : (frame : Frame) (frames : List Frame) → NeverCrowded (frame ∷ frames) → frame ≢ refused TooManySessions
first_of frame frames all = all 0 frame (omega arith)

later_of : (frame : Frame) (frames : List Frame) → NeverCrowded (frame ∷ frames) → NeverCrowded frames
later_of frame frames all = λ k d below. all (suc k) d (omega (arith, below))

-- the service stays sound without the other sessions
only_few : (n : ℕ) (ss : List Session) → length (only n ss) ≤ length ss
only_few n ss = omega (arith, length-filter (λ s. s.number == n) ss, count_by-le-length (λ s. s.number == n) ss)

pub alone_sound : (n : ℕ) (state : State) → IsSound state → IsSound (alone n state)
alone_sound n state sound = record {
  book = sound.book;
  sessions = record {
    distinct = AllPairs-filter (λ a b. a.number ≢ b.number) (λ s. s.number == n) state.sessions sound.sessions.distinct;
    few = omega (arith, only_few n state.sessions, sound.sessions.few);
    sizes = All-filter (λ s. s.number == n) (λ s. IsCapacity s.cache.capacity) state.sessions sound.sessions.sizes;
  };
  views = All-filter (λ s. s.number == n) (λ s. HasViewOf state.book s.last) state.sessions sound.views;
}

pub stands_alone : (n : ℕ) (lines : List (Option (List ℕ))) (frames : List Frame) (old new : State) → RepliesToAll old lines frames new
    → NeverCrowded (own_frames n lines frames) → RepliesToAll (alone n old) (own_lines n lines) (own_frames n lines frames) (alone n new)
stands_alone n [] [] old new all room = ap (alone n) all
stands_alone n [] (frame ∷ frames) old new all room = absurd all
stands_alone n (line ∷ lines) [] old new all room = absurd all
stands_alone n (line ∷ lines) (frame ∷ frames) old new all room =
    let F : Bool → List Frame = λ b. if b then frame ∷ own_frames n lines frames else own_frames n lines frames in
    let L : Bool → List (Option (List ℕ)) = λ b. if b then line ∷ own_lines n lines else own_lines n lines in
    (elim (concerns n line) as (λ b. concerns n line ≡ b → NeverCrowded (F b) → RepliesToAll (alone n old) (L b) (F b) (alone n new)) [
      | true ↦ λ own few. (
        alone n all.0,
        (
          own_line n line frame old all.0 (first_of frame (own_frames n lines frames) few) own all.1.0,
          all.1.1,
          alone_sound n all.0 all.1.2,
        ),
        stands_alone n lines frames all.0 new all.2 (later_of frame (own_frames n lines frames) few),
      )
      | false ↦ λ other few.
          let P : State → Type 0 = λ s. RepliesToAll s (own_lines n lines) (own_frames n lines frames) (alone n new) in
          subst P (same_line n line frame old all.0 other all.1.0) (stands_alone n lines frames all.0 new all.2 few)
    ]) refl room
