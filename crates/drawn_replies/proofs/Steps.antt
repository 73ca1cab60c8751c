-- What a reply does to the sessions, and what a client does with its frame.
use Rattle.std.proofs.Common.{ℕ, ℤ, ◌≡◌, ◌⊎◌, inl, inr, Bool, true, false, if◌then◌else◌, List, [], ◌∷◌, ◌++◌, Option, None, Some, Result}
use Rattle.std.proofs.Common.{Ok, Err, slice_get, refl, ap}
use Rattle.series_book.specs.declared.one_series.Series.{Series}
use Rattle.series_book.specs.declared.refusals.Refusal.{Refusal}
use Rattle.series_book.specs.declared.refusals.Refusal.TheVariants.{SessionOpen}
use Rattle.series_book.specs.Refusals.{number_of, pair_of}
use Rattle.series_book.specs.Edits.{Edited, apply, id_of}
use Rattle.request_lines.specs.declared.requests.Request.{Request}
use Rattle.request_lines.specs.declared.requests.Request.TheVariants as request
use Rattle.value_filter.specs.declared.steps.Step.{Step as FilterStep}
use Rattle.value_filter.specs.Steps.{postfix}
use Rattle.request_lines.specs.declared.ranges.RangeWord.{RangeWord}
use Rattle.request_lines.specs.Requests.{read_line}
use Rattle.zoom_session.specs.declared.session.Session.{Session}
use Rattle.zoom_session.specs.declared.view_spec.ViewSpec.{ViewSpec}
use Rattle.zoom_session.specs.declared.view_spec.RangeSpec.{RangeSpec}
use Rattle.zoom_session.specs.Sessions.{is_open, session_of, open_refusal, fresh_session, without as sessions_without}
use Rattle.chart_frames.specs.declared.frame.Frame.{Frame}
use Rattle.chart_frames.specs.declared.frame.Frame.TheVariants.{Done, Refused, Opened, Closed}
use Rattle.chart_service.specs.State.{State}
use Rattle.chart_service.specs.Viewing.{Answers, AnswersRows}
use Rattle.chart_service.specs.Replies.{Refuses, Edits, Opens, Closes, AnswersBy, AnswersView, Views, ViewsSeries, ViewsId, RepliesToView}
use Rattle.chart_service.specs.Replies.{RepliesByText, Moves, MovesLast, MovesIn, Replies, RepliesTo, RepliesToLine, cache_of}

-- a frame that says nothing of sessions
abbrev pub IsQuiet : Frame → Type 0
IsQuiet frame = ((number : ℕ) × (a : ℕ) × (b : ℕ) × (frame ≡ Refused number a b)) ⊎ ((slots : ℕ) × (frame ≡ Done slots))

pub record QuietStep (frame : Frame) (old new : State) : Type 0 where
  pub quiet : IsQuiet frame
  pub sessions : new.sessions ≡ old.sessions

pub record OpenStep (frame : Frame) (old new : State) : Type 0 where
  pub number : ℕ
  pub size : ℕ
  pub is : frame ≡ Opened number size
  pub absent : is_open number old.sessions ≡ false
  pub sessions : new.sessions ≡ old.sessions ++ fresh_session number size ∷ []

pub record CloseStep (frame : Frame) (old new : State) : Type 0 where
  pub number : ℕ
  pub is : frame ≡ Closed number
  pub there : is_open number old.sessions ≡ true
  pub sessions : new.sessions ≡ sessions_without number old.sessions

pub record RowsStep (frame : Frame) (old new : State) : Type 0 where
  pub series : Series
  pub spec : ViewSpec
  pub number : ℕ
  pub stored : slice_get old.book spec.series ≡ Some series
  pub answers : AnswersRows series spec number frame old new

pub record ViewStep (frame : Frame) (old new : State) : Type 0 where
  pub series : Series
  pub spec : ViewSpec
  pub number : ℕ
  pub stored : slice_get old.book spec.series ≡ Some series
  pub answers : Answers series spec number frame old new

abbrev pub Step : Frame → State → State → Type 0
Step frame old new =
    QuietStep frame old new ⊎ (OpenStep frame old new ⊎ (CloseStep frame old new ⊎ (ViewStep frame old new ⊎ RowsStep frame old new)))

some-none : {r : Refusal} → ◌≡◌ {A = Option Refusal} (Some r) None → ⊥
some-none h = cc

refuses : (refusal : Refusal) (frame : Frame) (old new : State) → Refuses refusal frame old new → Step frame old new
refuses refusal frame old new r =
    inl (record {
      quiet = inl (number_of refusal, (pair_of refusal).0, (pair_of refusal).1, r.reply);
      sessions = ap (λ s. s.sessions) r.state;
    })

edits : (r : Result Edited Refusal) (frame : Frame) (old new : State) → Edits r frame old new → Step frame old new
edits (Err refusal) frame old new e = refuses refusal frame old new e
edits (Ok edited) frame old new e = inl (record { quiet = inr (edited.slots, e.0); sessions = ap (λ s. s.sessions) e.1 })

not-by : (a : Bool) (rest : Option Refusal) → (if a then Some SessionOpen else rest) ≡ None → a ≡ false
not-by true rest h = absurd (some-none h)
not-by false rest h = refl

-- a session that may be opened isn't open
not-open : (number size : ℕ) (ss : List Session) → open_refusal ss number size ≡ None → is_open number ss ≡ false
not-open number size ss h = not-by (is_open number ss) _ h

opens : (r : Option Refusal) (number size : ℕ) (frame : Frame) (old new : State) → open_refusal old.sessions number size ≡ r
    → Opens r number size frame old new → Step frame old new
opens (Some refusal) number size frame old new is e = refuses refusal frame old new e
opens None number size frame old new is e =
    inr (inl (record {
      number = number;
      size = size;
      is = e.0;
      absent = not-open number size old.sessions is;
      sessions = ap (λ s. s.sessions) e.1;
    }))

closes : (b : Bool) (number : ℕ) (frame : Frame) (old new : State) → is_open number old.sessions ≡ b → Closes b number frame old new
    → Step frame old new
closes false number frame old new is e = refuses _ frame old new e
closes true number frame old new is e =
    inr (inr (inl (record { number = number; is = e.0; there = is; sessions = ap (λ s. s.sessions) e.1 })))

answers-by : (o : Option (List FilterStep)) (series : Series) (spec : ViewSpec) (number : ℕ) (frame : Frame) (old new : State)
    → slice_get old.book spec.series ≡ Some series
    → AnswersBy o series spec number frame old new → Step frame old new
answers-by None series spec number frame old new stored (inl n) = refuses _ frame old new n.refuses
answers-by None series spec number frame old new stored (inr a) =
    inr (inr (inr (inl (record { series = series; spec = spec; number = number; stored = stored; answers = a }))))
answers-by (Some steps) series spec number frame old new stored a =
    inr (inr (inr (inr (record { series = series; spec = spec; number = number; stored = stored; answers = a }))))

answers-view : (series : Series) (spec : ViewSpec) (number : ℕ) (frame : Frame) (old new : State)
    → slice_get old.book spec.series ≡ Some series
    → AnswersView series spec number frame old new → Step frame old new
answers-view series spec number frame old new stored a = answers-by spec.filter series spec number frame old new stored a

views : (series : Series) (id number w h : ℕ) (t0 t1 : ℤ) (range : RangeSpec) (filter : Option (List FilterStep)) (frame : Frame)
    (old new : State) → slice_get old.book id ≡ Some series
    → Views series id number w h t0 t1 range filter frame old new → Step frame old new
views series id number w h t0 t1 range filter frame old new stored v =
    answers-view series (record { series = id; grid = v.grid; range = range; filter = filter }) number frame old new stored v.view

views-series : (s : Option Series) (id number w h : ℕ) (t0 t1 : ℤ) (word : RangeWord) (filter : Option (List FilterStep)) (frame : Frame)
    (old new : State) → slice_get old.book id ≡ s
    → ViewsSeries s id number w h t0 t1 word filter frame old new → Step frame old new
views-series None id number w h t0 t1 word filter frame old new is v = refuses _ frame old new v
views-series (Some series) id number w h t0 t1 word filter frame old new is (inl v) = refuses _ frame old new v.1
views-series (Some series) id number w h t0 t1 word filter frame old new is (inr (inl v)) = refuses _ frame old new v.2
views-series (Some series) id number w h t0 t1 word filter frame old new is (inr (inr (inl v))) = refuses _ frame old new v.4
views-series (Some series) id number w h t0 t1 word filter frame old new is
    (inr (inr (inr v))) = views series id number w h t0 t1 _ filter frame old new is v.4

views-id : (o : Option ℕ) (number w h : ℕ) (t0 t1 : ℤ) (word : RangeWord) (filter : Option (List FilterStep)) (frame : Frame)
    (old new : State)
    → ViewsId o number w h t0 t1 word filter frame old new → Step frame old new
views-id None number w h t0 t1 word filter frame old new v = refuses _ frame old new v
views-id (Some id) number w h t0 t1 word filter frame old new v =
    views-series (slice_get old.book id) id number w h t0 t1 word filter frame old new refl v

to-view : (b : Bool) (number : ℕ) (name : List ℕ) (w h : ℕ) (t0 t1 : ℤ) (word : RangeWord) (filter : Option (List FilterStep))
    (frame : Frame) (old new : State)
    → RepliesToView b number name w h t0 t1 word filter frame old new → Step frame old new
to-view false number name w h t0 t1 word filter frame old new v = refuses _ frame old new v
to-view true number name w h t0 t1 word filter frame old new v = views-id (id_of name old.book) number w h t0 t1 word filter frame old new v

by-text : (text : Option (List ℕ)) (b : Bool) (number : ℕ) (name : List ℕ) (w h : ℕ) (t0 t1 : ℤ) (word : RangeWord) (frame : Frame)
    (old new : State)
    → RepliesByText text (λ filter. RepliesToView b number name w h t0 t1 word filter frame old new) frame old new → Step frame old new
by-text None b number name w h t0 t1 word frame old new v = to-view b number name w h t0 t1 word None frame old new v
by-text (Some text) b number name w h t0 t1 word frame old new (inl bad) = refuses _ frame old new bad.2
by-text (Some text) b number name w h t0 t1 word frame old new (inr good) = to-view b number name w h t0 t1 word
    (Some (postfix good.0)) frame old new good.2

moves-by : (last : ViewSpec) (number : ℕ) (t0 t1 : ℤ) (frame : Frame) (old new : State) → Moves last number t0 t1 frame old new
    → Step frame old new
moves-by last number t0 t1 frame old new m = elim m.reply [
  | inl bad ↦ refuses _ frame old new bad.1
  | inr good ↦ views m.series last.series number last.grid.w last.grid.h t0 t1 last.range last.filter frame old new m.there good.1
]

moves-last : (o : Option ViewSpec) (number : ℕ) (window : ViewSpec → ℤ × ℤ) (frame : Frame) (old new : State)
    → MovesLast o number window frame old new → Step frame old new
moves-last None number window frame old new m = refuses _ frame old new m
moves-last (Some last) number window frame old new m = moves-by last number (window last).0 (window last).1 frame old new m

moves : (o : Option Session) (number : ℕ) (window : ViewSpec → ℤ × ℤ) (frame : Frame) (old new : State)
    → MovesIn o number window frame old new → Step frame old new
moves None number window frame old new m = refuses _ frame old new m
moves (Some session) number window frame old new m = moves-last session.last number window frame old new m

pub replies : (r : Request) (frame : Frame) (old new : State) → Replies r frame old new → Step frame old new
replies (request.Edit edit) frame old new r = edits (apply old.book old.total edit) frame old new r
replies (request.Open number cache) frame old new r =
    opens (open_refusal old.sessions number (cache_of cache)) number (cache_of cache) frame old new refl r
replies (request.View number name w h t0 t1 word text) frame old new r = by-text text
    (is_open number old.sessions) number name w h t0 t1 word frame old new r
replies (request.Zoom number t0 t1) frame old new r = moves (session_of number old.sessions) number _ frame old new r
replies (request.Pan number by) frame old new r = moves (session_of number old.sessions) number _ frame old new r
replies (request.Close number) frame old new r = closes (is_open number old.sessions) number frame old new refl r

replies-to : (r : Result Request ℕ) (frame : Frame) (old new : State) → RepliesTo r frame old new → Step frame old new
replies-to (Err at) frame old new r = refuses _ frame old new r
replies-to (Ok r) frame old new e = replies r frame old new e

pub step-of : (line : Option (List ℕ)) (frame : Frame) (old new : State) → RepliesToLine line frame old new → Step frame old new
step-of None frame old new r = refuses _ frame old new r
step-of (Some text) frame old new r = replies-to (read_line text) frame old new r
