-- Each line has one reply, and there is one state after it.
use Rattle.std.proofs.Common.{◌≡◌, ℕ, ℤ, ◌+ℤ◌, ◌⊎◌, inl, inr, Bool, true, false, List, [], ◌∷◌, length, Option, None, Some, Result, Ok, Err}
use Rattle.std.proofs.Common.{refl, ap, sym, ◌∙◌, subst, arith}
use Rattle.std.specs.Prelude.{◌≤ℤ◌, slice_get}
use Rattle.std.proofs.lemmas.Int.{ints}
use Rattle.std.proofs.lemmas.List.Elements.{All-contains}
use Rattle.chart_grid.specs.declared.grid.Grid.{Grid}
use Rattle.chart_grid.specs.Limits.{IsWindow, IsBadWindow}
use Rattle.om3_coeff.specs.declared.key.Key.{Key}
use Rattle.om3_coeff.specs.declared.coef.Coef.{Coef}
use Rattle.om3_coeff.specs.Coefs.{coef}
use Rattle.coefficient_cache.specs.Views.{to_send}
use Rattle.view_keys.specs.Needed.{IsNeeded}
use Rattle.plain_chart.specs.declared.value_range.ValueRange.{ValueRange}
use Rattle.plain_chart.specs.Samples.{Spans, IsRange, kept, values_of, sample_points}
use Rattle.m4_groups.specs.declared.row.Row.{Row}
use Rattle.m4_groups.specs.Rows.{AreRowsOf}
use Rattle.value_filter.specs.declared.steps.Step.{Step}
use Rattle.value_filter.specs.Expressions.{Expression}
use Rattle.value_filter.specs.Steps.{postfix}
use Rattle.value_filter.specs.Grammar.{IsFilter, LeavesAt}
use Rattle.request_lines.specs.declared.ranges.RangeWord.{RangeWord}
use Rattle.request_lines.specs.declared.requests.Request.{Request}
use Rattle.request_lines.specs.declared.requests.Request.TheVariants as request
use Rattle.request_lines.specs.Requests.{read_line}
use Rattle.series_book.specs.declared.one_series.Series.{Series}
use Rattle.series_book.specs.declared.refusals.Refusal.{Refusal}
use Rattle.series_book.specs.declared.refusals.Refusal.TheVariants.{ViewTooLarge, BadFilter, BadWindow}
use Rattle.series_book.specs.Edits.{Edited, apply, id_of}
use Rattle.zoom_session.specs.declared.session.Session.{Session}
use Rattle.zoom_session.specs.declared.view_spec.ViewSpec.{ViewSpec}
use Rattle.zoom_session.specs.declared.view_spec.RangeSpec.{RangeSpec}
use Rattle.zoom_session.specs.declared.view_spec.RangeSpec.TheVariants.{Auto, Fixed}
use Rattle.zoom_session.specs.Sessions.{is_open, session_of, open_refusal, viewed}
use Rattle.chart_frames.specs.declared.frame.Frame.{Frame}
use Rattle.chart_frames.specs.declared.frame.Frame.TheVariants.{View, Rows}
use Rattle.chart_service.specs.State.{State}
use Rattle.chart_service.specs.ViewingLaws.{no_window, no_sides, no_range}
use Rattle.chart_service.specs.Viewing.{ShowsRange, AreNeeded, Answers, AnswersRows, axis_of, kept_by, range_spec, view_frame, rows_frame}
use Rattle.chart_service.specs.Replies.{refused, Refuses, Edits, Opens, Closes, NeedsTooMany, AnswersBy, AnswersView, Views, ViewsSeries}
use Rattle.chart_service.specs.Replies.{ViewsId, RepliesToView, RepliesByText, Moves, MovesLast, MovesIn, Replies, RepliesTo, RepliesToLine}
use Rattle.chart_service.specs.Replies.{cache_of}
use Rattle.chart_service.specs.Serving.{RepliesToAll}
use Rattle.chart_service.specs.Alone.{alone, own_lines, own_frames, NeverCrowded}
use Rattle.chart_service.proofs.Standing.{stands_alone}
use Rattle.view_keys.proofs.Orders.{one_list}
use Rattle.view_keys.proofs.Grids.{grid_same}

-- what is known of the layers below: points have one list of rows, and a text is read in one way
pub record Laws : Type 0 where
  pub rows : (g : Grid) (points : List (ℤ × ℤ)) (rows others : List Row) → AreRowsOf g points rows → AreRowsOf g points others
      → rows ≡ others
  pub filter : (text : List ℕ) (f g : Expression) → IsFilter text f → IsFilter text g → f ≡ g
  pub leaves : (text : List ℕ) (a b : ℕ) → LeavesAt text a → LeavesAt text b → a ≡ b
  pub either : (text : List ℕ) (f : Expression) (at : ℕ) → IsFilter text f → LeavesAt text at → ⊥

-- two frames are one, and so are the states behind them
abbrev Same : Frame → Frame → State → State → Type 0
Same f g s t = (f ≡ g) × (s ≡ t)

some_one : {A : Type 0} {a b : A} → Some a ≡ Some b → a ≡ b
some_one h = cc

refuses_one : (r : Refusal) (f g : Frame) (old s t : State) → Refuses r f old s → Refuses r g old t → Same f g s t
refuses_one r f g old s t a b = (a.reply ∙ sym b.reply, a.state ∙ sym b.state)

edits_one : (e : Result Edited Refusal) (f g : Frame) (old s t : State) → Edits e f old s → Edits e g old t → Same f g s t
edits_one (Err r) f g old s t a b = refuses_one r f g old s t a b
edits_one (Ok e) f g old s t a b = (a.0 ∙ sym b.0, a.1 ∙ sym b.1)

opens_one : (o : Option Refusal) (number cache : ℕ) (f g : Frame) (old s t : State) → Opens o number cache f old s
    → Opens o number cache g old t → Same f g s t
opens_one (Some r) number cache f g old s t a b = refuses_one r f g old s t a b
opens_one None number cache f g old s t a b = (a.0 ∙ sym b.0, a.1 ∙ sym b.1)

closes_one : (there : Bool) (number : ℕ) (f g : Frame) (old s t : State) → Closes there number f old s → Closes there number g old t
    → Same f g s t
closes_one false number f g old s t a b = refuses_one _ f g old s t a b
closes_one true number f g old s t a b = (a.0 ∙ sym b.0, a.1 ∙ sym b.1)

-- a least value and a greatest one are one
both_ways : (a b : ℤ) → a ≤ℤ b → b ≤ℤ a → a ≡ b
both_ways a b up down = grind (arith, ints)

spans_one : (values : List ℤ) (r q : ValueRange) → Spans values r → Spans values q → r ≡ q
spans_one values r q a b =
    let lo : r.lo ≡ q.lo = both_ways r.lo q.lo (All-contains (λ v. r.lo ≤ℤ v) values q.lo a.none_below b.least)
    (All-contains (λ v. q.lo ≤ℤ v) values r.lo b.none_below a.least) in
    let hi : r.hi ≡ q.hi = both_ways r.hi q.hi (All-contains (λ v. v ≤ℤ q.hi) values r.hi b.none_above a.greatest)
    (All-contains (λ v. v ≤ℤ r.hi) values q.hi a.none_above b.greatest) in
    λ i. record { lo = lo i; hi = hi i }

kept_one : (values : List ℤ) (r q : ValueRange) → IsRange values r → IsRange values q → r ≡ q
kept_one [] r q a b = λ i. record { lo = (a.0 ∙ sym b.0) i; hi = (a.1 ∙ sym b.1) i }
kept_one (v ∷ vs) r q a b = spans_one (v ∷ vs) r q a b

range_one : (spec : RangeSpec) (values : List ℤ) (r q : ValueRange) → ShowsRange spec values r → ShowsRange spec values q → r ≡ q
range_one Auto values r q a b = kept_one values r q a b
range_one (Fixed lo hi) values r q a b = λ i. record { lo = (a.0 ∙ sym b.0) i; hi = (a.1 ∙ sym b.1) i }

needed_one : (series : Series) (grid : Grid) (r q : ValueRange) (a b : List (Key × Coef)) → r ≡ q → AreNeeded series grid r a
    → AreNeeded series grid q b → a ≡ b
needed_one series grid r q a b same la lb =
    let P : ValueRange → Type 0 = λ x. AreNeeded series grid x b in
    one_list (IsNeeded series.slots (axis_of series) grid r.lo r.hi) (λ k. Some (coef series.slots k)) a b la (subst P (sym same) lb)

answers_one : (series : Series) (spec : ViewSpec) (number : ℕ) (f g : Frame) (old s t : State) → Answers series spec number f old s
    → Answers series spec number g old t → Same f g s t
answers_one series spec number f g old s t a b =
    let session : a.session ≡ b.session = some_one (sym a.open_is ∙ b.open_is) in
    let range : a.range ≡ b.range = range_one spec.range
    (values_of (kept spec.grid (axis_of series) series.slots)) a.range b.range a.shown b.shown in
    let needed : a.needed ≡ b.needed = needed_one series spec.grid a.range b.range a.needed b.needed range a.are_needed b.are_needed in
    let frames : View (view_frame number spec a.range series (to_send a.session.cache.pairs spec.series a.needed)) ≡ View
    (view_frame number spec b.range series (to_send b.session.cache.pairs spec.series b.needed)) =
    λ i. View (view_frame number spec (range i) series (to_send ((session i).cache.pairs) spec.series (needed i))) in
    let states : record old { sessions = viewed number spec (Some a.needed) old.sessions } ≡ record old
    { sessions = viewed number spec (Some b.needed) old.sessions } =
    λ i. record old { sessions = viewed number spec (Some (needed i)) old.sessions } in
    (a.frame_is ∙ frames ∙ sym b.frame_is, a.state ∙ states ∙ sym b.state)

too_many_one : (series : Series) (spec : ViewSpec) (number : ℕ) (f g : Frame) (old s t : State) → NeedsTooMany series spec number f old s
    → NeedsTooMany series spec number g old t → Same f g s t
too_many_one series spec number f g old s t a b =
    let session : a.session ≡ b.session = some_one (sym a.open_is ∙ b.open_is) in
    let range : a.range ≡ b.range = range_one spec.range
    (values_of (kept spec.grid (axis_of series) series.slots)) a.range b.range a.shown b.shown in
    let needed : a.needed ≡ b.needed = needed_one series spec.grid a.range b.range a.needed b.needed range a.are_needed b.are_needed in
    let frames : refused (ViewTooLarge (length a.needed) a.session.cache.capacity) ≡ refused
    (ViewTooLarge (length b.needed) b.session.cache.capacity) =
    λ i. refused (ViewTooLarge (length (needed i)) ((session i).cache.capacity)) in
    (a.refuses.reply ∙ frames ∙ sym b.refuses.reply, a.refuses.state ∙ sym b.refuses.state)

-- a view isn't both answered and too large
not_both : (series : Series) (spec : ViewSpec) (number : ℕ) (f g : Frame) (old s t : State) → NeedsTooMany series spec number f old s
    → Answers series spec number g old t → ⊥
not_both series spec number f g old s t a b =
    let session : a.session ≡ b.session = some_one (sym a.open_is ∙ b.open_is) in
    let range : a.range ≡ b.range = range_one spec.range
    (values_of (kept spec.grid (axis_of series) series.slots)) a.range b.range a.shown b.shown in
    let needed : a.needed ≡ b.needed = needed_one series spec.grid a.range b.range a.needed b.needed range a.are_needed b.are_needed in
    absurd (omega (arith, a.passes, b.room, ap length needed, ap (λ s. s.cache.capacity) session))

coefs_one : (series : Series) (spec : ViewSpec) (number : ℕ) (f g : Frame) (old s t : State) → AnswersBy None series spec number f old s
    → AnswersBy None series spec number g old t → Same f g s t
coefs_one series spec number f g old s t (inl a) (inl b) = too_many_one series spec number f g old s t a b
coefs_one series spec number f g old s t (inl a) (inr b) = absurd (not_both series spec number f g old s t a b)
coefs_one series spec number f g old s t (inr a) (inl b) = absurd (not_both series spec number g f old t s b a)
coefs_one series spec number f g old s t (inr a) (inr b) = answers_one series spec number f g old s t a b

rows_one : (laws : Laws) (series : Series) (spec : ViewSpec) (number : ℕ) (f g : Frame) (old s t : State)
    → AnswersRows series spec number f old s → AnswersRows series spec number g old t → Same f g s t
rows_one laws series spec number f g old s t a b =
    let range : a.range ≡ b.range = range_one spec.range (values_of (kept_by spec series)) a.range b.range a.shown b.shown in
    let rows : a.rows ≡ b.rows = laws.rows spec.grid (sample_points (kept_by spec series)) a.rows b.rows a.are_rows b.are_rows in
    let frames : Rows (rows_frame number spec a.range a.rows) ≡ Rows (rows_frame number spec b.range b.rows) =
    λ i. Rows (rows_frame number spec (range i) (rows i)) in
    (a.frame_is ∙ frames ∙ sym b.frame_is, a.state ∙ sym b.state)

by_one : (laws : Laws) (o : Option (List Step)) (series : Series) (spec : ViewSpec) (number : ℕ) (f g : Frame) (old s t : State)
    → AnswersBy o series spec number f old s → AnswersBy o series spec number g old t → Same f g s t
by_one laws None series spec number f g old s t a b = coefs_one series spec number f g old s t a b
by_one laws (Some steps) series spec number f g old s t a b = rows_one laws series spec number f g old s t a b

view_one : (laws : Laws) (series : Series) (spec : ViewSpec) (number : ℕ) (f g : Frame) (old s t : State)
    → AnswersView series spec number f old s → AnswersView series spec number g old t → Same f g s t
view_one laws series spec number f g old s t a b = by_one laws spec.filter series spec number f g old s t a b

views_one : (laws : Laws) (series : Series) (id number w h : ℕ) (t0 t1 : ℤ) (range : RangeSpec) (filter : Option (List Step)) (f g : Frame)
    (old s t : State) → Views series id number w h t0 t1 range filter f old s → Views series id number w h t0 t1 range filter g old t
    → Same f g s t
views_one laws series id number w h t0 t1 range filter f g old s t a b =
    let grids : b.grid ≡ a.grid = grid_same b.grid a.grid (b.window.from ∙ sym a.window.from) (b.window.to
    ∙ sym a.window.to) (b.canvas.columns ∙ sym a.canvas.columns) (b.canvas.rows ∙ sym a.canvas.rows) in
    let P : Grid → Type 0 = λ x. AnswersView series (record { series = id; grid = x; range = range; filter = filter }) number g old t in
    view_one laws series (record { series = id; grid = a.grid; range = range; filter = filter }) number f g old s t a.view
    (subst P grids b.view)

series_one : (laws : Laws) (o : Option Series) (id number w h : ℕ) (t0 t1 : ℤ) (r : RangeWord) (filter : Option (List Step)) (f g : Frame)
    (old s t : State) → ViewsSeries o id number w h t0 t1 r filter f old s → ViewsSeries o id number w h t0 t1 r filter g old t
    → Same f g s t
series_one laws None id number w h t0 t1 r filter f g old s t a b = refuses_one _ f g old s t a b
series_one laws (Some x) id number w h t0 t1 r filter f g old s t (inl a) (inl b) = refuses_one _ f g old s t a.1 b.1
series_one laws (Some x) id number w h t0 t1 r filter f g old s t (inl a) (inr (inl b)) = absurd (no_window t0 t1 b.0 a.0)
series_one laws (Some x) id number w h t0 t1 r filter f g old s t (inl a) (inr (inr (inl b))) = absurd (no_window t0 t1 b.0 a.0)
series_one laws (Some x) id number w h t0 t1 r filter f g old s t (inl a) (inr (inr (inr b))) = absurd (no_window t0 t1 b.0 a.0)
series_one laws (Some x) id number w h t0 t1 r filter f g old s t (inr (inl a)) (inl b) = absurd (no_window t0 t1 a.0 b.0)
series_one laws (Some x) id number w h t0 t1 r filter f g old s t (inr (inl a)) (inr (inl b)) = refuses_one _ f g old s t a.2 b.2
series_one laws (Some x) id number w h t0 t1 r filter f g old s t (inr (inl a)) (inr (inr (inl b))) = absurd (no_sides w h b.1 b.2 a.1)
series_one laws (Some x) id number w h t0 t1 r filter f g old s t (inr (inl a)) (inr (inr (inr b))) = absurd (no_sides w h b.1 b.2 a.1)
series_one laws (Some x) id number w h t0 t1 r filter f g old s t (inr (inr (inl a))) (inl b) = absurd (no_window t0 t1 a.0 b.0)
series_one laws (Some x) id number w h t0 t1 r filter f g old s t (inr (inr (inl a))) (inr (inl b)) = absurd (no_sides w h a.1 a.2 b.1)
series_one laws (Some x) id number w h t0 t1 r filter f g old s t (inr (inr (inl a)))
    (inr (inr (inl b))) = refuses_one _ f g old s t a.4 b.4
series_one laws (Some x) id number w h t0 t1 r filter f g old s t (inr (inr (inl a))) (inr (inr (inr b))) = absurd (no_range r b.3 a.3)
series_one laws (Some x) id number w h t0 t1 r filter f g old s t (inr (inr (inr a))) (inl b) = absurd (no_window t0 t1 a.0 b.0)
series_one laws (Some x) id number w h t0 t1 r filter f g old s t (inr (inr (inr a))) (inr (inl b)) = absurd (no_sides w h a.1 a.2 b.1)
series_one laws (Some x) id number w h t0 t1 r filter f g old s t (inr (inr (inr a))) (inr (inr (inl b))) = absurd (no_range r a.3 b.3)
series_one laws (Some x) id number w h t0 t1 r filter f g old s t (inr (inr (inr a)))
    (inr (inr (inr b))) = views_one laws x id number w h t0 t1 (range_spec r) filter f g old s t a.4 b.4

id_one : (laws : Laws) (o : Option ℕ) (number w h : ℕ) (t0 t1 : ℤ) (r : RangeWord) (filter : Option (List Step)) (f g : Frame)
    (old s t : State) → ViewsId o number w h t0 t1 r filter f old s → ViewsId o number w h t0 t1 r filter g old t → Same f g s t
id_one laws None number w h t0 t1 r filter f g old s t a b = refuses_one _ f g old s t a b
id_one laws (Some id) number w h t0 t1 r filter f g old s t a b = series_one laws
    (slice_get old.book id) id number w h t0 t1 r filter f g old s t a b

open_one : (laws : Laws) (there : Bool) (number : ℕ) (name : List ℕ) (w h : ℕ) (t0 t1 : ℤ) (r : RangeWord) (filter : Option (List Step))
    (f g : Frame) (old s t : State) → RepliesToView there number name w h t0 t1 r filter f old s
    → RepliesToView there number name w h t0 t1 r filter g old t → Same f g s t
open_one laws false number name w h t0 t1 r filter f g old s t a b = refuses_one _ f g old s t a b
open_one laws true number name w h t0 t1 r filter f g old s t a b = id_one laws
    (id_of name old.book) number w h t0 t1 r filter f g old s t a b

text_one : (laws : Laws) (text : Option (List ℕ)) (there : Bool) (number : ℕ) (name : List ℕ) (w h : ℕ) (t0 t1 : ℤ) (r : RangeWord)
    (f g : Frame) (old s t : State) → RepliesByText text (λ filter. RepliesToView there number name w h t0 t1 r filter f old s) f old s
    → RepliesByText text (λ filter. RepliesToView there number name w h t0 t1 r filter g old t) g old t → Same f g s t
text_one laws None there number name w h t0 t1 r f g old s t a b = open_one laws there number name w h t0 t1 r None f g old s t a b
text_one laws (Some text) there number name w h t0 t1 r f g old s t (inl a) (inl b) =
    let P : ℕ → Type 0 = λ at. Refuses (BadFilter at) g old t in
    refuses_one _ f g old s t a.2 (subst P (laws.leaves text b.0 a.0 b.1 a.1) b.2)
text_one laws (Some text) there number name w h t0 t1 r f g old s t (inl a) (inr b) = absurd (laws.either text b.0 a.0 b.1 a.1)
text_one laws (Some text) there number name w h t0 t1 r f g old s t (inr a) (inl b) = absurd (laws.either text a.0 b.0 a.1 b.1)
text_one laws (Some text) there number name w h t0 t1 r f g old s t (inr a) (inr b) =
    let P : Expression → Type 0 = λ e. RepliesToView there number name w h t0 t1 r (Some (postfix e)) g old t in
    open_one laws there number name w h t0 t1 r (Some (postfix a.0)) f g old s t a.2 (subst P (laws.filter text b.0 a.0 b.1 a.1) b.2)

abbrev Moved : Series → ViewSpec → ℕ → ℤ → ℤ → Frame → State → State → Type 0
Moved x last number t0 t1 f old s =
    (IsBadWindow t0 t1 × Refuses BadWindow f old s)
    ⊎ (IsWindow t0 t1 × Views x last.series number last.grid.w last.grid.h t0 t1 last.range last.filter f old s)

moved_one : (laws : Laws) (x : Series) (last : ViewSpec) (number : ℕ) (t0 t1 : ℤ) (f g : Frame) (old s t : State)
    → Moved x last number t0 t1 f old s → Moved x last number t0 t1 g old t → Same f g s t
moved_one laws x last number t0 t1 f g old s t (inl a) (inl b) = refuses_one _ f g old s t a.1 b.1
moved_one laws x last number t0 t1 f g old s t (inl a) (inr b) = absurd (no_window t0 t1 b.0 a.0)
moved_one laws x last number t0 t1 f g old s t (inr a) (inl b) = absurd (no_window t0 t1 a.0 b.0)
moved_one laws x last number t0 t1 f g old s t (inr a)
    (inr b) = views_one laws x last.series number last.grid.w last.grid.h t0 t1 last.range last.filter f g old s t a.1 b.1

moves_one : (laws : Laws) (last : ViewSpec) (number : ℕ) (t0 t1 : ℤ) (f g : Frame) (old s t : State) → Moves last number t0 t1 f old s
    → Moves last number t0 t1 g old t → Same f g s t
moves_one laws last number t0 t1 f g old s t a b =
    let same : b.series ≡ a.series = some_one (sym b.there ∙ a.there) in
    let P : Series → Type 0 = λ x. Moved x last number t0 t1 g old t in
    moved_one laws a.series last number t0 t1 f g old s t a.reply (subst P same b.reply)

last_one : (laws : Laws) (o : Option ViewSpec) (number : ℕ) (window : ViewSpec → ℤ × ℤ) (f g : Frame) (old s t : State)
    → MovesLast o number window f old s → MovesLast o number window g old t → Same f g s t
last_one laws None number window f g old s t a b = refuses_one _ f g old s t a b
last_one laws (Some last) number window f g old s t a b = moves_one laws last number (window last).0 (window last).1 f g old s t a b

session_one : (laws : Laws) (o : Option Session) (number : ℕ) (window : ViewSpec → ℤ × ℤ) (f g : Frame) (old s t : State)
    → MovesIn o number window f old s → MovesIn o number window g old t → Same f g s t
session_one laws None number window f g old s t a b = refuses_one _ f g old s t a b
session_one laws (Some x) number window f g old s t a b = last_one laws x.last number window f g old s t a b

pub request_one : (laws : Laws) (r : Request) (f g : Frame) (old s t : State) → Replies r f old s → Replies r g old t → Same f g s t
request_one laws (request.Edit e) f g old s t a b = edits_one (apply old.book old.total e) f g old s t a b
request_one laws (request.Open number cache) f g old s t a b = opens_one (open_refusal old.sessions number (cache_of cache)) number
    (cache_of cache) f g old s t a b
request_one laws (request.View number name w h t0 t1 r text) f g old s t a b = text_one laws text
    (is_open number old.sessions) number name w h t0 t1 r f g old s t a b
request_one laws (request.Zoom number t0 t1) f g old s t a b = session_one laws (session_of number old.sessions) number
    (λ last. (t0, t1)) f g old s t a b
request_one laws (request.Pan number by) f g old s t a b = session_one laws (session_of number old.sessions) number
    (λ last. (last.grid.t0 +ℤ by, last.grid.t1 +ℤ by)) f g old s t a b
request_one laws (request.Close number) f g old s t a b = closes_one (is_open number old.sessions) number f g old s t a b

read_one : (laws : Laws) (r : Result Request ℕ) (f g : Frame) (old s t : State) → RepliesTo r f old s → RepliesTo r g old t → Same f g s t
read_one laws (Err at) f g old s t a b = refuses_one _ f g old s t a b
read_one laws (Ok r) f g old s t a b = request_one laws r f g old s t a b

pub line_one : (laws : Laws) (line : Option (List ℕ)) (f g : Frame) (old s t : State) → RepliesToLine line f old s
    → RepliesToLine line g old t → Same f g s t
line_one laws None f g old s t a b = refuses_one _ f g old s t a b
line_one laws (Some text) f g old s t a b = read_one laws (read_line text) f g old s t a b

pub lines_one : (laws : Laws) (lines : List (Option (List ℕ))) (fs gs : List Frame) (old s t : State) → RepliesToAll old lines fs s
    → RepliesToAll old lines gs t → (fs ≡ gs) × (s ≡ t)
lines_one laws [] [] [] old s t a b = (refl, a ∙ sym b)
lines_one laws [] [] (g ∷ gs) old s t a b = absurd b
lines_one laws [] (f ∷ fs) gs old s t a b = absurd a
lines_one laws (l ∷ ls) [] gs old s t a b = absurd a
lines_one laws (l ∷ ls) (f ∷ fs) [] old s t a b = absurd b
lines_one laws (l ∷ ls) (f ∷ fs) (g ∷ gs) old s t a b =
    let first = line_one laws l f g old a.0 b.0 a.1.0 b.1.0 in
    let P : State → Type 0 = λ x. RepliesToAll x ls gs t in
    let later = lines_one laws ls fs gs a.0 s t a.2 (subst P (sym first.1) b.2) in
    (λ i. first.0 i ∷ later.0 i, later.1)

-- the frames of a session are the same, whatever lines of others stand between
pub same_alone : (laws : Laws) (n : ℕ) (lines others : List (Option (List ℕ))) (frames answers : List Frame) (old new behind : State)
    → RepliesToAll old lines frames new → RepliesToAll old others answers behind → NeverCrowded (own_frames n lines frames)
    → NeverCrowded (own_frames n others answers) → own_lines n lines ≡ own_lines n others
    → own_frames n lines frames ≡ own_frames n others answers
same_alone laws n lines others frames answers old new behind a b room space same =
    let P : List (Option (List ℕ)) → Type 0 = λ l. RepliesToAll (alone n old) l (own_frames n others answers) (alone n behind) in
    (lines_one laws (own_lines n lines) (own_frames n lines frames) (own_frames n others answers) (alone n old) (alone n new)
    (alone n behind)
    (stands_alone n lines frames old new a room)
    (subst P (sym same) (stands_alone n others answers old behind b space))).0
