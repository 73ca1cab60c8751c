-- What is planned for a view, and how it is answered.
use Rattle.std.proofs.Common.{◌≡◌, ℕ, ℤ, ◌^◌, ◌<◌, ◌≤◌, Bool, true, List, length, Option, None, Some, Result, Ok, Err, IfOk, IfErr, refl}
use Rattle.std.proofs.Common.{ap, sym, ◌∙◌, subst, inl, inr, arith}
use Rattle.std.specs.Prelude.{IsSomeAnd, slice_get}
use Rattle.std.proofs.lemmas.Option.{slice_get_cases}
use Rattle.chart_grid.specs.declared.grid_error.GridError.{GridError}
use Rattle.chart_grid.specs.declared.axis.Axis.{Axis}
use Rattle.chart_grid.specs.declared.grid.Grid.{Grid}
use Rattle.chart_grid.specs.Limits as window
use Rattle.om3_coeff.specs.declared.key.Key.{Key}
use Rattle.om3_coeff.specs.declared.coef.Coef.{Coef}
use Rattle.om3_coeff.specs.declared.errors.NodeError.{NodeError}
use Rattle.om3_coeff.specs.declared.errors.NodeError.TheVariants.{DiskFault}
use Rattle.om3_coeff.specs.View.{NodesView, Agrees, HasCause}
use Rattle.value_filter.specs.declared.steps.Step.{Step}
use Rattle.request_lines.specs.declared.ranges.RangeWord.{RangeWord}
use Rattle.series_book.specs.declared.one_series.Series.{Series}
use Rattle.series_book.specs.declared.refusals.Refusal.{Refusal}
use Rattle.series_book.specs.declared.refusals.Refusal.TheVariants.{BadWindow, BadCanvas, BadRange, ViewTooLarge}
use Rattle.series_book.specs.Edits.{id_of}
use Rattle.zoom_session.specs.declared.session.Session.{Session}
use Rattle.zoom_session.specs.declared.view_spec.ViewSpec.{ViewSpec}
use Rattle.zoom_session.specs.declared.view_spec.RangeSpec.{RangeSpec}
use Rattle.zoom_session.specs.declared.errors.PlanError.{PlanError}
use Rattle.zoom_session.specs.declared.errors.PlanError.TheVariants.{TooLarge, Node, NoMemory}
use Rattle.zoom_session.specs.Planned.{IsInBounds}
use Rattle.zoom_session.specs.Plans.{AreNeeded as NeededBy, PlansIn}
use Rattle.zoom_session.specs.Sessions.{session_of, viewed, is_open}
use Rattle.chart_frames.specs.declared.frame.Frame.{Frame}
use Rattle.chart_frames.specs.declared.frame.Frame.TheVariants.{View}
use Rattle.chart_frames.specs.declared.frame.ViewFrame.{ViewFrame}
use Rattle.chart_frames.specs.Frames.{FitsView}
use Rattle.chart_service.specs.State.{State}
use Rattle.chart_service.specs.Viewing.{AreNeeded, Answers, axis_of, root_of, has_of, least_of, greatest_of, range_spec, view_frame}
use Rattle.chart_service.specs.Replies.{refused, Refuses, NeedsTooMany, AnswersBy, AnswersView, ViewsSeries, ViewsId, RepliesToView, Moves}
use Rattle.chart_service.specs.Replies.{MovesLast, MovesIn}
use Rattle.chart_service.specs.Planning.{TellsOf, AreInFrame, planned_frame, IsPlannedFor, RefusesView, CountsOver, StopsIn, PlansOrStops}
use Rattle.chart_service.specs.Planning.{IsSpec, RefusesSpec, IsMoved, IsLast, IsLastOf}
use Rattle.chart_service.specs.declared.shown.Planned.{Planned}
use Rattle.chart_service.specs.declared.shown.Told.{Told}
use Rattle.chart_service.specs.Looking.{IsGoodPlan}
use Rattle.chart_service.specs.declared.viewport.Viewport.{Viewport}
use Rattle.chart_service.proofs.Showing.{plan_fits}

stops_in : (series : Series) (spec : ViewSpec) (session : Option Session) (old new : NodesView) (error : PlanError)
    → ((e : NodeError) → HasCause old new e → e ≡ DiskFault) → RefusesView session old new error
    → CountsOver series.slots (axis_of series) spec error → StopsIn series spec session error
stops_in series spec None old new error never refuses counts = refuses
stops_in series spec (Some s) old new (TooLarge needed cache) never refuses counts = record {
  range = counts.0;
  shown = counts.1;
  keys = counts.2.0;
  are_needed = counts.2.1;
  counted = counts.2.2;
  capacity = refuses.cache_so;
  passes = refuses.more;
}
stops_in series spec (Some s) old new (Node e) never refuses counts = never e refuses
stops_in series spec (Some s) old new NoMemory never refuses counts = tt

-- what is planned over the nodes of a series
pub planned_so : (series : Series) (spec : ViewSpec) (session : Option Session) (old new : NodesView) (r : Result Planned PlanError)
    → ((e : NodeError) → HasCause old new e → e ≡ DiskFault) → IfOk r (λ p. AreNeeded series spec.grid p.told.range p.plan.needed)
    → IfOk r (λ p. PlansIn session spec.series p.plan) → IfOk r (λ p. IsInBounds p.plan)
    → IfOk r (λ p. TellsOf series.slots (axis_of series) spec p.told) → IfOk r (λ p. AreInFrame p.told)
    → IfErr r (RefusesView session old new) → IfErr r (CountsOver series.slots (axis_of series) spec) → PlansOrStops series spec session r
planned_so series spec session old new (Ok p) never needed plans bounds tells frame refuses counts = record {
  needed = needed;
  plan = plans;
  bounds = bounds;
  told = tells;
  in_frame = frame;
}
planned_so series spec session old new (Err e) never needed plans bounds tells frame refuses counts = stops_in series spec session old new e
    never refuses counts

-- the same, by what the nodes agree with
pub planned_over : (series : Series) (spec : ViewSpec) (session : Option Session) (axis : Axis) (old new : NodesView)
    (r : Result Planned PlanError) → axis ≡ axis_of series → Agrees old series.slots
    → ((e : NodeError) → HasCause old new e → e ≡ DiskFault)
    → ((l : List (Option ℤ)) → Agrees old l → IfOk r (λ p. NeededBy l axis spec.grid p.told.range.lo p.told.range.hi p.plan.needed))
    → IfOk r (λ p. PlansIn session spec.series p.plan) → IfOk r (λ p. IsInBounds p.plan)
    → ((l : List (Option ℤ)) → Agrees old l → IfOk r (λ p. TellsOf l axis spec p.told)) → IfOk r (λ p. AreInFrame p.told)
    → IfErr r (RefusesView session old new) → ((l : List (Option ℤ)) → Agrees old l → IfErr r (CountsOver l axis spec))
    → PlansOrStops series spec session r
planned_over series spec session axis old new r at mine never needed plans bounds tells frame refuses counts =
    let N : Axis → Type 0 = λ a. IfOk r (λ p. NeededBy series.slots a spec.grid p.told.range.lo p.told.range.hi p.plan.needed) in
    let T : Axis → Type 0 = λ a. IfOk r (λ p. TellsOf series.slots a spec p.told) in
    let C : Axis → Type 0 = λ a. IfErr r (CountsOver series.slots a spec) in
    planned_so series spec session old new r never (subst N at (needed series.slots mine)) plans bounds
    (subst T at (tells series.slots mine)) frame refuses (subst C at (counts series.slots mine))

-- a view with too many keys is refused
too_many : (series : Series) (spec : ViewSpec) (number needed cache : ℕ) (old : State) (o : Option Session)
    → session_of number old.sessions ≡ o → StopsIn series spec o (TooLarge needed cache)
    → NeedsTooMany series spec number (refused (ViewTooLarge needed cache)) old old
too_many series spec number needed cache old None is stops = absurd stops
too_many series spec number needed cache old (Some session) is stops =
    let R : ℕ → Type 0 = λ n. Refuses (ViewTooLarge n session.cache.capacity) (refused (ViewTooLarge needed cache)) old old in
    let C : ℕ → Type 0 = λ c. Refuses (ViewTooLarge needed c) (refused (ViewTooLarge needed cache)) old old in
    record {
      session = session;
      open_is = is;
      range = stops.range;
      shown = stops.shown;
      needed = stops.keys;
      are_needed = stops.are_needed;
      passes = omega (arith, stops.passes, stops.capacity, stops.counted);
      refuses = subst R (sym stops.counted) (subst C stops.capacity (record { reply = refl; state = refl }));
    }

pub refused_too_large : (book : Option Series) (spec : ViewSpec) (number needed cache : ℕ) (old : State) (frame : Frame)
    → IsSomeAnd book (λ series. StopsIn series spec (session_of number old.sessions) (TooLarge needed cache))
    → frame ≡ refused (ViewTooLarge needed cache) → IsSomeAnd book (λ series. AnswersBy None series spec number frame old old)
refused_too_large None spec number needed cache old frame stops is = stops
refused_too_large (Some series) spec number needed cache old frame stops is =
    let P : Frame → Type 0 = λ f. AnswersBy None series spec number f old old in
    subst P (sym is) (inl (too_many series spec number needed cache old (session_of number old.sessions) refl stops))

answers_in : (series : Series) (spec : ViewSpec) (number : ℕ) (p : Planned) (old new : State) (o : Option Session)
    → session_of number old.sessions ≡ o → IsPlannedFor series spec o p
    → new ≡ record old { sessions = viewed number spec (Some p.plan.needed) old.sessions }
    → Answers series spec number (View (view_frame number spec p.told.range series p.plan.send)) old new
answers_in series spec number p old new None is planned state = absurd planned.plan
answers_in series spec number p old new (Some session) is planned state = record {
  session = session;
  open_is = is;
  needed = p.plan.needed;
  are_needed = planned.needed;
  room = planned.plan.room;
  range = p.told.range;
  shown = planned.told.shown;
  frame_is = ap (λ send. View (view_frame number spec p.told.range series send)) planned.plan.send;
  state = state;
}

-- the frame of what is planned, by the series
frame_as : (number id : ℕ) (grid : Grid) (spec : ViewSpec) (series : Series) (told : Told) (send : List (Key × Coef)) → id ≡ spec.series
    → grid ≡ spec.grid → told.axis ≡ axis_of series → told.root ≡ root_of series
    → planned_frame number id grid told send ≡ view_frame number spec told.range series send
frame_as number id grid spec series told send id_is grid_is axis root = λ i. record {
  session = number;
  series = id_is i;
  w = ap (λ (g : Grid). g.w) grid_is i;
  h = ap (λ (g : Grid). g.h) grid_is i;
  t0 = ap (λ (g : Grid). g.t0) grid_is i;
  t1 = ap (λ (g : Grid). g.t1) grid_is i;
  lo = told.range.lo;
  hi = told.range.hi;
  start = ap (λ (a : Axis). a.start) axis i;
  step = ap (λ (a : Axis). a.step) axis i;
  slots = ap (λ (a : Axis). a.slots) axis i;
  has = ap has_of root i;
  rmin = ap least_of root i;
  rmax = ap greatest_of root i;
  count = length send;
  coefs = send;
}

-- an answered view
pub answered_view : (book : Option Series) (spec : ViewSpec) (number : ℕ) (p : Planned) (old new : State) (view : ViewFrame)
    → IsSomeAnd book (λ series. IsPlannedFor series spec (session_of number old.sessions) p)
    → view ≡ planned_frame number spec.series spec.grid p.told p.plan.send
    → new ≡ record old { sessions = viewed number spec (Some p.plan.needed) old.sessions }
    → IsSomeAnd book (λ series. AnswersBy None series spec number (View view) old new)
answered_view None spec number p old new view planned is state = planned
answered_view (Some series) spec number p old new view planned is state =
    let P : ViewFrame → Type 0 = λ v. AnswersBy None series spec number (View v) old new in
    let shows = is ∙ frame_as number spec.series spec.grid spec series p.told p.plan.send refl refl planned.told.axis_is planned.told.root
    in
    subst P (sym shows) (inr (answers_in series spec number p old new (session_of number old.sessions) refl planned state))

-- its fields
pub answered_fits : (number : ℕ) (spec : ViewSpec) (p : Planned) (view : ViewFrame) → IsGoodPlan p
    → view ≡ planned_frame number spec.series spec.grid p.told p.plan.send → 1 ≤ number → number < 2 ^ 32 → spec.series < 512
    → window.IsWindow spec.grid.t0 spec.grid.t1 → window.IsSide spec.grid.w → window.IsSide spec.grid.h → FitsView view
answered_fits number spec p view good is low high few shown wide tall = subst FitsView (sym is)
    (plan_fits number spec.series spec.grid p good low high few shown wide tall)

views_series : (series : Series) (id number : ℕ) (v : Viewport) (word : RangeWord) (filter : Option (List Step)) (spec : ViewSpec)
    (frame : Frame) (old new : State) → IsSpec id v word filter spec → AnswersView series spec number frame old new
    → ViewsSeries (Some series) id number v.w v.h v.t0 v.t1 word filter frame old new
views_series series id number v word filter spec frame old new is answers =
    let S : ℕ → Type 0 = λ n. AnswersView series (record { series = n; grid = spec.grid; range = spec.range; filter = spec.filter }) number
    frame old new in
    let R : RangeSpec → Type 0 = λ r. AnswersView series
    (record { series = id; grid = spec.grid; range = r; filter = spec.filter }) number frame old new in
    let F : Option (List Step) → Type 0 = λ o. AnswersView series
    (record { series = id; grid = spec.grid; range = range_spec word; filter = o }) number frame old new in
    inr (inr (inr (
      is.grid.in_range,
      is.grid.wide,
      is.grid.high,
      is.good,
      record {
        grid = spec.grid;
        window = is.grid.window;
        canvas = is.grid.canvas;
        view = subst F is.filter_is (subst R is.range (subst S is.of answers));
      },
    )))

views_at : (o : Option Series) (id number : ℕ) (v : Viewport) (word : RangeWord) (filter : Option (List Step)) (spec : ViewSpec)
    (frame : Frame) (old new : State) → IsSpec id v word filter spec → IsSomeAnd o (λ series. AnswersView series spec number frame old new)
    → ViewsSeries o id number v.w v.h v.t0 v.t1 word filter frame old new
views_at None id number v word filter spec frame old new is answers = absurd answers
views_at (Some series) id number v word filter spec frame old new is answers = views_series series id number v word filter spec frame old
    new is answers

-- an answered view of the series of an id
pub views_id : (id number : ℕ) (v : Viewport) (word : RangeWord) (filter : Option (List Step)) (spec : ViewSpec) (frame : Frame)
    (old new : State) → IsSpec id v word filter spec
    → IsSomeAnd (slice_get old.book spec.series) (λ series. AnswersView series spec number frame old new)
    → ViewsId (Some id) number v.w v.h v.t0 v.t1 word filter frame old new
views_id id number v word filter spec frame old new is answers =
    let P : ℕ → Type 0 = λ n. IsSomeAnd (slice_get old.book n) (λ series. AnswersView series spec number frame old new) in
    views_at (slice_get old.book id) id number v word filter spec frame old new is (subst P is.of answers)

refuses_frame : (why refusal : Refusal) (frame : Frame) (old : State) → why ≡ refusal → frame ≡ refused why → Refuses refusal frame old old
refuses_frame why refusal frame old same is = record { reply = is ∙ ap refused same; state = refl }

refuses_series : (series : Series) (id number : ℕ) (v : Viewport) (word : RangeWord) (filter : Option (List Step)) (refusal : Refusal)
    (frame : Frame) (old : State) → RefusesSpec v word refusal → frame ≡ refused refusal
    → ViewsSeries (Some series) id number v.w v.h v.t0 v.t1 word filter frame old old
refuses_series series id number v word filter refusal frame old (inl bad) is = inl (
  bad.0,
  refuses_frame refusal BadWindow frame old bad.1 is,
)
refuses_series series id number v word filter refusal frame old (inr (inl bad)) is = inr
    (inl (bad.0, bad.1, refuses_frame refusal BadCanvas frame old bad.2 is))
refuses_series series id number v word filter refusal frame old (inr (inr bad)) is = inr
    (inr (inl (bad.0, bad.1, bad.2, bad.3, refuses_frame refusal BadRange frame old bad.4 is)))

-- the series of an id that is there
there_is : (P : Option Series → Type 0) (book : List Series) (id : ℕ) → id < length book
    → ((series : Series) → slice_get book id ≡ Some series → P (Some series)) → P (slice_get book id)
there_is P book id below holds = elim (slice_get_cases book id).1 [
  | inl found ↦ subst P (sym found.2) (holds found.0 found.2)
  | inr none ↦ absurd (omega (arith, below, none.0))
]

-- a refused one
pub refuses_id : (id number : ℕ) (v : Viewport) (word : RangeWord) (filter : Option (List Step)) (refusal : Refusal) (frame : Frame)
    (old : State) → id < length old.book → RefusesSpec v word refusal → frame ≡ refused refusal
    → ViewsId (Some id) number v.w v.h v.t0 v.t1 word filter frame old old
refuses_id id number v word filter refusal frame old below why is =
    let P : Option Series → Type 0 = λ o. ViewsSeries o id number v.w v.h v.t0 v.t1 word filter frame old old in
    there_is P old.book id below (λ series there. refuses_series series id number v word filter refusal frame old why is)

-- a view in an open session, of a series that is there
pub replies_to_view : (number : ℕ) (name : List ℕ) (v : Viewport) (word : RangeWord) (filter : Option (List Step)) (id : ℕ) (frame : Frame)
    (old new : State) → is_open number old.sessions ≡ true → id_of name old.book ≡ Some id
    → ViewsId (Some id) number v.w v.h v.t0 v.t1 word filter frame old new
    → RepliesToView (is_open number old.sessions) number name v.w v.h v.t0 v.t1 word filter frame old new
replies_to_view number name v word filter id frame old new there is views =
    let B : Bool → Type 0 = λ b. RepliesToView b number name v.w v.h v.t0 v.t1 word filter frame old new in
    let I : Option ℕ → Type 0 = λ o. ViewsId o number v.w v.h v.t0 v.t1 word filter frame old new in
    subst B (sym there) (subst I (sym is) views)

moves_at : (o : Option Series) (last : ViewSpec) (number : ℕ) (t0 t1 : ℤ) (g : Grid) (frame : Frame) (old new : State)
    → slice_get old.book last.series ≡ o → IsMoved last.grid t0 t1 (Ok g)
    → IsSomeAnd o (λ series. AnswersView series (record { series = last.series; grid = g; range = last.range; filter = last.filter }) number
    frame old new) → Moves last number t0 t1 frame old new
moves_at None last number t0 t1 g frame old new is moved answers = absurd answers
moves_at (Some series) last number t0 t1 g frame old new is moved answers = record {
  series = series;
  there = is;
  reply = inr (moved.0, record { grid = g; window = moved.1; canvas = moved.2; view = answers });
}

-- the last view over another window is answered
pub moves_answered : (last : ViewSpec) (number : ℕ) (t0 t1 : ℤ) (g : Grid) (frame : Frame) (old new : State)
    → IsMoved last.grid t0 t1 (Ok g) → IsSomeAnd (slice_get old.book last.series)
    (λ series. AnswersView series (record { series = last.series; grid = g; range = last.range; filter = last.filter }) number frame old
    new) → Moves last number t0 t1 frame old new
moves_answered last number t0 t1 g frame old new = moves_at (slice_get old.book last.series) last number t0 t1 g frame old new refl

-- or refused
pub moves_refused : (last : ViewSpec) (number : ℕ) (t0 t1 : ℤ) (error : GridError) (frame : Frame) (old : State)
    → IsMoved last.grid t0 t1 (Err error) → last.series < length old.book → frame ≡ refused BadWindow
    → Moves last number t0 t1 frame old old
moves_refused last number t0 t1 error frame old bad below is = elim (slice_get_cases old.book last.series).1 [
  | inl found ↦ record { series = found.0; there = found.2; reply = inl (bad, record { reply = is; state = refl }) }
  | inr none ↦ absurd (omega (arith, below, none.0))
]

last_answered : (o : Option ViewSpec) (last : ViewSpec) (number : ℕ) (window : ViewSpec → ℤ × ℤ) (frame : Frame) (old new : State)
    → IsLast o (Ok last) → Moves last number (window last).0 (window last).1 frame old new → MovesLast o number window frame old new
last_answered None last number window frame old new is moves = absurd is
last_answered (Some was) last number window frame old new is moves =
    let P : ViewSpec → Type 0 = λ l. Moves l number (window l).0 (window l).1 frame old new in
    subst P is moves

-- there is one
pub move_answered : (o : Option Session) (last : ViewSpec) (number : ℕ) (window : ViewSpec → ℤ × ℤ) (frame : Frame) (old new : State)
    → IsLastOf o (Ok last) → Moves last number (window last).0 (window last).1 frame old new → MovesIn o number window frame old new
move_answered None last number window frame old new is moves = absurd is
move_answered (Some session) last number window frame old new is moves = last_answered session.last last number window frame old new is
    moves
