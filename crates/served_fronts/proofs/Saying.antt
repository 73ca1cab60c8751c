-- What is said to a line, by its reply.
use Rattle.std.specs.Prelude.{slice_get, ◌+ℤ◌, ◌||◌, nat_le, nat_lt, is_some, if◌then◌else◌, drop, filter}
use Rattle.std.specs.Option.{option_map}
use Rattle.std.proofs.Common.{◌≡◌, ℕ, ℤ, suc, ◌+◌, ◌*◌, ◌<◌, ◌≤◌, inl, inr, Bool, true, false, ◌==◌, List, [], ◌∷◌, length, map}
use Rattle.std.proofs.Common.{Option, None, Some, Result, Ok, Err, refl, ap, sym, subst, ◌∙◌, arith}
use Rattle.std.proofs.Math.Nat.{mul-le-mul_left}
use Rattle.std.proofs.lemmas.List.{map-append}
use Rattle.series_book.specs.declared.one_series.Series.{Series}
use Rattle.series_book.specs.declared.refusals.Refusal.{Refusal}
use Rattle.series_book.specs.declared.refusals.Refusal.TheVariants.{SessionOpen, TooManySessions, BadCache}
use Rattle.series_book.specs.Edits.{Edited, apply, id_of}
use Rattle.series_book.specs.Refusals.{number_of, pair_of}
use Rattle.request_lines.specs.declared.requests.Request.{Request}
use Rattle.request_lines.specs.declared.requests.Request.TheVariants.{Edit, Open, View, Zoom, Pan, Close}
use Rattle.request_lines.specs.declared.ranges.RangeWord.{RangeWord}
use Rattle.request_lines.specs.Requests.{read_line}
use Rattle.value_filter.specs.declared.steps.Step.{Step}
use Rattle.value_filter.specs.Expressions.{Expression}
use Rattle.value_filter.specs.Grammar.{IsFilter, LeavesAt}
use Rattle.value_filter.specs.Steps.{postfix}
use Rattle.om3_coeff.specs.declared.key.Key.{Key}
use Rattle.om3_coeff.specs.declared.coef.Coef.{Coef}
use Rattle.om3_coeff.specs.Keys.{height}
use Rattle.om3_coeff.proofs.KeyLemmas.{height_few}
use Rattle.view_keys.specs.Laws.{NeededKeysAreFew}
use Rattle.view_keys.proofs.Grids.{grid_same}
use Rattle.coefficient_cache.specs.Caches.{Cache}
use Rattle.coefficient_cache.specs.Views.{to_send}
use Rattle.zoom_session.specs.declared.session.Session.{Session}
use Rattle.zoom_session.specs.declared.view_spec.ViewSpec.{ViewSpec}
use Rattle.zoom_session.specs.declared.view_spec.RangeSpec.{RangeSpec}
use Rattle.zoom_session.specs.Sessions.{is_open, session_of, last_of, open_refusal, fresh_session, list_after, after_view, viewed}
use Rattle.zoom_session.specs.Sessions.{without as sessions_without}
use Rattle.chart_grid.specs.declared.grid.Grid.{Grid}
use Rattle.plain_chart.specs.declared.sample.Sample.{Sample}
use Rattle.plain_chart.specs.declared.value_range.ValueRange.{ValueRange}
use Rattle.plain_chart.specs.Samples.{kept, values_of}
use Rattle.plain_chart.specs.Chart.{IsChart}
use Rattle.query_rewriter.specs.Kept.{passes}
use Rattle.line_raster.specs.Canvas.{Canvas}
use Rattle.chart_frames.specs.declared.frame.Frame.{Frame}
use Rattle.chart_frames.specs.declared.frame.Frame.TheVariants as frame
use Rattle.chart_frames.specs.declared.frame.RowsFrame.{RowsFrame}
use Rattle.chart_frames.specs.declared.frame.ViewFrame.{ViewFrame}
use Rattle.chart_frames.specs.Format.{number_in}
use Rattle.chart_frames.specs.Frames.{spelling}
use Rattle.served_fronts.proofs.FrameKinds.{kind_at, view_kind, rows_kind}
use Rattle.chart_service.specs.State.{State}
use Rattle.chart_service.specs.Viewing.{axis_of, kept_by, range_spec, view_frame, rows_frame, ShowsRange, Answers, AnswersRows}
use Rattle.chart_service.specs.Replies.{Refuses, Edits, Opens, Closes, cache_of, NeedsTooMany, AnswersBy, Views, ViewsSeries, ViewsId}
use Rattle.chart_service.specs.Replies.{RepliesToView, RepliesByText, MovesLast, MovesIn, Replies, RepliesTo, RepliesToLine}
use Rattle.drawn_replies.specs.Mirrors.{IsPictureOf}
use Rattle.drawn_replies.specs.Pictures.{names}
use Rattle.draw_command.specs.Covers.{picture_bytes}
use Rattle.served_fronts.specs.Books.{Line, ok_of, said_by}
use Rattle.served_fronts.specs.Answers.{OpenSession, session_at, is_there, cant_open, without, with_view, Reply, after_reply, Keeps}
use Rattle.served_fronts.specs.Answers.Reply.{applied, opened, closed, shown, refused}
use Rattle.served_fronts.specs.Answers.{HasFilter, IsBadFilter, MayLack, IsAsked, CantShow, IsMoved, CantMove}
use Rattle.served_fronts.specs.Answers.{FitsIn, reply_of, FitsRequest, FitsSaid, kind_of, IsDrawing, HasPicture, says_in}

some_one : {A : Type 0} (a b : A) (o : Option A) → o ≡ Some a → o ≡ Some b → a ≡ b
some_one a b o is other = cc

some_none : {A : Type 0} (a : A) (o : Option A) → o ≡ Some a → o ≡ None → ⊥
some_none a o is none = cc

-- ---- the sessions, as a reader sees them

abbrev pub seen : Session → OpenSession
seen s = record { number = s.number; cache = s.cache.capacity; last = s.last }

abbrev pub open_in : State → List OpenSession
open_in state = map seen state.sessions

session_seen : (n : ℕ) (ss : List Session) → session_at n (map seen ss) ≡ option_map seen (session_of n ss)
session_seen n [] = refl
session_seen n (s ∷ ss) =
    (elim (s.number == n) as
    (λ b. (if b then Some (seen s) else session_at n (map seen ss)) ≡ option_map seen (if b then Some s else session_of n ss)) [
      | true ↦ refl
      | false ↦ session_seen n ss
    ])

none_open : (n : ℕ) (ss : List Session) → is_open n ss ≡ false → session_of n ss ≡ None
none_open n [] none = refl
none_open n (s ∷ ss) none =
    (elim (s.number == n) as (λ b. (b || is_open n ss) ≡ false → (if b then Some s else session_of n ss) ≡ None) [
      | true ↦ λ h. cc
      | false ↦ λ h. none_open n ss h
    ]) none

there_seen : (n : ℕ) (ss : List Session) → is_there n (map seen ss) ≡ is_open n ss
there_seen n [] = refl
there_seen n (s ∷ ss) = ap (λ b. (s.number == n) || b) (there_seen n ss)

without_seen : (n : ℕ) (ss : List Session) → without n (map seen ss) ≡ map seen (sessions_without n ss)
without_seen n [] = refl
without_seen n (s ∷ ss) =
    (elim (s.number == n) as
    (λ b. (if b then map seen ss else seen s ∷ without n (map seen ss)) ≡ map seen (if b then ss else s ∷ sessions_without n ss)) [
      | true ↦ refl
      | false ↦ ap (λ l. seen s ∷ l) (without_seen n ss)
    ])

capacity_kept : (series : ℕ) (needed : Option (List (Key × Coef))) (cache : Cache)
    → (list_after series needed cache).capacity ≡ cache.capacity
capacity_kept series None cache = refl
capacity_kept series (Some needed) cache = refl

abbrev at_view : ℕ → ℕ → ViewSpec → OpenSession
at_view n cache spec = record { number = n; cache = cache; last = Some spec }

view_seen : (n : ℕ) (spec : ViewSpec) (needed : Option (List (Key × Coef))) (ss : List Session)
    → with_view n spec (map seen ss) ≡ map seen (viewed n spec needed ss)
view_seen n spec needed [] = refl
view_seen n spec needed (s ∷ ss) =
    let size = capacity_kept spec.series needed s.cache in
    (elim (s.number == n) as
    (λ b. (if b then at_view s.number s.cache.capacity spec ∷ map seen ss else seen s ∷ with_view n spec (map seen ss))
    ≡ map seen (if b then after_view spec needed s ∷ ss else s ∷ viewed n spec needed ss)) [
      | true ↦ ap (λ c. at_view s.number c spec ∷ map seen ss) (sym size)
      | false ↦ ap (λ l. seen s ∷ l) (view_seen n spec needed ss)
    ])

last_viewed : (n : ℕ) (spec : ViewSpec) (needed : Option (List (Key × Coef))) (t : Session) (ss : List Session) → session_of n ss ≡ Some t
    → last_of (session_of n (viewed n spec needed ss)) ≡ Some spec
last_viewed n spec needed t [] there = absurd (some_none t None there refl)
last_viewed n spec needed t (s ∷ ss) there =
    (elim (s.number == n) as (λ b. (s.number == n) ≡ b → (if b then Some s else session_of n ss) ≡ Some t
    → last_of (session_of n (if b then after_view spec needed s ∷ ss else s ∷ viewed n spec needed ss)) ≡ Some spec) [
      | true ↦ λ same h. ap (λ b. last_of (if b then Some (after_view spec needed s) else session_of n ss)) same
      | false ↦ λ other h. ap (λ b. last_of (if b then Some s else session_of n (viewed n spec needed ss))) other
          ∙ last_viewed n spec needed t ss h
    ]) refl there

length_seen : (ss : List Session) → length (map seen ss) ≡ length ss
length_seen [] = refl
length_seen (s ∷ ss) = ap suc (length_seen ss)

by_tests : (a b c : Bool) (x y z : Refusal)
    → is_some (if a then Some x else if b then Some y else if c then Some z else None) ≡ (a || (b || c))
by_tests true b c x y z = refl
by_tests false true c x y z = refl
by_tests false false true x y z = refl
by_tests false false false x y z = refl

cant_seen : (n cache : ℕ) (ss : List Session) → is_some (open_refusal ss n cache) ≡ cant_open n cache (map seen ss)
cant_seen n cache ss =
    let e = nat_lt cache 1 || nat_lt 131072 cache in
    by_tests (is_open n ss) (nat_le 16 (length ss)) e SessionOpen TooManySessions BadCache
    ∙ ap (λ k. is_open n ss || (nat_le 16 k || e)) (sym (length_seen ss))
    ∙ ap (λ b. b || (nat_le 16 (length (map seen ss)) || e)) (sym (there_seen n ss))

-- ---- one line

not_no : (m cache : ℕ) → refused ≡ opened m cache → ⊥
not_no m cache is = cc

not_applied : (m cache : ℕ) → applied ≡ opened m cache → ⊥
not_applied m cache is = cc

not_closed : (n m cache : ℕ) → closed n ≡ opened m cache → ⊥
not_closed n m cache is = cc

not_shown : (n : ℕ) (view : ViewSpec) (samples : List Sample) (m cache : ℕ) → shown n view samples ≡ opened m cache → ⊥
not_shown n view samples m cache is = cc

same_opened : (n size m cache : ℕ) → opened n size ≡ opened m cache → n ≡ m
same_opened n size m cache is = cc

not_there : (a : Bool) (rest : Option Refusal) → (if a then Some SessionOpen else rest) ≡ None → a ≡ false
not_there true rest is = absurd (some_none SessionOpen (Some SessionOpen) refl is)
not_there false rest is = refl

-- the frame shows a view of this session, by coefficients or, with a filter, by rows
abbrev pub Shows : ℕ → Bool → Frame → Type 0
Shows n false f = (view : ViewFrame) × (f ≡ frame.View view) × (view.session ≡ n)
Shows n true f = (rows : RowsFrame) × (f ≡ frame.Rows rows) × (rows.session ≡ n)

-- the frame of a reply
abbrev pub Tells : Reply → Frame → Type 0
Tells applied f = (slots : ℕ) × (f ≡ frame.Done slots)
Tells (opened n cache) f = f ≡ frame.Opened n cache
Tells (closed n) f = f ≡ frame.Closed n
Tells (shown n view samples) f = Shows n (is_some view.filter) f
Tells refused f = (number : ℕ) × (a : ℕ) × (b : ℕ) × (f ≡ frame.Refused number a b)

abbrev kind_in : Frame → ℕ
kind_in f = number_in 1 (drop 4 (spelling f))

shown_kind : (n : ℕ) (o : Option (List Step)) (f : Frame) → Shows n (is_some o) f → kind_in f ≡ (if is_some o then 6 else 5)
shown_kind n None f is = ap kind_in is.1 ∙ view_kind is.0
shown_kind n (Some steps) f is = ap kind_in is.1 ∙ rows_kind is.0

-- behind its length it has the kind of the reply
pub told_kind : (reply : Reply) (f : Frame) → Tells reply f → kind_in f ≡ kind_of reply
told_kind applied f is = ap kind_in is.1 ∙ kind_at 9 1 (is.0 ∷ []) (omega arith)
told_kind (opened n cache) f is = ap kind_in is ∙ kind_at 9 3 (n ∷ cache ∷ []) (omega arith)
told_kind (closed n) f is = ap kind_in is ∙ kind_at 5 4 (n ∷ []) (omega arith)
told_kind (shown n view samples) f is = shown_kind n view.filter f is
told_kind refused f is = ap kind_in is.3 ∙ kind_at 18 2 (is.0 ∷ is.1 ∷ is.2 ∷ []) (omega arith)

-- a view that is shown has its drawing, and no other reply has one
abbrev pub HasDrawing : Reply → Option Canvas → Type 0
HasDrawing applied drawing = drawing ≡ None
HasDrawing (opened n cache) drawing = drawing ≡ None
HasDrawing (closed n) drawing = drawing ≡ None
HasDrawing (shown n view samples) None = ⊥
HasDrawing (shown n view samples) (Some drawing) = IsDrawing view samples drawing
HasDrawing refused drawing = drawing ≡ None

pub picture_of : (reply : Reply) (drawing : Option Canvas) → HasDrawing reply drawing → HasPicture reply (picture_bytes drawing)
picture_of applied drawing is = ap picture_bytes is
picture_of (opened n cache) drawing is = ap picture_bytes is
picture_of (closed n) drawing is = ap picture_bytes is
picture_of (shown n view samples) None is = absurd is
picture_of (shown n view samples) (Some drawing) is = (drawing, is, refl)
picture_of refused drawing is = ap picture_bytes is

-- what is said by a frame
pub record Said (old new : State) (answer : Frame) (Fits : Reply → Type 0) : Type 0 where
  pub reply : Reply
  pub fits : Fits reply
  pub tells : Tells reply answer
  pub open_is : open_in new ≡ after_reply (open_in old) reply
  pub shows : (drawing : Option Canvas) → IsPictureOf old new answer drawing → HasDrawing reply drawing
  pub named : (m : ℕ) → names m answer ≡ says_in m reply
  pub absent : (m cache : ℕ) → reply ≡ opened m cache → is_open m old.sessions ≡ false

-- a refusal
refused_so : (refusal : Refusal) (old new : State) (answer : Frame) (Fits : Reply → Type 0) → Fits refused
    → Refuses refusal answer old new
    → Said old new answer Fits
refused_so refusal old new answer Fits fits r = record {
  reply = refused;
  fits = fits;
  tells = (number_of refusal, (pair_of refusal).0, (pair_of refusal).1, r.reply);
  open_is = ap open_in r.state;
  shows = λ drawing is. let P : Frame → Type 0 = λ f. IsPictureOf old new f drawing in subst P r.reply is;
  named = λ m. ap (names m) r.reply;
  absent = λ m cache is. absurd (not_no m cache is);
}

edited : (r : Result Edited Refusal) (old new : State) (answer : Frame) → Edits r answer old new
    → Said old new answer (λ reply. reply ≡ reply_of r)
edited (Err refusal) old new answer is = refused_so refusal old new answer (λ reply. reply ≡ refused) refl is
edited (Ok done) old new answer is = record {
  reply = applied;
  fits = refl;
  tells = (done.slots, is.0);
  open_is = ap open_in is.1;
  shows = λ drawing p. let P : Frame → Type 0 = λ f. IsPictureOf old new f drawing in subst P is.0 p;
  named = λ m. ap (names m) is.0;
  absent = λ m cache e. absurd (not_applied m cache e);
}

abbrev Opening : ℕ → ℕ → State → Reply → Type 0
Opening n cache old reply = reply ≡ (if cant_open n cache (open_in old) then refused else opened n cache)

opened_so : (o : Option Refusal) (n cache : ℕ) (old new : State) (answer : Frame) → open_refusal old.sessions n cache ≡ o
    → Opens o n cache answer old new → Said old new answer (Opening n cache old)
opened_so (Some refusal) n cache old new answer is opens =
    let cant = sym (cant_seen n cache old.sessions) ∙ ap is_some is in
    refused_so refusal old new answer (Opening n cache old) (sym (ap (λ b. if b then refused else opened n cache) cant)) opens
opened_so None n cache old new answer is opens =
    let can = sym (cant_seen n cache old.sessions) ∙ ap is_some is in
    record {
      reply = opened n cache;
      fits = sym (ap (λ b. if b then refused else opened n cache) can);
      tells = opens.0;
      open_is = ap open_in opens.1 ∙ map-append seen old.sessions (fresh_session n cache ∷ []);
      shows = λ drawing p. let P : Frame → Type 0 = λ f. IsPictureOf old new f drawing in subst P opens.0 p;
      named = λ m. ap (names m) opens.0;
      absent = λ m size e. ap (λ k. is_open k old.sessions) (sym (same_opened n cache m size e)) ∙ not_there (is_open n old.sessions) _ is;
    }

abbrev Closing : ℕ → State → Reply → Type 0
Closing n old reply = reply ≡ (if is_there n (open_in old) then closed n else refused)

closed_so : (b : Bool) (n : ℕ) (old new : State) (answer : Frame) → is_open n old.sessions ≡ b → Closes b n answer old new
    → Said old new answer (Closing n old)
closed_so false n old new answer is closes =
    let there = there_seen n old.sessions ∙ is in
    refused_so _ old new answer (Closing n old) (sym (ap (λ b. if b then closed n else refused) there)) closes
closed_so true n old new answer is closes =
    let there = there_seen n old.sessions ∙ is in
    record {
      reply = closed n;
      fits = sym (ap (λ b. if b then closed n else refused) there);
      tells = closes.0;
      open_is = ap open_in closes.1 ∙ sym (without_seen n old.sessions);
      shows = λ drawing p. let P : Frame → Type 0 = λ f. IsPictureOf old new f drawing in subst P closes.0 p;
      named = λ m. ap (names m) closes.0;
      absent = λ m size e. absurd (not_closed n m size e);
    }

-- ---- views that are shown

all_pass : (samples : List Sample) → filter (passes None) samples ≡ samples
all_pass [] = refl
all_pass (s ∷ ss) = ap (λ l. s ∷ l) (all_pass ss)

keeps_all : (spec : ViewSpec) (series : Series) → spec.filter ≡ None → kept_by spec series ≡ kept spec.grid (axis_of series) series.slots
keeps_all spec series none =
    let all = kept spec.grid (axis_of series) series.slots in
    ap (λ o. filter (passes o) all) none ∙ all_pass all

view_picture : (series : Series) (spec : ViewSpec) (n : ℕ) (range : ValueRange) (send : List (Key × Coef)) (old new : State)
    (drawing : Option Canvas)
    → slice_get old.book spec.series ≡ Some series → spec.filter ≡ None → ShowsRange spec.range (values_of (kept_by spec series)) range
    → IsPictureOf old new (frame.View (view_frame n spec range series send)) drawing
    → HasDrawing (shown n spec (kept_by spec series)) drawing
view_picture series spec n range send old new None stored none over is = absurd is
view_picture series spec n range send old new (Some drawing) stored none over is =
    let other = is.0 in
    let shows = is.2 in
    let same = some_one other series (slice_get old.book spec.series) is.1 stored in
    let all : kept_by spec series ≡ kept spec.grid (axis_of series) series.slots = keeps_all spec series none in
    let G : Grid → Type 0 = λ g. IsChart g range (kept g (axis_of other) other.slots) drawing in
    let S : Series → Type 0 = λ s. IsChart spec.grid range (kept spec.grid (axis_of s) s.slots) drawing in
    let K : List Sample → Type 0 = λ l. IsChart spec.grid range l drawing in
    let on_grid = subst G (grid_same shows.grid spec.grid shows.from shows.to shows.columns shows.rows) shows.chart in
    record { range = range; over = over; chart = subst K (sym all) (subst S same on_grid) }

tells_view : (n : ℕ) (spec : ViewSpec) (answer : Frame) (view : ViewFrame) → spec.filter ≡ None → answer ≡ frame.View view
    → view.session ≡ n → Shows n (is_some spec.filter) answer
tells_view n spec answer view none is session =
    let F : Option (List Step) → Type 0 = λ o. Shows n (is_some o) answer in
    subst F (sym none) (view, is, session)

view_said : (series : Series) (spec : ViewSpec) (n : ℕ) (old new : State) (answer : Frame) (Fits : Reply → Type 0)
    → slice_get old.book spec.series ≡ Some series → spec.filter ≡ None → Answers series spec n answer old new
    → Fits (shown n spec (kept_by spec series)) → Said old new answer Fits
view_said series spec n old new answer Fits stored none a fits =
    let R : List Sample → Type 0 = λ l. ShowsRange spec.range (values_of l) a.range in
    let over = subst R (sym (keeps_all spec series none)) a.shown in
    record {
      reply = shown n spec (kept_by spec series);
      fits = fits;
      tells = tells_view n spec answer (view_frame n spec a.range series (to_send a.session.cache.pairs spec.series a.needed)) none
          a.frame_is refl;
      open_is = ap open_in a.state ∙ sym (view_seen n spec (Some a.needed) old.sessions);
      shows = λ drawing is.
          let P : Frame → Type 0 = λ f. IsPictureOf old new f drawing in
          view_picture series spec n a.range (to_send a.session.cache.pairs spec.series a.needed) old new drawing stored none over
          (subst P a.frame_is is);
      named = λ m. ap (names m) a.frame_is;
      absent = λ m size e. absurd (not_shown n spec (kept_by spec series) m size e);
    }

rows_picture : (series : Series) (spec : ViewSpec) (n : ℕ) (range : ValueRange) (rows : RowsFrame) (old new : State)
    (drawing : Option Canvas)
    → rows.session ≡ n → rows.lo ≡ range.lo → rows.hi ≡ range.hi
    → slice_get old.book spec.series ≡ Some series → last_of (session_of n new.sessions) ≡ Some spec
    → ShowsRange spec.range (values_of (kept_by spec series)) range
    → IsPictureOf old new (frame.Rows rows) drawing → HasDrawing (shown n spec (kept_by spec series)) drawing
rows_picture series spec n range rows old new None own low high stored last over is = absurd is
rows_picture series spec n range rows old new (Some drawing) own low high stored last over is =
    let at : last_of (session_of n new.sessions) ≡ Some is.spec = ap (λ k. last_of (session_of k new.sessions)) (sym own) ∙ is.answered in
    let same = some_one is.spec spec (last_of (session_of n new.sessions)) at last in
    let V : ViewSpec → Type 0 = λ v. slice_get old.book v.series ≡ Some is.series in
    let there : slice_get old.book spec.series ≡ Some is.series = subst V same is.stored in
    let one = some_one is.series series (slice_get old.book spec.series) there stored in
    let C : ViewSpec → Type 0 = λ v. IsChart v.grid (record { lo = rows.lo; hi = rows.hi }) (kept_by v is.series) drawing in
    let S : Series → Type 0 = λ s. IsChart spec.grid (record { lo = rows.lo; hi = rows.hi }) (kept_by spec s) drawing in
    let L : ℤ → Type 0 = λ lo. IsChart spec.grid (record { lo = lo; hi = rows.hi }) (kept_by spec series) drawing in
    let H : ℤ → Type 0 = λ hi. IsChart spec.grid (record { lo = range.lo; hi = hi }) (kept_by spec series) drawing in
    let chart = subst H high (subst L low (subst S one (subst C same is.shows.chart))) in
    record { range = range; over = over; chart = chart }

tells_rows : (n : ℕ) (spec : ViewSpec) (steps : List Step) (answer : Frame) (rows : RowsFrame) → spec.filter ≡ Some steps
    → answer ≡ frame.Rows rows → rows.session ≡ n → Shows n (is_some spec.filter) answer
tells_rows n spec steps answer rows some is session =
    let F : Option (List Step) → Type 0 = λ o. Shows n (is_some o) answer in
    subst F (sym some) (rows, is, session)

rows_said : (series : Series) (spec : ViewSpec) (steps : List Step) (n : ℕ) (old new : State) (answer : Frame) (Fits : Reply → Type 0)
    → slice_get old.book spec.series ≡ Some series → spec.filter ≡ Some steps → AnswersRows series spec n answer old new
    → Fits (shown n spec (kept_by spec series)) → Said old new answer Fits
rows_said series spec steps n old new answer Fits stored some a fits =
    let last = ap (λ s. last_of (session_of n s.sessions)) a.state ∙ last_viewed n spec None a.session old.sessions a.open_is in
    record {
      reply = shown n spec (kept_by spec series);
      fits = fits;
      tells = tells_rows n spec steps answer (rows_frame n spec a.range a.rows) some a.frame_is refl;
      open_is = ap open_in a.state ∙ sym (view_seen n spec None old.sessions);
      shows = λ drawing is.
          let P : Frame → Type 0 = λ f. IsPictureOf old new f drawing in
          rows_picture series spec n a.range (rows_frame n spec a.range a.rows) old new drawing refl refl refl stored last a.shown
          (subst P a.frame_is is);
      named = λ m. ap (names m) a.frame_is;
      absent = λ m size e. absurd (not_shown n spec (kept_by spec series) m size e);
    }

-- ---- a reply in a session

fits_no : (book : List Series) (n : ℕ) (Asks : OpenSession → ViewSpec → Type 0) (Cant : OpenSession → Type 0) (o : Option OpenSession)
    → ((s : OpenSession) → o ≡ Some s → Cant s) → FitsIn book n Asks Cant o refused
fits_no book n Asks Cant None cause = refl
fits_no book n Asks Cant (Some s) cause = cause s refl

fits_shown : (book : List Series) (n : ℕ) (Asks : OpenSession → ViewSpec → Type 0) (Cant : OpenSession → Type 0) (o : Option OpenSession)
    (s : OpenSession)
    (view : ViewSpec) (samples : List Sample) → o ≡ Some s → Asks s view → Keeps book view samples
    → FitsIn book n Asks Cant o (shown n view samples)
fits_shown book n Asks Cant o s view samples is asks keeps =
    let F : Option OpenSession → Type 0 = λ x. FitsIn book n Asks Cant x (shown n view samples) in
    subst F (sym is) (refl, asks, keeps)

-- a session that a reader sees is one of the service
seen_at : (n : ℕ) (ss : List Session) (session : Session) (s : OpenSession) → session_of n ss ≡ Some session
    → session_at n (map seen ss) ≡ Some s
    → s ≡ seen session
seen_at n ss session s there is =
    let at : session_at n (map seen ss) ≡ Some (seen session) = session_seen n ss ∙ ap (option_map seen) there in
    some_one s (seen session) (session_at n (map seen ss)) is at

more_keys : (a b c d : ℕ) → a < b → b ≤ c * d → d ≤ 35 → a < c * 35
more_keys a b c d low most few = let more : c * d ≤ c * 35 = mul-le-mul_left c few in omega (arith, low, most, more)

abbrev pub OneReading : Type 0
OneReading = (text : List ℕ) (f : Expression) (at : ℕ) → IsFilter text f → LeavesAt text at → ⊥

module _ (either : OneReading) (bound : NeededKeysAreFew) where
  lacks : (series : Series) (spec : ViewSpec) (n : ℕ) (old new : State) (answer : Frame) (s : OpenSession)
      → NeedsTooMany series spec n answer old new
      → session_at n (open_in old) ≡ Some s → MayLack s.cache spec.grid.w
  lacks series spec n old new answer s many is =
      let same = seen_at n old.sessions many.session s many.open_is is in
      let most = bound series.slots
      (axis_of series) spec.grid many.range.lo many.range.hi many.needed many.are_needed.order many.are_needed.each in
      let M : ℕ → Type 0 = λ cache. MayLack cache spec.grid.w in
      subst M (sym (ap (λ x. x.cache) same))
      (more_keys many.session.cache.capacity (length many.needed) (3 * spec.grid.w + 1) (height (length series.slots)) many.passes most
      (height_few (length series.slots)))

  -- a view over a window and on a canvas that are in range
  by_filter : (o : Option (List Step)) (series : Series) (spec : ViewSpec) (n : ℕ) (old new : State) (answer : Frame)
      (Asks : OpenSession → ViewSpec → Type 0)
      (Cant : OpenSession → Type 0) → spec.filter ≡ o → slice_get old.book spec.series ≡ Some series
      → ((s : OpenSession) → session_at n (open_in old) ≡ Some s → Asks s spec)
      → ((s : OpenSession) → session_at n (open_in old) ≡ Some s → o ≡ None → MayLack s.cache spec.grid.w → Cant s)
      → AnswersBy o series spec n answer old new → Said old new answer (FitsIn old.book n Asks Cant (session_at n (open_in old)))
  by_filter None series spec n old new answer Asks Cant filter stored asks cant (inl many) =
      refused_so _ old new answer (FitsIn old.book n Asks Cant (session_at n (open_in old)))
      (fits_no old.book n Asks Cant (session_at n (open_in old))
      (λ s is. cant s is refl (lacks series spec n old new answer s many is))) many.refuses
  by_filter None series spec n old new answer Asks Cant filter stored asks cant (inr a) =
      let at = session_seen n old.sessions ∙ ap (option_map seen) a.open_is in
      let keeps : Keeps old.book spec (kept_by spec series) = record { series = series; stored = stored; are = refl } in
      view_said series spec n old new answer (FitsIn old.book n Asks Cant (session_at n (open_in old))) stored filter a
      (fits_shown old.book n Asks Cant (session_at n (open_in old)) (seen a.session) spec (kept_by spec series) at
      (asks (seen a.session) at) keeps)
  by_filter (Some steps) series spec n old new answer Asks Cant filter stored asks cant a =
      let at = session_seen n old.sessions ∙ ap (option_map seen) a.open_is in
      let keeps : Keeps old.book spec (kept_by spec series) = record { series = series; stored = stored; are = refl } in
      rows_said series spec steps n old new answer (FitsIn old.book n Asks Cant (session_at n (open_in old))) stored filter a
      (fits_shown old.book n Asks Cant (session_at n (open_in old)) (seen a.session) spec (kept_by spec series) at
      (asks (seen a.session) at) keeps)

  -- ---- a view

  module _ (old new : State) (answer : Frame) (n : ℕ) (name : List ℕ) (w h : ℕ) (t0 t1 : ℤ) (word : RangeWord)
      (text : Option (List ℕ)) where
    abbrev Asks : OpenSession → ViewSpec → Type 0
    Asks s view = IsAsked old.book name w h t0 t1 word text view

    abbrev Cant : OpenSession → Type 0
    Cant s = CantShow old.book name w h t0 t1 word text s

    abbrev Fits : Reply → Type 0
    Fits reply = FitsIn old.book n Asks Cant (session_at n (open_in old)) reply

    no : (refusal : Refusal) → ((s : OpenSession) → Cant s) → Refuses refusal answer old new → Said old new answer Fits
    no refusal cause is = refused_so refusal old new answer Fits
        (fits_no old.book n Asks Cant (session_at n (open_in old)) (λ s at. cause s)) is

    by_views : (series : Series) (id : ℕ) (range : RangeSpec) (filter : Option (List Step)) → id_of name old.book ≡ Some id
        → slice_get old.book id ≡ Some series → range ≡ range_spec word → HasFilter text filter → (filter ≡ None → text ≡ None)
        → Views series id n w h t0 t1 range filter answer old new → Said old new answer Fits
    by_views series id range filter named stored range_is has none v =
        let spec : ViewSpec = record { series = id; grid = v.grid; range = range; filter = filter } in
        let wide : v.grid.w ≡ w = v.canvas.columns in
        by_filter filter series spec n old new answer Asks Cant refl stored
        (λ s at. record { series = named; window = v.window; canvas = v.canvas; range = range_is; filter = has })
        (λ s at plain lack. inr (inr (inr (inr (inr (none plain, subst (λ (k : ℕ). MayLack s.cache k) wide lack))))))
        v.view

    by_series : (o : Option Series) (id : ℕ) (filter : Option (List Step)) → id_of name old.book ≡ Some id → slice_get old.book id ≡ o
        → HasFilter text filter → (filter ≡ None → text ≡ None) → ViewsSeries o id n w h t0 t1 word filter answer old new
        → Said old new answer Fits
    by_series None id filter named is has none v =
        no _ (λ s. inr (inl (λ other series there stored.
        let S : ℕ → Type 0 = λ k. slice_get old.book k ≡ Some series in
        let at = subst S (some_one other id (id_of name old.book) there named) stored in
        some_none series (slice_get old.book id) at is))) v
    by_series (Some series) id filter named is has none (inl v) = no _ (λ s. inr (inr (inl v.0))) v.1
    by_series (Some series) id filter named is has none (inr (inl v)) = no _ (λ s. inr (inr (inr (inl v.1)))) v.2
    by_series (Some series) id filter named is has none (inr (inr (inl v))) = no _ (λ s. inr (inr (inr (inr (inl v.3))))) v.4
    by_series (Some series) id filter named is has none (inr (inr (inr v))) = by_views series id
        (range_spec word) filter named is refl has none v.4

    by_id : (o : Option ℕ) (filter : Option (List Step)) → id_of name old.book ≡ o → HasFilter text filter → (filter ≡ None → text ≡ None)
        → ViewsId o n w h t0 t1 word filter answer old new → Said old new answer Fits
    by_id None filter named has none v = no _
        (λ s. inr (inl (λ other series there stored. some_none other (id_of name old.book) there named))) v
    by_id (Some id) filter named has none v = by_series (slice_get old.book id) id filter named refl has none v

    by_open : (b : Bool) (filter : Option (List Step)) → is_open n old.sessions ≡ b → HasFilter text filter → (filter ≡ None → text ≡ None)
        → RepliesToView b n name w h t0 t1 word filter answer old new → Said old new answer Fits
    by_open false filter is has none v =
        let at = session_seen n old.sessions ∙ ap (option_map seen) (none_open n old.sessions is) in
        refused_so _ old new answer Fits
        (fits_no old.book n Asks Cant (session_at n (open_in old))
        (λ s there. absurd (some_none s (session_at n (open_in old)) there at))) v
    by_open true filter is has none v = by_id (id_of name old.book) filter refl has none v

    by_text : (o : Option (List ℕ)) → text ≡ o
        → RepliesByText o (λ filter. RepliesToView (is_open n old.sessions) n name w h t0 t1 word filter answer old new) answer old new
        → Said old new answer Fits
    by_text None is v =
        let T : Option (List ℕ) → Type 0 = λ t. HasFilter t None in
        by_open (is_open n old.sessions) None refl (subst T (sym is) refl) (λ plain. is) v
    by_text (Some x) is (inl bad) =
        let B : Option (List ℕ) → Type 0 = λ t. IsBadFilter t in
        no _ (λ s. inl (subst B (sym is) (λ f filter. either x f bad.0 filter bad.1))) bad.2
    by_text (Some x) is (inr good) =
        let T : Option (List ℕ) → Type 0 = λ t. HasFilter t (Some (postfix good.0)) in
        by_open (is_open n old.sessions) (Some (postfix good.0)) refl (subst T (sym is) (good.0, good.1, refl))
        (λ plain. absurd (some_none (postfix good.0) (Some (postfix good.0)) refl plain)) good.2

  -- ---- the last view over another window

  module _ (old new : State) (answer : Frame) (n : ℕ) (window : ViewSpec → ℤ × ℤ) where
    abbrev Moved : Reply → Type 0
    Moved reply = FitsIn old.book n (IsMoved window) (CantMove window) (session_at n (open_in old)) reply

    not_moved : (refusal : Refusal) → ((s : OpenSession) → session_at n (open_in old) ≡ Some s → CantMove window s)
        → Refuses refusal answer old new → Said old new answer Moved
    not_moved refusal cause is =
        refused_so refusal old new answer Moved
        (fits_no old.book n (IsMoved window) (CantMove window) (session_at n (open_in old)) cause) is

    by_last : (session : Session) (o : Option ViewSpec) → session_of n old.sessions ≡ Some session → session.last ≡ o
        → MovesLast o n window answer old new → Said old new answer Moved
    by_last session None there is v = not_moved _ (λ s at. inl (ap (λ x. x.last) (seen_at n old.sessions session s there at) ∙ is)) v
    by_last session (Some last) there is moves =
        let last_at : (s : OpenSession) → session_at n (open_in old) ≡ Some s → s.last ≡ Some last =
        λ s at. ap (λ x. x.last) (seen_at n old.sessions session s there at) ∙ is in
        (elim moves.reply as (λ _. Said old new answer Moved) [
          | inl bad ↦ not_moved _ (λ s at. inr (last, last_at s at, inl bad.0)) bad.1
          | inr good ↦
              let v = good.1 in
              let spec : ViewSpec = record { series = last.series; grid = v.grid; range = last.range; filter = last.filter } in
              by_filter last.filter moves.series spec n old new answer (IsMoved window) (CantMove window) refl moves.there
              (λ s at. (last, last_at s at, record { series = refl; shows = v.window; canvas = v.canvas; range = refl; filter = refl }))
              (λ s at plain lack. inr (last, last_at s at, inr (plain, subst (λ (k : ℕ). MayLack s.cache k) v.canvas.columns lack)))
              v.view
        ])

    by_session : (o : Option Session) → session_of n old.sessions ≡ o → MovesIn o n window answer old new → Said old new answer Moved
    by_session None is v =
        let at = session_seen n old.sessions ∙ ap (option_map seen) is in
        not_moved _ (λ s there. absurd (some_none s (session_at n (open_in old)) there at)) v
    by_session (Some session) is v = by_last session session.last is refl v

  -- ---- each line

  request_said : (r : Request) (old new : State) (answer : Frame) → Replies r answer old new
      → Said old new answer (FitsRequest old.total old.book (open_in old) r)
  request_said (Edit edit) old new answer is = edited (apply old.book old.total edit) old new answer is
  request_said (Open n cache) old new answer is =
      opened_so (open_refusal old.sessions n (cache_of cache)) n (cache_of cache) old new answer refl is
  request_said (View n name w h t0 t1 word text) old new answer is = by_text old new answer n name w h t0 t1 word text text refl is
  request_said (Zoom n t0 t1) old new answer is = by_session old new answer n (λ last. (t0, t1)) (session_of n old.sessions) refl is
  request_said (Pan n by) old new answer is =
      by_session old new answer n (λ last. (last.grid.t0 +ℤ by, last.grid.t1 +ℤ by)) (session_of n old.sessions) refl is
  request_said (Close n) old new answer is = closed_so (is_open n old.sessions) n old new answer refl is

  read_said : (r : Result Request ℕ) (old new : State) (answer : Frame) → RepliesTo r answer old new
      → Said old new answer (FitsSaid old.total old.book (open_in old) (ok_of r))
  read_said (Err at) old new answer is = refused_so _ old new answer (FitsSaid old.total old.book (open_in old) None) refl is
  read_said (Ok request) old new answer is = request_said request old new answer is

  pub line_said : (line : Line) (old new : State) (answer : Frame) → RepliesToLine line answer old new
      → Said old new answer (FitsSaid old.total old.book (open_in old) (said_by line))
  line_said None old new answer is = refused_so _ old new answer (FitsSaid old.total old.book (open_in old) None) refl is
  line_said (Some text) old new answer is = read_said (read_line text) old new answer is
