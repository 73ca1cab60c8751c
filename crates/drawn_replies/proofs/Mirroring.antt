-- What a client does with the frame of a reply, where it mirrors the service's sessions.
use Rattle.std.specs.Prelude.{◌↔◌, IsTrue, pos}
use Rattle.std.proofs.Common.{ℕ, ◌≡◌, ◌≢◌, ◌<◌, inl, inr, List, [], ◌∷◌, All, AllPairs, Option, None, Some, slice_get, refl, sym, ap, ◌∙◌}
use Rattle.std.proofs.Common.{subst, arith}
use Rattle.std.specs.Option.{option_map}
use Rattle.std.proofs.lemmas.List.Kept.{AllPairs-cons}
use Rattle.std.proofs.lemmas.Option.{slice_get_within, slice_get-get_or}
use Rattle.line_raster.specs.declared.position.Point.{Point}
use Rattle.line_raster.specs.Canvas.{Canvas, black_at}
use Rattle.line_raster.specs.Raster.{InRaster}
use Rattle.plain_chart.specs.Samples.{kept, sample_points}
use Rattle.m4_groups.specs.Points.{AreInOrder as ArePointsInOrder}
use Rattle.chart_client.specs.Drawing.{DrawsPoints}
use Rattle.chart_grid.specs.declared.grid.Grid.{Grid}
use Rattle.om3_coeff.specs.declared.key.Key.{Key}
use Rattle.om3_coeff.specs.declared.coef.Coef.{Coef}
use Rattle.view_keys.specs.Wanted.{Seen, IsWanted}
use Rattle.view_keys.specs.Listed.{ComesBefore, AreInOrder, IsListOf}
use Rattle.coefficient_cache.specs.Caches.{Cache}
use Rattle.coefficient_cache.specs.Views.{AreDistinct}
use Rattle.series_book.specs.declared.one_series.Series.{Series}
use Rattle.series_book.specs.Books.{IsSeries, IsBook}
use Rattle.zoom_session.specs.declared.session.Session.{Session}
use Rattle.zoom_session.specs.Sessions.{session_of, last_of, after_view, viewed}
use Rattle.chart_frames.specs.declared.frame.Frame.{Frame}
use Rattle.chart_frames.specs.declared.frame.Frame.TheVariants.{Done, Refused, Opened, Closed, View as ViewFrameOf, Rows}
use Rattle.chart_frames.specs.declared.frame.ViewFrame.{ViewFrame}
use Rattle.chart_frames.specs.declared.frame.RowsFrame.{RowsFrame}
use Rattle.chart_service.specs.State.{State, IsSound}
use Rattle.chart_service.specs.Viewing.{rows_frame, axis_of, kept_by}
use Rattle.chart_service.specs.Replies.{RepliesToLine}
use Rattle.chart_client.specs.declared.holding.Holding.{Holding}
use Rattle.chart_client.specs.declared.errors.ClientError.TheVariants.{Missing, BadCoefficient, UnknownSession, NoMemory}
use Rattle.chart_client.specs.Holdings.{holding_of, opened as client_opened, without as client_without, with_cache, axis_of as client_axis}
use Rattle.chart_client.specs.Holdings.{told_by, seen_by}
use Rattle.chart_client.specs.Agreeing.{IsGridOf, Agrees}
use Rattle.chart_client.specs.Failing.{IsFirstFailing}
use Rattle.chart_client.specs.Accepting.{AcceptsView, AcceptsRows, DrawsView, viewed as client_viewed, FailsView, session_in}
use Rattle.drawn_replies.specs.Laws.{AgreesWithBook}
use Rattle.drawn_replies.specs.Mirrors.{mirrored, Mirrors, ShowsAnswered, IsPictureOf, DrawsTheBook, OnlyLacksMemory}
use Rattle.view_keys.proofs.Grids.{grid_same}
use Rattle.drawn_replies.proofs.Holders.{mirror, held, closed, there, opened-same, viewed-same, unviewed-same, last-viewed}
use Rattle.drawn_replies.proofs.Agreement.{Laws, View, frame_of, agrees, none-fails, wanted-same}
use Rattle.drawn_replies.proofs.Steps.{IsQuiet, OpenStep, CloseStep, ViewStep, RowsStep, Step, step-of}
use Rattle.drawn_replies.proofs.Kept.{order-kept, placed}

-- a frame that isn't a view's fails no view
no-view : (frame : Frame) → ((view : ViewFrame) → frame ≡ ViewFrameOf view → ⊥)
    → (How : Seen → ℕ → Key → Type 0) (key : Key) (h : List Holding)
    → FailsView How key frame h → ⊥
no-view frame none How key h f = none f.view f.is

lacks-by : (frame : Frame) (h : List Holding) → ((view : ViewFrame) → frame ≡ ViewFrameOf view → ⊥)
    → ((n : ℕ) → session_in frame ≡ Some n → holding_of n h ≡ None → ⊥) → OnlyLacksMemory frame h
lacks-by frame h none held_by (Missing key) r = absurd (no-view frame none _ key h r)
lacks-by frame h none held_by (BadCoefficient key) r = absurd (no-view frame none _ key h r)
lacks-by frame h none held_by (UnknownSession n) r = absurd (held_by n r.0 r.1)
lacks-by frame h none held_by NoMemory r = refl

refused-no-view : {number a b : ℕ} {view : ViewFrame} → ◌≡◌ {A = Frame} (Refused number a b) (ViewFrameOf view) → ⊥
refused-no-view h = cc

done-no-view : {slots : ℕ} {view : ViewFrame} → ◌≡◌ {A = Frame} (Done slots) (ViewFrameOf view) → ⊥
done-no-view h = cc

opened-no-view : {number size : ℕ} {view : ViewFrame} → ◌≡◌ {A = Frame} (Opened number size) (ViewFrameOf view) → ⊥
opened-no-view h = cc

closed-no-view : {number : ℕ} {view : ViewFrame} → ◌≡◌ {A = Frame} (Closed number) (ViewFrameOf view) → ⊥
closed-no-view h = cc

none-some : {n : ℕ} → ◌≡◌ {A = Option ℕ} None (Some n) → ⊥
none-some h = cc

some-number : {a b : ℕ} → ◌≡◌ {A = Option ℕ} (Some a) (Some b) → a ≡ b
some-number h = cc

some-none : {a : Holding} → ◌≡◌ {A = Option Holding} (Some a) None → ⊥
some-none h = cc

some-holding : {a b : Holding} → ◌≡◌ {A = Option Holding} (Some a) (Some b) → a ≡ b
some-holding h = cc

view-same : {a b : ViewFrame} → ◌≡◌ {A = Frame} (ViewFrameOf a) (ViewFrameOf b) → a ≡ b
view-same h = cc

-- a session's holding
holding-there : (n : ℕ) (ss : List Session) (s : Session) (h : List Holding) → session_of n ss ≡ Some s → Mirrors ss h
    → holding_of n h ≡ Some (mirrored s)
holding-there n ss s h found m = ap (λ hs. holding_of n hs) m ∙ held n ss ∙ ap (option_map mirrored) found

quiet-follows : (frame : Frame) (old new : State) (h : List Holding) → IsQuiet frame → new.sessions ≡ old.sessions → Mirrors old.sessions h
    → DrawsTheBook frame old new h × OnlyLacksMemory frame h
quiet-follows frame old new h (inl q) same m =
    let P : Frame → Type 0 = λ f. DrawsTheBook f old new h × OnlyLacksMemory f h in
    subst P (sym q.3) (
      λ drawing now a. (a.1 ∙ m ∙ ap mirror (sym same), a.0),
      lacks-by (Refused q.0 q.1 q.2) h (λ view e. refused-no-view e) (λ n e gone. none-some e),
    )
quiet-follows frame old new h (inr q) same m =
    let P : Frame → Type 0 = λ f. DrawsTheBook f old new h × OnlyLacksMemory f h in
    subst P (sym q.1) (
      λ drawing now a. (a.1 ∙ m ∙ ap mirror (sym same), a.0),
      lacks-by (Done q.0) h (λ view e. done-no-view e) (λ n e gone. none-some e),
    )

open-follows : (frame : Frame) (old new : State) (h : List Holding) → OpenStep frame old new → Mirrors old.sessions h
    → DrawsTheBook frame old new h × OnlyLacksMemory frame h
open-follows frame old new h o m =
    let P : Frame → Type 0 = λ f. DrawsTheBook f old new h × OnlyLacksMemory f h in
    subst P (sym o.is) (
      λ drawing now a. (
        a.1 ∙ ap (λ hs. client_opened o.number o.size hs) m ∙ opened-same o.number o.size old.sessions o.absent
            ∙ ap mirror (sym o.sessions),
        a.0,
      ),
      lacks-by (Opened o.number o.size) h (λ view e. opened-no-view e) (λ n e gone. none-some e),
    )

close-follows : (frame : Frame) (old new : State) (h : List Holding) → AllPairs (λ a b. a.number ≢ b.number) old.sessions
    → CloseStep frame old new → Mirrors old.sessions h → DrawsTheBook frame old new h × OnlyLacksMemory frame h
close-follows frame old new h distinct c m =
    let P : Frame → Type 0 = λ f. DrawsTheBook f old new h × OnlyLacksMemory f h in
    let t = there c.number old.sessions c.there in
    subst P (sym c.is) (
      λ drawing now a. (
        a.2 ∙ ap (λ hs. client_without c.number hs) m ∙ closed c.number old.sessions distinct ∙ ap mirror (sym c.sessions),
        a.0,
      ),
      lacks-by (Closed c.number) h (λ view e. closed-no-view e)
          (λ n e gone. some-none (sym (holding-there c.number old.sessions t.0 h t.1 m) ∙ ap (λ i. holding_of i h) (some-number e) ∙ gone)),
    )

-- no two keys of an ordered list are the same
never : (k : Key) → ComesBefore k k → ⊥
never k (inl g) = absurd (omega (arith, g))
never k (inr g) = absurd (omega (arith, g.1))

apart : (e : Key × Coef) (es : List (Key × Coef)) → All (λ later. ComesBefore e.0 later.0) es → All (λ f. e.0 ≢ f.0) es
apart e es all i d low = λ (same : e.0 ≡ _). never e.0 (subst (λ (k : Key). ComesBefore e.0 k) (sym same) (all i d low))

order-distinct : (es : List (Key × Coef)) → AreInOrder es → AreDistinct es
order-distinct [] order = λ i j d low high. absurd (omega (arith, high))
order-distinct (e ∷ es) order =
    AllPairs-cons (λ a b. a.0 ≢ b.0) e es (apart e es order.0) (order-distinct es order.1)

some-series : {a b : Series} → ◌≡◌ {A = Option Series} (Some a) (Some b) → a ≡ b
some-series h = cc

-- a series of a book is in range
book-series : (book : List Series) (id : ℕ) (series : Series) → IsBook book → slice_get book id ≡ Some series → IsSeries series
book-series book id series good stored =
    let low = slice_get_within book id series stored in
    subst (λ (s : Series). IsSeries s) (some-series (sym (slice_get-get_or book id series low) ∙ stored)) (good.all_in_range id series low)

-- the view that is answered
abbrev view-of : (laws : Laws) (frame : Frame) (old new : State) → IsBook old.book → (s : ViewStep frame old new) → View
view-of laws frame old new good s = record {
  laws = laws;
  series = s.series;
  good = book-series old.book s.spec.series s.series good s.stored;
  spec = s.spec;
  number = s.number;
  range = s.answers.range;
  cache = s.answers.session.cache;
  needed = s.answers.needed;
  are_needed = s.answers.are_needed;
  distinct = order-distinct s.answers.needed s.answers.are_needed.order;
}

grid-is : (v : View) (grid : Grid) → IsGridOf (frame_of v) grid → grid ≡ v.spec.grid
grid-is v grid is = grid_same grid v.spec.grid is.window.from is.window.to is.canvas.columns is.canvas.rows

view-accepted : (v : View) (session : Session) (old new : State) (h now : List Holding) (drawing : Canvas)
    → session_of v.number old.sessions ≡ Some session → session.cache ≡ v.cache → slice_get old.book v.spec.series ≡ Some v.series
    → new.sessions ≡ viewed v.number v.spec (Some v.needed) old.sessions → Mirrors old.sessions h
    → AcceptsView (frame_of v) v.cache drawing h now
    → Mirrors new.sessions now × IsPictureOf old new (ViewFrameOf (frame_of v)) (Some drawing)
view-accepted v session old new h now drawing found cached stored after m a =
    let g = grid-is v a.grid a.grid_is in
    let wanted : a.wanted ≡ v.needed =
    wanted-same v a.wanted
    (subst (λ (grid : Grid). IsListOf (IsWanted (seen_by (frame_of v) v.cache) (axis_of v.series) grid v.range.lo v.range.hi)
    (told_by (frame_of v) v.cache) a.wanted) g a.all_wanted) in (
      a.holdings
          ∙ ap (λ es. with_cache v.number (client_viewed (frame_of v) v.cache es) h) wanted
          ∙ ap (λ c. with_cache v.number (client_viewed (frame_of v) c v.needed) h) (sym cached)
          ∙ ap (λ hs. with_cache v.number (after_view v.spec (Some v.needed) session).cache hs) m
          ∙ viewed-same v.number v.spec (Some v.needed) session old.sessions found
          ∙ ap mirror (sym after),
      (
        v.series,
        stored,
        record {
          grid = v.spec.grid;
          from = refl;
          to = refl;
          columns = refl;
          rows = refl;
          chart = (subst (λ (grid : Grid). DrawsView (frame_of v) v.cache grid drawing) g a.draws) v.series.slots (agrees v);
        },
      ),
    )

-- the holding of the session has the session's list
cache-same : (number : ℕ) (session : Session) (old : State) (h : List Holding) (holding : Holding)
    → session_of number old.sessions ≡ Some session
    → Mirrors old.sessions h → holding_of number h ≡ Some holding → holding.cache ≡ session.cache
cache-same number session old h holding found m is =
    ap (λ x. x.cache) (some-holding (sym is ∙ holding-there number old.sessions session h found m))

-- the same as FailsView, of this view's frame
record FailsAt (v : View) (How : Seen → ℕ → Key → Type 0) (key : Key) (h : List Holding) (view : ViewFrame) : Type 0 where
  pub holding : Holding
  pub open_is : holding_of view.session h ≡ Some holding
  pub grid : Grid
  pub grid_is : IsGridOf view grid
  pub first : IsFirstFailing (seen_by view holding.cache) (client_axis view) grid view.lo view.hi key

-- a wanted key of the view that fails
view-fails : (v : View) (How : Seen → ℕ → Key → Type 0) (key : Key) (session : Session) (old : State) (h : List Holding)
    → session_of v.number old.sessions ≡ Some session → session.cache ≡ v.cache → Mirrors old.sessions h
    → FailsView How key (ViewFrameOf (frame_of v)) h → ⊥
view-fails v How key session old h found cached m f =
    let same : frame_of v ≡ f.view = view-same f.is in
    let P : ViewFrame → Type 0 = λ view. FailsAt v How key h view in
    let at : FailsAt v How key h (frame_of v) = subst P (sym same)
    (record { holding = f.holding; open_is = f.open_is; grid = f.grid; grid_is = f.grid_is; first = f.first }) in
    let cache : at.holding.cache ≡ v.cache = cache-same v.number session old h at.holding found m at.open_is ∙ cached in
    let first = subst (λ (c : Cache). IsFirstFailing (seen_by (frame_of v) c) (axis_of v.series) at.grid v.range.lo v.range.hi key) cache
    at.first in
    let here = subst (λ (grid : Grid). IsFirstFailing (seen_by (frame_of v) v.cache) (axis_of v.series) grid v.range.lo v.range.hi key)
    (grid-is v at.grid at.grid_is) first in
    none-fails v key here.wanted here.fails

view-lacks : (v : View) (session : Session) (old : State) (h : List Holding) → session_of v.number old.sessions ≡ Some session
    → session.cache ≡ v.cache → Mirrors old.sessions h → OnlyLacksMemory (ViewFrameOf (frame_of v)) h
view-lacks v session old h found cached m (Missing key) r = absurd (view-fails v _ key session old h found cached m r)
view-lacks v session old h found cached m (BadCoefficient key) r = absurd (view-fails v _ key session old h found cached m r)
view-lacks v session old h found cached m (UnknownSession n) r =
    absurd (some-none (sym (holding-there v.number old.sessions session h found m) ∙ ap (λ i. holding_of i h) (some-number r.0) ∙ r.1))
view-lacks v session old h found cached m NoMemory r = refl

view-drawn : (v : View) (session : Session) (old new : State) (h : List Holding) → session_of v.number old.sessions ≡ Some session
    → session.cache ≡ v.cache → slice_get old.book v.spec.series ≡ Some v.series
    → new.sessions ≡ viewed v.number v.spec (Some v.needed) old.sessions → Mirrors old.sessions h
    → DrawsTheBook (ViewFrameOf (frame_of v)) old new h
view-drawn v session old new h found cached stored after m None now a = absurd a
view-drawn v session old new h found cached stored after m (Some drawing) now a =
    let cache : a.0.cache ≡ v.cache = cache-same v.number session old h a.0 found m a.1 ∙ cached in
    view-accepted v session old new h now drawing found cached stored after m
    (subst (λ (c : Cache). AcceptsView (frame_of v) c drawing h now) cache a.2)

view-follows : (laws : Laws) (frame : Frame) (old new : State) (h : List Holding) → IsBook old.book → ViewStep frame old new
    → Mirrors old.sessions h
    → DrawsTheBook frame old new h × OnlyLacksMemory frame h
view-follows laws frame old new h good s m =
    let v = view-of laws frame old new good s in
    let P : Frame → Type 0 = λ f. DrawsTheBook f old new h × OnlyLacksMemory f h in
    subst P (sym s.answers.frame_is) (
      view-drawn v s.answers.session old new h s.answers.open_is refl s.stored (ap (λ x. x.sessions) s.answers.state) m,
      view-lacks v s.answers.session old h s.answers.open_is refl m,
    )

rows-no-view : {rows : RowsFrame} {view : ViewFrame} → ◌≡◌ {A = Frame} (Rows rows) (ViewFrameOf view) → ⊥
rows-no-view h = cc

-- the picture of rows that a filtered view is answered
rows-drawn : (laws : Laws) (frame : Frame) (old new : State) (h now : List Holding) (drawing : Canvas) → IsBook old.book
    → (s : RowsStep frame old new)
    → AcceptsRows (rows_frame s.number s.spec s.answers.range s.answers.rows) drawing h now
    → ShowsAnswered old new (rows_frame s.number s.spec s.answers.range s.answers.rows) drawing
rows-drawn laws frame old new h now drawing good s a =
    let axis = axis_of s.series in
    let grid = s.spec.grid in
    let range = s.answers.range in
    let samples = kept grid axis s.series.slots in
    let step : 0 < axis.step = (book-series old.book s.spec.series s.series good s.stored).step_above_zero in
    let order : ArePointsInOrder grid (sample_points (kept_by s.spec s.series)) = order-kept grid s.spec.filter samples
    (laws.order s.series.slots axis grid step) in
    let draws : DrawsPoints grid range.lo range.hi (sample_points (kept_by s.spec s.series)) drawing =
    a.draws grid (sample_points (kept_by s.spec s.series)) (record { columns = refl; rows = refl }) order s.answers.are_rows in
    let P : List Point → Type 0 = λ ps. (x y : ℕ) → x < grid.w → y < grid.h → IsTrue (black_at drawing x y) ↔ InRaster ps x (pos y) in
    record {
      spec = s.spec;
      answered = ap (λ (t : State). last_of (session_of s.number t.sessions)) s.answers.state
          ∙ last-viewed s.number s.spec None s.answers.session old.sessions s.answers.open_is;
      series = s.series;
      stored = s.stored;
      shows = record {
        columns = refl;
        height = refl;
        chart = record { width = a.wide; height = a.high; pixels = subst P (placed grid range (kept_by s.spec s.series)) draws };
      };
    }

rows-accepted : (laws : Laws) (frame : Frame) (old new : State) (h : List Holding) → IsBook old.book → (s : RowsStep frame old new)
    → Mirrors old.sessions h
    → DrawsTheBook (Rows (rows_frame s.number s.spec s.answers.range s.answers.rows)) old new h
rows-accepted laws frame old new h good s m None now a = absurd a
rows-accepted laws frame old new h good s m (Some drawing) now a = (
  a.1.holdings
      ∙ m
      ∙ sym (unviewed-same s.number s.spec old.sessions)
      ∙ ap (λ (t : State). mirror t.sessions) (sym s.answers.state),
  rows-drawn laws frame old new h now drawing good s a.1,
)

rows-follows : (laws : Laws) (frame : Frame) (old new : State) (h : List Holding) → IsBook old.book → RowsStep frame old new
    → Mirrors old.sessions h
    → DrawsTheBook frame old new h × OnlyLacksMemory frame h
rows-follows laws frame old new h good s m =
    let P : Frame → Type 0 = λ f. DrawsTheBook f old new h × OnlyLacksMemory f h in
    let rows = rows_frame s.number s.spec s.answers.range s.answers.rows in
    subst P (sym s.answers.frame_is) (
      rows-accepted laws frame old new h good s m,
      lacks-by (Rows rows) h (λ view e. rows-no-view e)
          (λ n e gone. some-none (sym (holding-there s.number old.sessions s.answers.session h s.answers.open_is m)
          ∙ ap (λ i. holding_of i h) (some-number e) ∙ gone)),
    )

-- what a client does with the frame of a step: its sessions go on mirroring the service's, it draws the
-- picture of the series, and nothing but want of memory comes in its way
pub follows-step : (laws : Laws) (frame : Frame) (old new : State) (h : List Holding) → IsSound old → Step frame old new
    → Mirrors old.sessions h
    → DrawsTheBook frame old new h × OnlyLacksMemory frame h
follows-step laws frame old new h sound step m =
    elim step [
      | inl quiet ↦ quiet-follows frame old new h quiet.quiet quiet.sessions m
      | inr later ↦ elim later [
        | inl opening ↦ open-follows frame old new h opening m
        | inr more ↦ elim more [
          | inl closing ↦ close-follows frame old new h sound.sessions.distinct closing m
          | inr last ↦ elim last [
            | inl view ↦ view-follows laws frame old new h sound.book view m
            | inr rows ↦ rows-follows laws frame old new h sound.book rows m
          ]
        ]
      ]
    ]

-- the same of the frame of a reply
pub follows : (laws : Laws) (line : Option (List ℕ)) (frame : Frame) (old new : State) (h : List Holding) → IsSound old
    → RepliesToLine line frame old new → Mirrors old.sessions h
    → DrawsTheBook frame old new h × OnlyLacksMemory frame h
follows laws line frame old new h sound replied m = follows-step laws frame old new h sound (step-of line frame old new replied) m

-- the series of an answered view agrees with what the client of its session holds
agrees-at : (v : View) (session : Session) (old : State) (h : List Holding) (holding : Holding) (grid : Grid) (series : Series)
    → session_of v.number old.sessions ≡ Some session → session.cache ≡ v.cache → slice_get old.book v.spec.series ≡ Some v.series
    → Mirrors old.sessions h
    → holding_of v.number h ≡ Some holding → IsGridOf (frame_of v) grid → slice_get old.book v.spec.series ≡ Some series
    → Agrees (frame_of v) holding.cache grid series.slots
agrees-at v session old h holding grid series found cached stored m open_is is there =
    let c : v.cache ≡ holding.cache = sym (cache-same v.number session old h holding found m open_is ∙ cached) in
    let g : v.spec.grid ≡ grid = sym (grid-is v grid is) in
    let s : v.series ≡ series = some-series (sym stored ∙ there) in
    subst (λ (x : Series). Agrees (frame_of v) holding.cache grid x.slots) s
    (subst (λ (x : Grid). Agrees (frame_of v) holding.cache x v.series.slots) g
    (subst (λ (x : Cache). Agrees (frame_of v) x v.spec.grid v.series.slots) c (agrees v)))

view-agrees : (laws : Laws) (frame : Frame) (view : ViewFrame) (old new : State) (h : List Holding) → IsBook old.book
    → ViewStep frame old new
    → frame ≡ ViewFrameOf view → Mirrors old.sessions h → AgreesWithBook view old h
view-agrees laws frame view old new h good s is m =
    let v = view-of laws frame old new good s in
    let P : ViewFrame → Type 0 = λ f. AgreesWithBook f old h in
    subst P (view-same (sym s.answers.frame_is ∙ is))
    (λ holding grid series open_is grid_is there. agrees-at v s.answers.session old h holding grid series s.answers.open_is refl s.stored m
    open_is grid_is there)

quiet-agrees : (frame : Frame) (view : ViewFrame) (old : State) (h : List Holding) → IsQuiet frame → frame ≡ ViewFrameOf view
    → AgreesWithBook view old h
quiet-agrees frame view old h (inl q) is = absurd (refused-no-view (sym q.3 ∙ is))
quiet-agrees frame view old h (inr q) is = absurd (done-no-view (sym q.1 ∙ is))

-- the series of a view that is the frame of a step
pub step-agrees : (laws : Laws) (frame : Frame) (view : ViewFrame) (old new : State) (h : List Holding) → IsSound old → Step frame old new
    → frame ≡ ViewFrameOf view → Mirrors old.sessions h → AgreesWithBook view old h
step-agrees laws frame view old new h sound step is m =
    elim step [
      | inl quiet ↦ quiet-agrees frame view old h quiet.quiet is
      | inr later ↦ elim later [
        | inl opening ↦ absurd (opened-no-view (sym opening.is ∙ is))
        | inr more ↦ elim more [
          | inl closing ↦ absurd (closed-no-view (sym closing.is ∙ is))
          | inr last ↦ elim last [
            | inl s ↦ view-agrees laws frame view old new h sound.book s is m
            | inr rows ↦ absurd (rows-no-view (sym rows.answers.frame_is ∙ is))
          ]
        ]
      ]
    ]
