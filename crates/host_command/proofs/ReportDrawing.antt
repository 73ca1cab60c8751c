-- What a client does with the frame of a report.
use Rattle.std.proofs.Common.{ℕ, ℤ, ◌≡◌, ◌∙◌, ◌<◌, Bool, true, false, List, Option, None, Some, refl, sym, ap, subst, inl, inr, slice_get}
use Rattle.std.specs.Prelude.{◌↔◌, IsTrue, pos}
use Rattle.std.specs.Option.{option_map}
use Rattle.line_raster.specs.Canvas.{Canvas, black_at}
use Rattle.line_raster.specs.Raster.{InRaster}
use Rattle.line_raster.specs.declared.position.Point.{Point}
use Rattle.chart_client.specs.Accepting.{Accepts, AcceptsRows, session_in}
use Rattle.chart_client.specs.Drawing.{DrawsPoints}
use Rattle.chart_client.specs.Holdings.{holding_of}
use Rattle.chart_client.specs.declared.errors.ClientError.TheVariants.{Missing, BadCoefficient, UnknownSession, NoMemory}
use Rattle.chart_client.specs.declared.holding.Holding.{Holding}
use Rattle.chart_frames.specs.declared.frame.Frame.{Frame}
use Rattle.chart_frames.specs.declared.frame.Frame.TheVariants.{Refused, Report, Rows, View}
use Rattle.chart_frames.specs.declared.frame.RowsFrame.{RowsFrame}
use Rattle.chart_frames.specs.declared.frame.ViewFrame.{ViewFrame}
use Rattle.chart_frames.specs.declared.reports.Report.{Report as OneReport}
use Rattle.chart_frames.specs.declared.reports.Report.TheVariants as report
use Rattle.chart_grid.specs.declared.axis.Axis.{Axis}
use Rattle.chart_grid.specs.declared.grid.Grid.{Grid}
use Rattle.chart_service.specs.Replies.{refused}
use Rattle.chart_service.specs.State.{State}
use Rattle.derive_command.specs.declared.request.Request.{Request}
use Rattle.drawn_replies.specs.Mirrors.{Mirrors, OnlyLacksMemory, mirrored}
use Rattle.host_lines.specs.declared.asked.HostLine.{HostLine}
use Rattle.host_lines.specs.declared.asked.HostLine.TheVariants.{List as ListLine, Values, Sum, Sweep, Bad, Other}
use Rattle.host_replies.specs.Replies.{Reported, TellsIf, TellsValues, TellsValuesOf}
use Rattle.host_reports.specs.Reports.{catalog_of, values_of}
use Rattle.m4_groups.specs.Points.{AreInOrder}
use Rattle.plain_chart.specs.Samples.{kept, sample_points}
use Rattle.series_book.specs.declared.one_series.Series.{Series}
use Rattle.series_book.specs.declared.refusals.Refusal.{Refusal}
use Rattle.series_book.specs.declared.refusals.Refusal.TheVariants.{BadLine, BadWindow, UnknownSeries}
use Rattle.series_book.specs.Edits.{id_of}
use Rattle.session_sums.specs.Sums.{AnswersSum, HasSumRows, RefusesSum}
use Rattle.zoom_session.specs.Sessions.{is_open}
use Rattle.zoom_session.specs.declared.session.Session.{Session}
use Rattle.host_command.specs.Drawn.{PicturesAsked, PicturesSum}
use Rattle.host_command.proofs.Holders.{held, placed, there}

-- what a view keeps is in order of time
abbrev pub Orders : Type 0
Orders = (list : List (Option ℤ)) (axis : Axis) (grid : Grid) → 0 < axis.step → AreInOrder grid (sample_points (kept grid axis list))

-- ---- frames without a picture and a session

-- a client takes the frame, draws nothing of it, and stays as it is; nothing but want of memory keeps it from that
record IsQuiet (frame : Frame) : Type 0 where
  pub takes : (drawing : Option Canvas) (old now : List Holding) → Accepts frame drawing old now → (drawing ≡ None) × (now ≡ old)
  pub lacks : (old : List Holding) → OnlyLacksMemory frame old
  pub aside : session_in frame ≡ None

quiet_so : (frame other : Frame) → frame ≡ other → IsQuiet other → IsQuiet frame
quiet_so frame other is quiet = subst IsQuiet (sym is) quiet

refused_no_view : {number a b : ℕ} {view : ViewFrame} → ◌≡◌ {A = Frame} (Refused number a b) (View view) → ⊥
refused_no_view is = cc

report_no_view : {one : OneReport} {view : ViewFrame} → ◌≡◌ {A = Frame} (Report one) (View view) → ⊥
report_no_view is = cc

none_some : {n : ℕ} → ◌≡◌ {A = Option ℕ} None (Some n) → ⊥
none_some is = cc

number_quiet : (number a b : ℕ) → IsQuiet (Refused number a b)
number_quiet number a b = record { takes = λ drawing old now accepts. accepts; lacks = λ old e rejects. only old e rejects; aside = refl }
  where
    only : (old : List Holding) → OnlyLacksMemory (Refused number a b) old
    only old (Missing key) rejects = absurd (refused_no_view rejects.is)
    only old (BadCoefficient key) rejects = absurd (refused_no_view rejects.is)
    only old (UnknownSession n) rejects = absurd (none_some rejects.0)
    only old NoMemory rejects = refl

report_quiet : (one : OneReport) → IsQuiet (Report one)
report_quiet one = record { takes = λ drawing old now accepts. accepts; lacks = λ old e rejects. only old e rejects; aside = refl }
  where
    only : (old : List Holding) → OnlyLacksMemory (Report one) old
    only old (Missing key) rejects = absurd (report_no_view rejects.is)
    only old (BadCoefficient key) rejects = absurd (report_no_view rejects.is)
    only old (UnknownSession n) rejects = absurd (none_some rejects.0)
    only old NoMemory rejects = refl

refused_is : (frame : Frame) (refusal : Refusal) → frame ≡ refused refusal → IsQuiet frame
refused_is frame refusal is = quiet_so frame (refused refusal) is (number_quiet _ _ _)

-- ---- values

values_told : (o : Option Series) (id : ℕ) (t0 t1 : ℤ) (frame : Frame) → TellsValues o id t0 t1 frame → IsQuiet frame
values_told None id t0 t1 frame tells = refused_is frame UnknownSeries tells
values_told (Some series) id t0 t1 frame (inl bad) = refused_is frame BadWindow bad.1
values_told (Some series) id t0 t1 frame (inr good) = quiet_so frame (Report (report.Values (values_of id series t0 t1))) good.1
    (report_quiet _)

values_quiet : (o : Option ℕ) (book : List Series) (t0 t1 : ℤ) (frame : Frame) → TellsValuesOf o book t0 t1 frame → IsQuiet frame
values_quiet None book t0 t1 frame tells = refused_is frame UnknownSeries tells
values_quiet (Some id) book t0 t1 frame tells = values_told (slice_get book id) id t0 t1 frame tells

-- ---- sums

-- the frame names a session that is open, if it names one
abbrev pub NamesOpen : Frame → List Session → Type 0
NamesOpen frame sessions = (n : ℕ) → session_in frame ≡ Some n → is_open n sessions ≡ true

quiet_open : (frame : Frame) (sessions : List Session) → IsQuiet frame → NamesOpen frame sessions
quiet_open frame sessions quiet = λ n is. absurd (none_some (sym quiet.aside ∙ is))

-- a client holds behind the frame what it held, and its drawing is the chart of the sum
record DrawsSum (book : List Series) (r : Request) (sessions : List Session) (frame : Frame) : Type 0 where
  pub takes : (drawing : Option Canvas) (old now : List Holding) → Accepts frame drawing old now
      → (now ≡ old) × PicturesSum book r frame drawing
  pub opened : NamesOpen frame sessions
  pub lacks : (some : List Session) (old : List Holding) → NamesOpen frame some → Mirrors some old → OnlyLacksMemory frame old

rows_no_view : {rows : RowsFrame} {view : ViewFrame} → ◌≡◌ {A = Frame} (Rows rows) (View view) → ⊥
rows_no_view is = cc

some_number : {m n : ℕ} → ◌≡◌ {A = Option ℕ} (Some m) (Some n) → m ≡ n
some_number is = cc

some_none : {holding : Holding} → ◌≡◌ {A = Option Holding} (Some holding) None → ⊥
some_none is = cc

-- the session of the rows is held
sum_held : (n : ℕ) (sessions : List Session) (old : List Holding) → is_open n sessions ≡ true → Mirrors sessions old
    → holding_of n old ≡ None → ⊥
sum_held n sessions old opened m gone =
    let one = there n sessions opened in
    some_none (sym (ap (λ hs. holding_of n hs) m ∙ held n sessions ∙ ap (option_map mirrored) one.1) ∙ gone)

sum_lacks : (rows : RowsFrame) (sessions : List Session) (old : List Holding) → is_open rows.session sessions ≡ true → Mirrors sessions old
    → OnlyLacksMemory (Rows rows) old
sum_lacks rows sessions old opened m (Missing key) rejects = absurd (rows_no_view rejects.is)
sum_lacks rows sessions old opened m (BadCoefficient key) rejects = absurd (rows_no_view rejects.is)
sum_lacks rows sessions old opened m (UnknownSession n) rejects =
    absurd (sum_held rows.session sessions old opened m (ap (λ i. holding_of i old) (some_number rejects.0) ∙ rejects.1))
sum_lacks rows sessions old opened m NoMemory rejects = refl

sum_pictured : Orders → (book : List Series) (r : Request) (session : ℕ) (rows : RowsFrame) (drawing : Canvas) (old now : List Holding)
    → HasSumRows book r session rows → AcceptsRows rows drawing old now → PicturesSum book r (Rows rows) (Some drawing)
sum_pictured order book r session rows drawing old now has accepts =
    let grid = has.grid in
    let range = has.fields.range in
    let samples = kept grid has.are.axis has.are.sums in
    let A : RowsFrame → Type 0 = λ f. AcceptsRows f drawing old now in
    let a = subst A has.fields.is accepts in
    let draws : DrawsPoints grid range.lo range.hi (sample_points samples) drawing =
    a.draws grid (sample_points samples) (record { columns = refl; rows = refl })
    (order has.are.sums has.are.axis grid has.are.step) has.are.rows_are in
    let P : List Point → Type 0 = λ ps. (x y : ℕ) → x < grid.w → y < grid.h → IsTrue (black_at drawing x y) ↔ InRaster ps x (pos y) in
    record {
      series = has.series;
      grid = grid;
      grid_is = has.grid_is;
      chart = record {
        samples = samples;
        are = has.are.are;
        values = has.are.values;
        range = range;
        shows = has.fields.shows;
        chart = record { width = a.wide; height = a.high; pixels = subst P (placed grid range samples) draws };
      };
    }

rows_drawn : Orders → (book : List Series) (r : Request) (session : ℕ) (sessions : List Session) (rows : RowsFrame)
    → is_open session sessions ≡ true → HasSumRows book r session rows → DrawsSum book r sessions (Rows rows)
rows_drawn order book r session sessions rows open_is has = record {
  takes = λ drawing old now accepts. taken drawing old now accepts;
  opened = λ n is.
      let N : ℕ → Type 0 = λ k. is_open k sessions ≡ true in
      let same : session ≡ rows.session = sym (ap (λ (f : RowsFrame). f.session) has.fields.is) in
      subst N (same ∙ some_number is) open_is;
  lacks = λ some old named m. sum_lacks rows some old (named rows.session refl) m;
}
  where
    taken : (drawing : Option Canvas) (old now : List Holding) → Accepts (Rows rows) drawing old now
        → (now ≡ old) × PicturesSum book r (Rows rows) drawing
    taken None old now accepts = absurd accepts
    taken (Some drawing) old now accepts = (accepts.1.holdings, sum_pictured order book r session rows drawing old now has accepts.1)

refusal_drawn : (book : List Series) (r : Request) (sessions : List Session) (number a b : ℕ)
    → DrawsSum book r sessions (Refused number a b)
refusal_drawn book r sessions number a b =
    let quiet = number_quiet number a b in
    record {
      takes = λ drawing old now accepts. (accepts.1, accepts.0);
      opened = quiet_open (Refused number a b) sessions quiet;
      lacks = λ some old named m. quiet.lacks old;
    }

refuses_drawn : (book : List Series) (r : Request) (sessions : List Session) (frame : Frame) → RefusesSum book r frame
    → DrawsSum book r sessions frame
refuses_drawn book r sessions frame refuses =
    let D : Frame → Type 0 = λ f. DrawsSum book r sessions f in
    subst D (sym refuses.frame_is) (refusal_drawn book r sessions _ _ _)

sum_drawn : Orders → (book : List Series) (r : Request) (session : ℕ) (sessions : List Session) (frame : Frame)
    → is_open session sessions ≡ true → AnswersSum book r session frame → DrawsSum book r sessions frame
sum_drawn order book r session sessions (Rows rows) opened tells = rows_drawn order book r session sessions rows opened tells
sum_drawn order book r session sessions frame opened tells = refuses_drawn book r sessions frame tells

-- ---- each report

-- a client holds behind the frame what it held, and its drawing is the picture of what was asked
pub record DrawsAsked (asked : HostLine) (frame : Frame) (state : State) : Type 0 where
  pub takes : (drawing : Option Canvas) (old now : List Holding) → Accepts frame drawing old now
      → (now ≡ old) × PicturesAsked asked state.book frame drawing
  pub opened : NamesOpen frame state.sessions
  pub lacks : (some : List Session) (old : List Holding) → NamesOpen frame some → Mirrors some old → OnlyLacksMemory frame old

quiet_list : (frame : Frame) (state : State) → IsQuiet frame → DrawsAsked ListLine frame state
quiet_list frame state quiet = record {
  takes = λ drawing old now a. let t = quiet.takes drawing old now a in (t.1, t.0);
  opened = quiet_open frame state.sessions quiet;
  lacks = λ some old named m. quiet.lacks old;
}

quiet_values : (name : List ℕ) (t0 t1 : ℤ) (frame : Frame) (state : State) → IsQuiet frame → DrawsAsked (Values name t0 t1) frame state
quiet_values name t0 t1 frame state quiet = record {
  takes = λ drawing old now a. let t = quiet.takes drawing old now a in (t.1, t.0);
  opened = quiet_open frame state.sessions quiet;
  lacks = λ some old named m. quiet.lacks old;
}

quiet_bad : (at : ℕ) (frame : Frame) (state : State) → IsQuiet frame → DrawsAsked (Bad at) frame state
quiet_bad at frame state quiet = record {
  takes = λ drawing old now a. let t = quiet.takes drawing old now a in (t.1, t.0);
  opened = quiet_open frame state.sessions quiet;
  lacks = λ some old named m. quiet.lacks old;
}

sum_asked : Orders → (b : Bool) (session : ℕ) (r : Request) (frame : Frame) (state : State) → is_open session state.sessions ≡ b
    → TellsIf b (Sum session r) state.total state.book frame → DrawsAsked (Sum session r) frame state
sum_asked order false session r frame state opened tells =
    let D : Frame → Type 0 = λ f. DrawsSum state.book r state.sessions f in
    let drawn = subst D (sym tells) (refusal_drawn state.book r state.sessions _ _ _) in
    record { takes = drawn.takes; opened = drawn.opened; lacks = drawn.lacks }
sum_asked order true session r frame state opened tells =
    let drawn = sum_drawn order state.book r session state.sessions frame opened tells in
    record { takes = drawn.takes; opened = drawn.opened; lacks = drawn.lacks }

pub report_drawn : Orders → (asked : HostLine) (frame : Frame) (state : State) → Reported asked frame state → DrawsAsked asked frame state
report_drawn order ListLine frame state tells = quiet_list frame state
    (quiet_so frame (Report (report.Catalog (catalog_of state.total state.book))) tells (report_quiet _))
report_drawn order (Values name t0 t1) frame state tells = quiet_values name t0 t1 frame state
    (values_quiet (id_of name state.book) state.book t0 t1 frame tells)
report_drawn order (Sum session r) frame state tells = sum_asked order (is_open session state.sessions) session r frame state refl tells
report_drawn order (Sweep rule) frame state tells = absurd tells
report_drawn order (Bad at) frame state tells = quiet_bad at frame state (refused_is frame (BadLine at) tells)
report_drawn order Other frame state tells = absurd tells
