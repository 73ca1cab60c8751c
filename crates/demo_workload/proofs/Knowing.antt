-- The client holds something of just the sessions that are open.
use Rattle.std.proofs.Common.{ℕ, ◌≡◌, ◌≢◌, Bool, true, false, not, ◌==◌, ◌||◌, ◌&&◌, List, [], Option, None, Some, refl, sym, ap, ◌∙◌}
use Rattle.std.proofs.Common.{subst}
use Rattle.std.specs.Prelude.{is_some}
use Rattle.std.proofs.lemmas.Bool.Decides.{Decides-eqb}
use Rattle.line_raster.specs.Canvas.{Canvas}
use Rattle.chart_frames.specs.declared.frame.Frame.{Frame}
use Rattle.chart_frames.specs.declared.frame.Frame.TheVariants.{Done, Refused, Opened, Closed, View, Rows, Live, Report}
use Rattle.chart_frames.specs.declared.frame.ViewFrame.{ViewFrame}
use Rattle.chart_frames.specs.Opened.{opens}
use Rattle.zoom_session.specs.declared.session.Session.{Session}
use Rattle.zoom_session.specs.Sessions.{is_open}
use Rattle.chart_client.specs.declared.holding.Holding.{Holding}
use Rattle.chart_client.specs.Holdings.{holding_of}
use Rattle.chart_client.specs.Accepting.{Accepts, AcceptsView, named_in, viewed}
use Rattle.chart_service.specs.Opening.{OpensBy}
use Rattle.demo_workload.specs.Answering.{KnowsOpen}

-- what an accepted frame changes
pub record Changes : Type 0 where
  pub others : (frame : Frame) (drawing : Option Canvas) (old new : List Holding) (number : ℕ)
      → Accepts frame drawing old new → named_in frame ≢ Some number → holding_of number new ≡ holding_of number old
  pub opened : (number size : ℕ) (drawing : Option Canvas) (old new : List Holding) → Accepts (Opened number size) drawing old new
      → holding_of number new ≡ Some (record { number = number; cache = record { pairs = []; capacity = size } })
  pub closed : (number : ℕ) (drawing : Option Canvas) (old new : List Holding) → Accepts (Closed number) drawing old new
      → holding_of number new ≡ None
  pub viewed : (view : ViewFrame) (holding : Holding) (drawing : Canvas) (old new : List Holding)
      → holding_of view.session old ≡ Some holding
      → (accepted : AcceptsView view holding.cache drawing old new)
      → holding_of view.session new ≡ Some (record { number = view.session; cache = viewed view holding.cache accepted.wanted })

-- whether something is held of a session
abbrev pub holds : ℕ → List Holding → Bool
holds n holdings = is_some (holding_of n holdings)

held : (n : ℕ) (holdings : List Holding) (holding : Holding) → holding_of n holdings ≡ Some holding → holds n holdings ≡ true
held n holdings holding is = ap (λ (h : Option Holding). is_some h) is

bare : (n : ℕ) (holdings : List Holding) → holding_of n holdings ≡ None → holds n holdings ≡ false
bare n holdings is = ap (λ (h : Option Holding). is_some h) is

other_number : (m n : ℕ) → m == n ≡ false → ◌≢◌ {A = Option ℕ} (Some m) (Some n)
other_number m n apart same =
    let e : m ≡ n = cc in
    let yes : m == n ≡ true = (Decides-eqb m n).1 e in
    let never : true ≡ false = sym yes ∙ apart in
    cc

other_stays : Changes → (frame : Frame) (drawing : Option Canvas) (old new : List Holding) (m n : ℕ) → Accepts frame drawing old new
    → named_in frame ≡ Some m → m == n ≡ false → holds n new ≡ holds n old
other_stays laws frame drawing old new m n accepted is apart =
    ap (λ (h : Option Holding). is_some h) (laws.others frame drawing old new n accepted (λ e. other_number m n apart (sym is ∙ e)))

opened_so : Changes → (session cache : ℕ) (drawing : Option Canvas) (old new : List Holding) (n : ℕ)
    → Accepts (Opened session cache) drawing old new
    → (b : Bool) → session == n ≡ b → holds n new ≡ (b || holds n old)
opened_so laws session cache drawing old new n accepted true is =
    let e : session ≡ n = (Decides-eqb session n).0 is in
    let P : ℕ → Type 0 = λ k. holds k new ≡ true in
    subst P e (held session new _ (laws.opened session cache drawing old new accepted))
opened_so laws session cache drawing old new n accepted false is = other_stays laws
    (Opened session cache) drawing old new session n accepted refl is

closed_so : Changes → (session : ℕ) (drawing : Option Canvas) (old new : List Holding) (n : ℕ) → Accepts (Closed session) drawing old new
    → (b : Bool) → session == n ≡ b → holds n new ≡ (not b && holds n old)
closed_so laws session drawing old new n accepted true is =
    let e : session ≡ n = (Decides-eqb session n).0 is in
    let P : ℕ → Type 0 = λ k. holds k new ≡ false in
    subst P e (bare session new (laws.closed session drawing old new accepted))
closed_so laws session drawing old new n accepted false is = other_stays laws (Closed session) drawing old new session n accepted refl is

viewed_so : Changes → (view : ViewFrame) (drawing : Canvas) (old new : List Holding) (n : ℕ) → Accepts (View view) (Some drawing) old new
    → (b : Bool) → view.session == n ≡ b → holds n new ≡ holds n old
viewed_so laws view drawing old new n accepted true is =
    let e : view.session ≡ n = (Decides-eqb view.session n).0 is in
    let P : ℕ → Type 0 = λ k. holds k new ≡ holds k old in
    subst P e (held view.session new _ (laws.viewed view accepted.0 drawing old new accepted.1 accepted.2)
    ∙ sym (held view.session old accepted.0 accepted.1))
viewed_so laws view drawing old new n accepted false is = other_stays laws (View view)
    (Some drawing) old new view.session n accepted refl is

-- an accepted frame opens and closes what it says
accepted_opens : Changes → (frame : Frame) (drawing : Option Canvas) (old new : List Holding) (n : ℕ) → Accepts frame drawing old new
    → holds n new ≡ opens frame n (holds n old)
accepted_opens laws (Done slots) drawing old new n accepted = ap (λ (h : List Holding). holds n h) accepted.1
accepted_opens laws (Refused number a b) drawing old new n accepted = ap (λ (h : List Holding). holds n h) accepted.1
accepted_opens laws (Opened session cache) drawing old new n accepted = opened_so laws session cache drawing old new n accepted
    (session == n) refl
accepted_opens laws (Closed session) drawing old new n accepted = closed_so laws session drawing old new n accepted (session == n) refl
accepted_opens laws (View view) None old new n accepted = absurd accepted
accepted_opens laws (View view) (Some drawing) old new n accepted = viewed_so laws view drawing old new n accepted (view.session == n) refl
accepted_opens laws (Rows rows) None old new n accepted = absurd accepted
accepted_opens laws (Rows rows) (Some drawing) old new n accepted = ap (λ (h : List Holding). holds n h) accepted.1.holdings
accepted_opens laws (Live session on) drawing old new n accepted = ap (λ (h : List Holding). holds n h) accepted.2
accepted_opens laws (Report report) drawing old new n accepted = ap (λ (h : List Holding). holds n h) accepted.1

-- a step and its accepted frame
pub knows_on : Changes → (frame : Frame) (drawing : Option Canvas) (sessions sessions' : List Session) (old new : List Holding)
    → KnowsOpen sessions old
    → OpensBy frame sessions sessions' → Accepts frame drawing old new → KnowsOpen sessions' new
knows_on laws frame drawing sessions sessions' old new knows by accepted = λ n.
    accepted_opens laws frame drawing old new n accepted ∙ ap (λ (b : Bool). opens frame n b) (knows n) ∙ sym (by.after n)

pub knows_none : (sessions : List Session) (holdings : List Holding) → sessions ≡ [] → holdings ≡ [] → KnowsOpen sessions holdings
knows_none sessions holdings alone none = λ n. ap (λ (h : List Holding). holds n h) none
    ∙ ap (λ (s : List Session). is_open n s) (sym alone)
