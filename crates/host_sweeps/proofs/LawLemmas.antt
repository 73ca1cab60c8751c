-- The laws of steps of a sweep.
use Rattle.std.proofs.Common.{◌≡◌, ◌∙◌, ℕ, zero, suc, List, [], length, map, Option, None, Some, refl, sym, ap, subst, inl, inr, arith}
use Rattle.std.specs.Prelude.{All, ⊤}
use Rattle.std.proofs.lemmas.List.Elements.{All-filter}
use Rattle.chart_client.specs.Accepting.{Rejects}
use Rattle.chart_client.specs.declared.errors.ClientError.TheVariants.{Missing, BadCoefficient, UnknownSession, NoMemory}
use Rattle.chart_client.specs.declared.holding.Holding.{Holding}
use Rattle.chart_frames.specs.declared.frame.Frame.{Frame}
use Rattle.chart_frames.specs.declared.frame.Frame.TheVariants.{Done, Refused, Opened, Closed, View as ViewOf, Rows, Live as LiveOf, Report}
use Rattle.chart_frames.specs.declared.frame.ViewFrame.{ViewFrame}
use Rattle.chart_frames.specs.declared.reports.Report.{Report as OneReport}
use Rattle.chart_service.specs.State.{State}
use Rattle.drawn_replies.specs.Mirrors.{DrawsTheBook, Mirrors, OnlyLacksMemory, mirrored}
use Rattle.host_sweeps.specs.Sweeping.{DoesStep, RefusesStep, SweepReplied, pushed_behind, step_clears, swept_followers}
use Rattle.live_service.specs.Following.{FollowsWell}
use Rattle.live_view.specs.Following.{CanFollow}
use Rattle.live_service.specs.LiveReplies.{LiveState}
use Rattle.live_view.specs.Replies.{followers, shows}
use Rattle.live_view.specs.Sessions.{has_view}
use Rattle.retention.specs.declared.rule.Rule.{Rule}
use Rattle.retention.specs.declared.rule.Rule.TheVariants.{Before, Last, Free}
use Rattle.series_book.specs.declared.one_series.Series.{Series}
use Rattle.series_book.specs.Edits.{id_of}
use Rattle.zoom_session.specs.Sessions.{last_of, session_of}
use Rattle.zoom_session.specs.declared.session.Session.{Session}

-- ---- what a client does with the frame of a step

-- the frame shows no view, and names no session
abbrev IsAside : Frame → Type 0
IsAside (Done slots) = ⊥
IsAside (Refused number a b) = ⊤
IsAside (Opened session cache) = ⊥
IsAside (Closed session) = ⊥
IsAside (ViewOf view) = ⊥
IsAside (Rows rows) = ⊥
IsAside (LiveOf n on) = ⊥
IsAside (Report report) = ⊤

aside_draws : (frame : Frame) (old new : State) (holdings : List Holding) → IsAside frame → new.sessions ≡ old.sessions
    → Mirrors old.sessions holdings → DrawsTheBook frame old new holdings
aside_draws (Done slots) old new holdings aside same mirrors = absurd aside
aside_draws (Refused number a b) old new holdings aside same mirrors = λ drawing now accepts. (
  accepts.1 ∙ mirrors
      ∙ ap (map mirrored) (sym same),
  accepts.0,
)
aside_draws (Opened session cache) old new holdings aside same mirrors = absurd aside
aside_draws (Closed session) old new holdings aside same mirrors = absurd aside
aside_draws (ViewOf view) old new holdings aside same mirrors = absurd aside
aside_draws (Rows rows) old new holdings aside same mirrors = absurd aside
aside_draws (LiveOf n on) old new holdings aside same mirrors = absurd aside
aside_draws (Report report) old new holdings aside same mirrors = λ drawing now accepts. (
  accepts.1 ∙ mirrors
      ∙ ap (map mirrored) (sym same),
  accepts.0,
)

refused_view : (number a b : ℕ) (view : ViewFrame) → Refused number a b ≡ ViewOf view → ⊥
refused_view number a b view is = cc

report_view : (report : OneReport) (view : ViewFrame) → Report report ≡ ViewOf view → ⊥
report_view report view is = cc

no_number : (m : ℕ) → ◌≡◌ {A = Option ℕ} None (Some m) → ⊥
no_number m is = cc

aside_accepts : (frame : Frame) (holdings : List Holding) → IsAside frame → OnlyLacksMemory frame holdings
aside_accepts (Done slots) holdings aside = absurd aside
aside_accepts (Refused number a b) holdings aside = λ e. elim e as (λ x. Rejects (Refused number a b) x holdings → x ≡ NoMemory) [
  | Missing key ↦ λ r. absurd (refused_view number a b r.view r.is)
  | BadCoefficient key ↦ λ r. absurd (refused_view number a b r.view r.is)
  | UnknownSession m ↦ λ r. absurd (no_number m r.0)
  | NoMemory ↦ λ r. refl
]
aside_accepts (Opened session cache) holdings aside = absurd aside
aside_accepts (Closed session) holdings aside = absurd aside
aside_accepts (ViewOf view) holdings aside = absurd aside
aside_accepts (Rows rows) holdings aside = absurd aside
aside_accepts (LiveOf n on) holdings aside = absurd aside
aside_accepts (Report report) holdings aside = λ e. elim e as (λ x. Rejects (Report report) x holdings → x ≡ NoMemory) [
  | Missing key ↦ λ r. absurd (report_view report r.view r.is)
  | BadCoefficient key ↦ λ r. absurd (report_view report r.view r.is)
  | UnknownSession m ↦ λ r. absurd (no_number m r.0)
  | NoMemory ↦ λ r. refl
]

-- what a step leaves of the sessions, and its frame
reply_aside : (rule : Rule) (frame : Frame) (old new : LiveState) → SweepReplied rule frame old new
    → IsAside frame × (new.state.sessions ≡ old.state.sessions)
reply_aside rule frame old new replied =
    let A : Frame → Type 0 = λ f. IsAside f in
    elim replied.0 [
      | inl refuses ↦ (subst A (sym refuses.frame_is) tt, ap (λ (s : State). s.sessions) refuses.state_same)
      | inr does ↦ (subst A (sym does.frame_is) tt, ap (λ (s : State). s.sessions) does.state_is)
    ]

pub sweep_draws : (rule : Rule) (frame : Frame) (old new : LiveState) (holdings : List Holding) → SweepReplied rule frame old new
    → Mirrors old.state.sessions holdings → DrawsTheBook frame old.state new.state holdings
sweep_draws rule frame old new holdings replied mirrors =
    let aside = reply_aside rule frame old new replied in
    aside_draws frame old.state new.state holdings aside.0 aside.1 mirrors

pub sweep_accepted : (rule : Rule) (frame : Frame) (old new : LiveState) (holdings : List Holding) → SweepReplied rule frame old new
    → OnlyLacksMemory frame holdings
sweep_accepted rule frame old new holdings replied = aside_accepts frame holdings (reply_aside rule frame old new replied).0

-- ---- there is one answer

same_live : (one other : LiveState) → one.state ≡ other.state → one.followed ≡ other.followed → one.pending ≡ other.pending → one ≡ other
same_live one other state followed pending = λ i. record { state = state i; followed = followed i; pending = pending i }

module _ (rule : Rule) (frame other : Frame) (old new behind : LiveState) where
  abbrev Same : Type 0
  Same = (frame ≡ other) × (new ≡ behind)

  refusals_one : RefusesStep rule frame old new → RefusesStep rule other old behind → Same
  refusals_one a b = (
    a.frame_is ∙ sym b.frame_is,
    same_live new behind (a.state_same ∙ sym b.state_same) (a.followed_same
        ∙ sym b.followed_same) (a.idle ∙ sym b.idle),
  )

  steps_one : DoesStep rule frame old new → DoesStep rule other old behind → Same
  steps_one a b =
      let state = a.state_is ∙ sym b.state_is in (
        a.frame_is ∙ sym b.frame_is,
        same_live new behind state (a.followed_same ∙ sym b.followed_same)
            (a.pending_now
            ∙ ap (λ (s : State). pushed_behind (length (step_clears old.state rule)) (swept_followers rule s.book s.sessions old.followed))
            state
            ∙ sym b.pending_now),
      )

  pub sweep_one : SweepReplied rule frame old new → SweepReplied rule other old behind → Same
  sweep_one a b = elim a.0 [
    | inl refuses ↦ elim b.0 [
      | inl too ↦ refusals_one refuses too
      | inr does ↦ absurd (does.there refuses.none)
    ]
    | inr does ↦ elim b.0 [
      | inl refuses ↦ absurd (does.there refuses.none)
      | inr too ↦ steps_one does too
    ]
  ]

-- ---- followed sessions can follow

all_so : (ss ss' : List Session) (ns ns' : List ℕ) → ss' ≡ ss → ns' ≡ ns → All (CanFollow ss) ns → All (CanFollow ss') ns'
all_so ss ss' ns ns' sessions numbers all =
    let P : List Session → Type 0 = λ l. All (CanFollow l) ns' in
    let Q : List ℕ → Type 0 = λ l. All (CanFollow ss) l in
    subst P (sym sessions) (subst Q (sym numbers) all)

none_can : (ss : List Session) → All (CanFollow ss) []
none_can ss = λ k d below. absurd (omega (arith, below))

followers_can : (series : Option ℕ) (ss like : List Session) (ns : List ℕ) → All (CanFollow ss) ns
    → All (CanFollow ss) (followers series like ns)
followers_can None ss like ns all = none_can ss
followers_can (Some series) ss like ns all = All-filter (λ n. shows series (last_of (session_of n like))) (CanFollow ss) ns all

swept_can : (rule : Rule) (book : List Series) (ss like : List Session) (ns : List ℕ) → All (CanFollow ss) ns
    → All (CanFollow ss) (swept_followers rule book like ns)
swept_can (Before name time) book ss like ns all = followers_can (id_of name book) ss like ns all
swept_can (Last name count) book ss like ns all = followers_can (id_of name book) ss like ns all
swept_can (Free pages) book ss like ns all = All-filter (λ n. has_view n like) (CanFollow ss) ns all

pushed_can : (clears : ℕ) (ss : List Session) (ns : List ℕ) → All (CanFollow ss) ns → All (CanFollow ss) (pushed_behind clears ns)
pushed_can zero ss ns all = none_can ss
pushed_can (suc n) ss ns all = all

pub sweep_well : (rule : Rule) (frame : Frame) (old new : LiveState) → FollowsWell old → SweepReplied rule frame old new → FollowsWell new
sweep_well rule frame old new well replied = elim replied.0 [
  | inl refuses ↦
      let sessions = ap (λ (s : State). s.sessions) refuses.state_same in
      record {
        followed = all_so old.state.sessions new.state.sessions old.followed new.followed sessions refuses.followed_same well.followed;
        pending = all_so old.state.sessions new.state.sessions [] new.pending sessions refuses.idle (none_can old.state.sessions);
      }
  | inr does ↦
      let sessions = ap (λ (s : State). s.sessions) does.state_is in
      record {
        followed = all_so old.state.sessions new.state.sessions old.followed new.followed sessions does.followed_same well.followed;
        pending = all_so old.state.sessions new.state.sessions _ new.pending sessions does.pending_now
            (pushed_can (length (step_clears old.state rule)) old.state.sessions _
            (swept_can rule new.state.book old.state.sessions new.state.sessions old.followed well.followed));
      }
]
