-- What answers of the stepper leave of the followed sessions, and to whom they push.
use Rattle.std.proofs.Common.{◌≡◌, ℕ, ◌≤◌, Bool, true, false, not, ◌||◌, ◌&&◌, List, [], length, get_or, refl, ap, ◌∙◌, arith, Option, None}
use Rattle.std.proofs.Common.{Some}
use Rattle.std.specs.Prelude.{All, IsTrue, ◌==◌, is_some}
use Rattle.std.specs.Cmp.{nat_eq_equiv}
use Rattle.std.specs.List.Sorted.{IsStrictlyIncreasing}
use Rattle.std.proofs.lemmas.List.Kept.{IsStrictlyIncreasing-filter}
use Rattle.std.proofs.lemmas.List.Elements.{All-filter, All-weaker, filter_passes}
use Rattle.chart_frames.specs.declared.frame.Frame.{Frame}
use Rattle.chart_frames.specs.declared.frame.Frame.TheVariants.{Done, Refused, Opened, Closed, View as ViewOf, Rows, Live, Report}
use Rattle.zoom_session.specs.declared.session.Session.{Session}
use Rattle.zoom_session.specs.declared.view_spec.ViewSpec.{ViewSpec}
use Rattle.zoom_session.specs.Sessions.{is_open, session_of, last_of}
use Rattle.live_view.specs.declared.meaning.Meaning.{Meaning}
use Rattle.live_view.specs.Numbers.{without_number}
use Rattle.live_view.specs.Replies.{ended, still_followed, shows, followers}
use Rattle.live_view.specs.Sessions.{OpensBy, AreOpen, HaveViews, has_view}
use Rattle.live_view.proofs.NumberLemmas.{without-rises, some-few}

-- tests of two
or-true : (b : Bool) → (b || true) ≡ true
or-true true = refl
or-true false = refl

and-true : (b : Bool) → (b && true) ≡ b
and-true true = refl
and-true false = refl

-- no number
none-rises : IsStrictlyIncreasing []
none-rises = λ k below. absurd (omega (arith, below))

pub none-viewed : (sessions : List Session) → HaveViews sessions []
none-viewed sessions = λ k d below. absurd (omega (arith, below))

-- the followed sessions without one still rise, are few, and are open where all were
pub still-rises : (e : Option ℕ) (ns : List ℕ) → IsStrictlyIncreasing ns → IsStrictlyIncreasing (still_followed e ns)
still-rises None ns rising = rising
still-rises (Some n) ns rising = without-rises n ns rising

pub still-few : (e : Option ℕ) (ns : List ℕ) → length ns ≤ 16 → length (still_followed e ns) ≤ 16
still-few None ns few = few
still-few (Some n) ns few = some-few (λ m. not (m == n)) ns few

pub still-all : (P : ℕ → Type 0) (e : Option ℕ) (ns : List ℕ) → All P ns → All P (still_followed e ns)
still-all P None ns all = all
still-all P (Some n) ns all = All-filter (λ m. not (m == n)) P ns all

-- those that a frame leaves are open after it
pub passed-open : (meaning : Meaning) (frame : Frame) (old new : List Session) (ns : List ℕ) → OpensBy frame old new → AreOpen old ns
    → AreOpen new (still_followed (ended meaning frame) ns)
passed-open meaning (Done slots) old new ns opens opened = λ k d below. opens (get_or ns k d) ∙ opened k d below
passed-open meaning (Refused number a b) old new ns opens opened = λ k d below. opens (get_or ns k d) ∙ opened k d below
passed-open meaning (Opened session cache) old new ns opens opened =
    still-all (λ n. IsTrue (is_open n new)) (Some session) ns
    (λ k d below. opens (get_or ns k d) ∙ ap (λ b. session == get_or ns k d || b) (opened k d below) ∙ or-true (session == get_or ns k d))
passed-open meaning (Closed session) old new ns opens opened =
    let left : List ℕ = without_number session ns in
    let were : AreOpen old left = All-filter (λ m. not (m == session)) (λ n. IsTrue (is_open n old)) ns opened in
    let others : All (λ m. not (m == session) ≡ true) left = filter_passes (λ m. not (m == session)) ns in
    λ k d below.
    opens (get_or left k d) ∙ ap (λ b. not (session == get_or left k d) && b) (were k d below)
    ∙ and-true (not (session == get_or left k d)) ∙ ap not (nat_eq_equiv.symm session (get_or left k d)) ∙ others k d below
passed-open meaning (ViewOf view) old new ns opens opened =
    still-all (λ n. IsTrue (is_open n new)) (ended meaning (ViewOf view)) ns (λ k d below. opens (get_or ns k d) ∙ opened k d below)
passed-open meaning (Rows rows) old new ns opens opened =
    still-all (λ n. IsTrue (is_open n new)) (ended meaning (Rows rows)) ns (λ k d below. opens (get_or ns k d) ∙ opened k d below)
passed-open meaning (Live session on) old new ns opens opened = λ k d below. opens (get_or ns k d) ∙ opened k d below
passed-open meaning (Report report) old new ns opens opened = λ k d below. opens (get_or ns k d) ∙ opened k d below

-- the sessions that follow a series rise, and have had a view
pub followers-rise : (series : Option ℕ) (sessions : List Session) (ns : List ℕ) → IsStrictlyIncreasing ns
    → IsStrictlyIncreasing (followers series sessions ns)
followers-rise None sessions ns rising = none-rises
followers-rise (Some series) sessions ns rising = IsStrictlyIncreasing-filter
    (λ n. shows series (last_of (session_of n sessions))) ns rising

shown-viewed : (series : ℕ) (last : Option ViewSpec) → shows series last ≡ true → is_some last ≡ true
shown-viewed series None shown = cc
shown-viewed series (Some view) shown = refl

pub followers-viewed : (series : Option ℕ) (sessions : List Session) (ns : List ℕ) → HaveViews sessions (followers series sessions ns)
followers-viewed None sessions ns = none-viewed sessions
followers-viewed (Some series) sessions ns =
    All-weaker (λ n. shows series (last_of (session_of n sessions)) ≡ true) (λ n. IsTrue (has_view n sessions))
    (λ n shown. shown-viewed series (last_of (session_of n sessions)) shown)
    (followers (Some series) sessions ns) (filter_passes (λ n. shows series (last_of (session_of n sessions))) ns)

pub followers-all : (P : ℕ → Type 0) (series : Option ℕ) (sessions : List Session) (ns : List ℕ) → All P ns
    → All P (followers series sessions ns)
followers-all P None sessions ns all = λ k d below. absurd (omega (arith, below))
followers-all P (Some series) sessions ns all = All-filter (λ n. shows series (last_of (session_of n sessions))) P ns all
