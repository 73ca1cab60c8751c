-- To whom edits push that are done together.
use Rattle.std.proofs.Common.{◌≡◌, ◌∙◌, ℕ, Bool, true, false, ◌||◌, ◌==◌, List, [], ◌∷◌, ◌++◌, refl, ap, sym, subst, append_assoc, Option}
use Rattle.std.proofs.Common.{None, Some}
use Rattle.std.specs.Prelude.{All, filter, is_some, IsTrue}
use Rattle.std.specs.List.Sorted.{IsStrictlyIncreasing}
use Rattle.std.proofs.lemmas.List.Kept.{IsStrictlyIncreasing-filter}
use Rattle.std.proofs.lemmas.List.Elements.{All-filter, All-weaker, filter_passes}
use Rattle.chart_frames.specs.declared.frame.Frame.{Frame}
use Rattle.series_book.specs.declared.edits.Edit.{Edit}
use Rattle.zoom_session.specs.declared.session.Session.{Session}
use Rattle.zoom_session.specs.declared.view_spec.ViewSpec.{ViewSpec}
use Rattle.zoom_session.specs.Sessions.{session_of, last_of}
use Rattle.live_view.specs.declared.meaning.Meaning.TheVariants.{Edit as EditOf}
use Rattle.live_view.specs.Groups.{AddsChanged, followers_of, shows_one}
use Rattle.live_view.specs.Meaning.{name_of}
use Rattle.live_view.specs.Replies.{Changes, followers, shows}
use Rattle.live_view.specs.Sessions.{HaveViews, has_view}

-- the next edit, and those behind it
pub adds_next : (names : List ℕ → Option ℕ → Type 0) (edits later : List Edit) (edit : Edit) (frames others : List Frame) (frame : Frame)
    (before between now : List (Option ℕ)) (one : Option ℕ)
    → edits ≡ edit ∷ later → frames ≡ frame ∷ others → Changes names (EditOf (name_of edit)) frame one → between ≡ before ++ one ∷ []
    → AddsChanged names later others between now
    → AddsChanged names edits frames before now
adds_next names edits later edit frames others frame before between now one edits_are frames_are changes is adds =
    let A : List Edit → Type 0 = λ l. AddsChanged names l frames before now in
    let B : List Frame → Type 0 = λ l. AddsChanged names (edit ∷ later) l before now in
    subst A (sym edits_are) (subst B (sym frames_are) (record {
      series = one ∷ adds.series;
      changed = (changes, adds.changed);
      are = adds.are ∙ ap (λ l. l ++ adds.series) is ∙ append_assoc before (one ∷ []) adds.series;
    }))

-- ---- who follows

pub group-rises : (series : List (Option ℕ)) (sessions : List Session) (ns : List ℕ) → IsStrictlyIncreasing ns
    → IsStrictlyIncreasing (followers_of series sessions ns)
group-rises series sessions ns rising = IsStrictlyIncreasing-filter (λ n. shows_one series (last_of (session_of n sessions))) ns rising

shown-viewed : (series : List (Option ℕ)) (last : Option ViewSpec) → shows_one series last ≡ true → is_some last ≡ true
shown-viewed series None shown = cc
shown-viewed series (Some view) shown = refl

pub group-viewed : (series : List (Option ℕ)) (sessions : List Session) (ns : List ℕ) → HaveViews sessions (followers_of series sessions ns)
group-viewed series sessions ns =
    All-weaker (λ n. shows_one series (last_of (session_of n sessions)) ≡ true) (λ n. IsTrue (has_view n sessions))
    (λ n shown. shown-viewed series (last_of (session_of n sessions)) shown)
    (followers_of series sessions ns) (filter_passes (λ n. shows_one series (last_of (session_of n sessions))) ns)

pub group-all : (P : ℕ → Type 0) (series : List (Option ℕ)) (sessions : List Session) (ns : List ℕ) → All P ns
    → All P (followers_of series sessions ns)
group-all P series sessions ns all = All-filter (λ n. shows_one series (last_of (session_of n sessions))) P ns all

-- ---- one edit

or-false : (b : Bool) → (b || false) ≡ b
or-false true = refl
or-false false = refl

one-shown : (series : ℕ) (last : Option ViewSpec) → shows_one (Some series ∷ []) last ≡ shows series last
one-shown series None = refl
one-shown series (Some view) = or-false (view.series == series)

none-shown : (last : Option ViewSpec) → shows_one (None ∷ []) last ≡ false
none-shown None = refl
none-shown (Some view) = refl

filter-none : (ns : List ℕ) → filter (λ n. false) ns ≡ []
filter-none [] = refl
filter-none (n ∷ ns) = filter-none ns

-- one edit is pushed as alone
pub group-of-one : (series : Option ℕ) (sessions : List Session) (followed : List ℕ)
    → followers_of (series ∷ []) sessions followed ≡ followers series sessions followed
group-of-one None sessions followed = (λ i. filter (λ n. none-shown (last_of (session_of n sessions)) i) followed) ∙ filter-none followed
group-of-one (Some series) sessions followed = λ i. filter (λ n. one-shown series (last_of (session_of n sessions)) i) followed
