-- What a client does with the frames that answer lines of live views.
use Rattle.std.proofs.Common.{◌≡◌, ℕ, ◌==◌, Bool, true, false, if◌then◌else◌, ℤ, List, [], ◌∷◌, map, Option, None, Some, refl, sym, ap, ◌∙◌}
use Rattle.std.proofs.Common.{subst, inl, inr}
use Rattle.std.specs.Prelude.{⊤}
use Rattle.std.specs.Option.{option_map}
use Rattle.std.proofs.lemmas.Bool.{eqb-true}
use Rattle.chart_client.specs.Accepting.{Rejects}
use Rattle.chart_client.specs.Holdings.{holding_of}
use Rattle.chart_client.specs.declared.errors.ClientError.TheVariants.{Missing, BadCoefficient, UnknownSession, NoMemory}
use Rattle.chart_client.specs.declared.holding.Holding.{Holding}
use Rattle.chart_frames.specs.declared.frame.Frame.{Frame}
use Rattle.chart_frames.specs.declared.frame.Frame.TheVariants.{Done, Refused, Opened, Closed, View as ViewOf, Rows, Live as LiveOf, Report}
use Rattle.chart_frames.specs.declared.frame.ViewFrame.{ViewFrame}
use Rattle.chart_service.proofs.Lasts.{somebody}
use Rattle.chart_service.specs.Replies.{AnswersBy, MovesLast, MovesIn, RepliesToLine}
use Rattle.chart_service.proofs.Standing.{only_session}
use Rattle.chart_service.specs.Alone.{alone, only}
use Rattle.chart_service.specs.State.{State, IsSound}
use Rattle.drawn_replies.proofs.OneSession.{picture-alone}
use Rattle.drawn_replies.specs.Mirrors.{Mirrors, mirrored, DrawsTheBook, OnlyLacksMemory}
use Rattle.drawn_replies.specs.Pictures.{names}
use Rattle.drawn_replies.specs.Sent.{FollowsOwn}
use Rattle.live_service.specs.LiveReplies.{LiveState, LiveReplied, RepliesTo, AnswersItself, Pushed}
use Rattle.live_view.specs.Lines.{live_line}
use Rattle.live_view.specs.Replies.{too_large, is_too_large, live_bound, follow_view, follow_reply, unfollow_reply}
use Rattle.live_view.specs.declared.live_lines.LiveLine.{LiveLine}
use Rattle.live_view.specs.declared.live_lines.LiveLine.TheVariants.{Follow, Unfollow, Bad, Other as OtherLine}
use Rattle.zoom_session.specs.Sessions.{is_open, session_of}
use Rattle.zoom_session.specs.declared.session.Session.{Session}
use Rattle.zoom_session.specs.declared.view_spec.ViewSpec.{ViewSpec}
use Rattle.series_book.specs.declared.one_series.Series.{Series}
use Rattle.value_filter.specs.declared.steps.Step.{Step as FilterStep}

-- the frame is a refusal, or tells of the following of a session that is open
abbrev IsAside : Frame → List Session → Type 0
IsAside (Done slots) ss = ⊥
IsAside (Refused number a b) ss = ⊤
IsAside (Opened session cache) ss = ⊥
IsAside (Closed session) ss = ⊥
IsAside (ViewOf view) ss = ⊥
IsAside (Rows rows) ss = ⊥
IsAside (LiveOf n on) ss = (s : Session) × (session_of n ss ≡ Some s)
IsAside (Report report) ss = ⊥

-- ---- it changes nothing, and draws nothing

mirrors_on : (old new : State) (holdings now : List Holding) → new ≡ old → now ≡ holdings → Mirrors old.sessions holdings
    → Mirrors new.sessions now
mirrors_on old new holdings now same kept mirrors = kept ∙ mirrors ∙ ap (λ (s : State). map mirrored s.sessions) (sym same)

aside_draws : (frame : Frame) (old new : State) (holdings : List Holding) → IsAside frame old.sessions → new ≡ old
    → Mirrors old.sessions holdings → DrawsTheBook frame old new holdings
aside_draws (Done slots) old new holdings aside same mirrors = absurd aside
aside_draws (Refused number a b) old new holdings aside same mirrors = λ drawing now accepts.
    (mirrors_on old new holdings now same accepts.1 mirrors, accepts.0)
aside_draws (Opened session cache) old new holdings aside same mirrors = absurd aside
aside_draws (Closed session) old new holdings aside same mirrors = absurd aside
aside_draws (ViewOf view) old new holdings aside same mirrors = absurd aside
aside_draws (Rows rows) old new holdings aside same mirrors = absurd aside
aside_draws (LiveOf n on) old new holdings aside same mirrors = λ drawing now accepts.
    (mirrors_on old new holdings now same accepts.2 mirrors, accepts.0)
aside_draws (Report report) old new holdings aside same mirrors = absurd aside

refused_view : (number a b : ℕ) (view : ViewFrame) → Refused number a b ≡ ViewOf view → ⊥
refused_view number a b view is = cc

live_is_no_view : (n : ℕ) (on : Bool) (view : ViewFrame) → LiveOf n on ≡ ViewOf view → ⊥
live_is_no_view n on view is = cc

same_number : (n m : ℕ) → Some n ≡ Some m → n ≡ m
same_number n m is = cc

no_number : (m : ℕ) → ◌≡◌ {A = Option ℕ} None (Some m) → ⊥
no_number m is = cc

no_holding : (holding : Holding) → ◌≡◌ {A = Option Holding} (Some holding) None → ⊥
no_holding holding is = cc

-- the holding of a session mirrors it
held_by : (n : ℕ) (s : Session) (ss : List Session) (b : Bool) → (s.number == n) ≡ b
    → holding_of n (map mirrored ss) ≡ option_map mirrored (session_of n ss)
    → holding_of n (map mirrored (s ∷ ss)) ≡ option_map mirrored (session_of n (s ∷ ss))
held_by n s ss true is before = rw is refl
held_by n s ss false is before = rw is before

held : (n : ℕ) (ss : List Session) → holding_of n (map mirrored ss) ≡ option_map mirrored (session_of n ss)
held n [] = refl
held n (s ∷ ss) = held_by n s ss (s.number == n) refl (held n ss)

-- the client holds the session that it names
is_held : (n m : ℕ) (ss : List Session) (holdings : List Holding) (s : Session) → session_of n ss ≡ Some s → Mirrors ss holdings
    → Some n ≡ Some m → holding_of m holdings ≡ None → ⊥
is_held n m ss holdings s open_is mirrors same none =
    let gone : holding_of n (map mirrored ss) ≡ None = ap (λ k. holding_of k (map mirrored ss)) (same_number n m same)
    ∙ ap (λ hs. holding_of m hs) (sym mirrors) ∙ none in
    let had : holding_of n (map mirrored ss) ≡ Some (mirrored s) = held n ss ∙ ap (λ o. option_map mirrored o) open_is in
    no_holding (mirrored s) (sym had ∙ gone)

aside_accepts : (frame : Frame) (ss : List Session) (holdings : List Holding) → IsAside frame ss → Mirrors ss holdings
    → OnlyLacksMemory frame holdings
aside_accepts (Done slots) ss holdings aside mirrors = absurd aside
aside_accepts (Refused number a b) ss holdings aside mirrors = λ e. elim e as (λ x. Rejects (Refused number a b) x holdings
    → x ≡ NoMemory) [
      | Missing key ↦ λ r. absurd (refused_view number a b r.view r.is)
      | BadCoefficient key ↦ λ r. absurd (refused_view number a b r.view r.is)
      | UnknownSession m ↦ λ r. absurd (no_number m r.0)
      | NoMemory ↦ λ r. refl
    ]
aside_accepts (Opened session cache) ss holdings aside mirrors = absurd aside
aside_accepts (Closed session) ss holdings aside mirrors = absurd aside
aside_accepts (ViewOf view) ss holdings aside mirrors = absurd aside
aside_accepts (Rows rows) ss holdings aside mirrors = absurd aside
aside_accepts (LiveOf n on) ss holdings aside mirrors = λ e. elim e as (λ x. Rejects (LiveOf n on) x holdings → x ≡ NoMemory) [
  | Missing key ↦ λ r. absurd (live_is_no_view n on r.view r.is)
  | BadCoefficient key ↦ λ r. absurd (live_is_no_view n on r.view r.is)
  | UnknownSession m ↦ λ r. absurd (is_held n m ss holdings aside.0 aside.1 mirrors r.0 r.1)
  | NoMemory ↦ λ r. refl
]
aside_accepts (Report report) ss holdings aside mirrors = absurd aside

-- ---- the answers to such lines are so

large_aside : (n : ℕ) (s : Session) (ss : List Session) (view : ViewSpec) → session_of n ss ≡ Some s → (large : Bool)
    → IsAside (if large then too_large (live_bound view.grid.w) s.cache.capacity else LiveOf n true) ss
large_aside n s ss view open_is true = tt
large_aside n s ss view open_is false = (s, open_is)

view_aside : (n : ℕ) (s : Session) (ss : List Session) → session_of n ss ≡ Some s → (last : Option ViewSpec)
    → IsAside (follow_view n s.cache.capacity last) ss
view_aside n s ss open_is None = tt
view_aside n s ss open_is (Some view) = large_aside n s ss view open_is (is_too_large view s.cache.capacity)

follow_aside : (n : ℕ) (o : Option Session) (ss : List Session) → session_of n ss ≡ o → IsAside (follow_reply n o) ss
follow_aside n None ss is = tt
follow_aside n (Some s) ss is = view_aside n s ss is s.last

unfollow_aside : (n : ℕ) (b : Bool) (ss : List Session) → is_open n ss ≡ b → IsAside (unfollow_reply n b) ss
unfollow_aside n false ss is = tt
unfollow_aside n true ss is = somebody n ss is

-- ---- lines

-- what a client does with the frames that answer lines of a service
abbrev pub Draws : Type 0
Draws = (line : Option (List ℕ)) (frame : Frame) (old new : State) (holdings : List Holding) → IsSound old
    → RepliesToLine line frame old new → Mirrors old.sessions holdings → DrawsTheBook frame old new holdings

abbrev pub Accepted : Type 0
Accepted = (line : Option (List ℕ)) (frame : Frame) (old new : State) (holdings : List Holding) → IsSound old
    → RepliesToLine line frame old new → Mirrors old.sessions holdings → OnlyLacksMemory frame holdings

itself_draws : (reply frame : Frame) (old new : LiveState) (holdings : List Holding) → AnswersItself reply frame old new
    → IsAside reply old.state.sessions → Mirrors old.state.sessions holdings → DrawsTheBook frame old.state new.state holdings
itself_draws reply frame old new holdings a aside mirrors =
    let A : Frame → Type 0 = λ f. IsAside f old.state.sessions in
    aside_draws frame old.state new.state holdings (subst A (sym a.is) aside) a.state mirrors

itself_accepts : (reply frame : Frame) (old new : LiveState) (holdings : List Holding) → AnswersItself reply frame old new
    → IsAside reply old.state.sessions → Mirrors old.state.sessions holdings → OnlyLacksMemory frame holdings
itself_accepts reply frame old new holdings a aside mirrors =
    let A : Frame → Type 0 = λ f. IsAside f old.state.sessions in
    aside_accepts frame old.state.sessions holdings (subst A (sym a.is) aside) mirrors

asked_draws : Draws → (asked : LiveLine) (text : List ℕ) (frame : Frame) (old new : LiveState) (holdings : List Holding) → IsSound old.state
    → RepliesTo asked text frame old new → Mirrors old.state.sessions holdings → DrawsTheBook frame old.state new.state holdings
asked_draws draws (Follow n) text frame old new holdings sound r mirrors = itself_draws _ frame old new holdings r
    (follow_aside n (session_of n old.state.sessions) old.state.sessions refl) mirrors
asked_draws draws (Unfollow n) text frame old new holdings sound r mirrors = itself_draws _ frame old new holdings r
    (unfollow_aside n (is_open n old.state.sessions) old.state.sessions refl) mirrors
asked_draws draws (Bad at) text frame old new holdings sound r mirrors = itself_draws _ frame old new holdings r tt mirrors
asked_draws draws OtherLine text frame old new holdings sound r mirrors = draws
    (Some text) frame old.state new.state holdings sound r.replied.0 mirrors

pub line_draws : Draws → (line : Option (List ℕ)) (frame : Frame) (old new : LiveState) (holdings : List Holding) → IsSound old.state
    → LiveReplied line frame old new → Mirrors old.state.sessions holdings → DrawsTheBook frame old.state new.state holdings
line_draws draws None frame old new holdings sound r mirrors = draws None frame old.state new.state holdings sound r.replied.0 mirrors
line_draws draws (Some text) frame old new holdings sound r mirrors = asked_draws draws
    (live_line text) text frame old new holdings sound r mirrors

asked_accepted : Accepted → (asked : LiveLine) (text : List ℕ) (frame : Frame) (old new : LiveState) (holdings : List Holding)
    → IsSound old.state → RepliesTo asked text frame old new → Mirrors old.state.sessions holdings → OnlyLacksMemory frame holdings
asked_accepted accepts (Follow n) text frame old new holdings sound r mirrors = itself_accepts _ frame old new holdings r
    (follow_aside n (session_of n old.state.sessions) old.state.sessions refl) mirrors
asked_accepted accepts (Unfollow n) text frame old new holdings sound r mirrors = itself_accepts _ frame old new holdings r
    (unfollow_aside n (is_open n old.state.sessions) old.state.sessions refl) mirrors
asked_accepted accepts (Bad at) text frame old new holdings sound r mirrors = itself_accepts _ frame old new holdings r tt mirrors
asked_accepted accepts OtherLine text frame old new holdings sound r mirrors = accepts
    (Some text) frame old.state new.state holdings sound r.replied.0 mirrors

pub line_accepted : Accepted → (line : Option (List ℕ)) (frame : Frame) (old new : LiveState) (holdings : List Holding) → IsSound old.state
    → LiveReplied line frame old new → Mirrors old.state.sessions holdings → OnlyLacksMemory frame holdings
line_accepted accepts None frame old new holdings sound r mirrors = accepts None frame old.state new.state holdings sound r.replied.0
    mirrors
line_accepted accepts (Some text) frame old new holdings sound r mirrors = asked_accepted accepts
    (live_line text) text frame old new holdings sound r mirrors

-- ---- lines, where the client is sent the frames of one session alone

-- what such a client does with the frames that answer lines of a service
abbrev pub OwnDraws : Type 0
OwnDraws = (n : ℕ) (line : Option (List ℕ)) (frame : Frame) (old new : State) → IsSound old → RepliesToLine line frame old new
    → FollowsOwn n frame old new

own_aside : (n : ℕ) (frame : Frame) (ss : List Session) → names n frame ≡ true → IsAside frame ss → IsAside frame (only n ss)
own_aside n (Done slots) ss named aside = absurd aside
own_aside n (Refused number a b) ss named aside = tt
own_aside n (Opened session cache) ss named aside = absurd aside
own_aside n (Closed session) ss named aside = absurd aside
own_aside n (ViewOf view) ss named aside = absurd aside
own_aside n (Rows rows) ss named aside = absurd aside
own_aside n (LiveOf m on) ss named aside =
    let is : m ≡ n = eqb-true m n named in
    (aside.0, ap (λ k. session_of k (only n ss)) is ∙ only_session n ss ∙ ap (λ k. session_of k ss) (sym is) ∙ aside.1)
own_aside n (Report report) ss named aside = absurd aside

aside_follows : (n : ℕ) (frame : Frame) (old new : State) → IsAside frame old.sessions → new ≡ old → FollowsOwn n frame old new
aside_follows n frame old new aside same = record {
  draws = λ named h m d now a.
      let drawn = aside_draws frame (alone n old) (alone n new) h (own_aside n frame old.sessions named aside)
      (ap (alone n) same) m d now a in
      (drawn.0, picture-alone n frame d old new named drawn.1);
  accepts = λ named h m. aside_accepts frame (only n old.sessions) h (own_aside n frame old.sessions named aside) m;
  stays = λ other. ap (λ (s : State). only n s.sessions) same;
}

itself_follows : (n : ℕ) (reply frame : Frame) (old new : LiveState) → AnswersItself reply frame old new → IsAside reply old.state.sessions
    → FollowsOwn n frame old.state new.state
itself_follows n reply frame old new a aside =
    let A : Frame → Type 0 = λ f. IsAside f old.state.sessions in
    aside_follows n frame old.state new.state (subst A (sym a.is) aside) a.state

asked_follows : OwnDraws → (n : ℕ) (asked : LiveLine) (text : List ℕ) (frame : Frame) (old new : LiveState) → IsSound old.state
    → RepliesTo asked text frame old new → FollowsOwn n frame old.state new.state
asked_follows own n (Follow m) text frame old new sound r = itself_follows n _ frame old new r
    (follow_aside m (session_of m old.state.sessions) old.state.sessions refl)
asked_follows own n (Unfollow m) text frame old new sound r = itself_follows n _ frame old new r
    (unfollow_aside m (is_open m old.state.sessions) old.state.sessions refl)
asked_follows own n (Bad at) text frame old new sound r = itself_follows n _ frame old new r tt
asked_follows own n OtherLine text frame old new sound r = own n (Some text) frame old.state new.state sound r.replied.0

pub line_follows : OwnDraws → (n : ℕ) (line : Option (List ℕ)) (frame : Frame) (old new : LiveState) → IsSound old.state
    → LiveReplied line frame old new → FollowsOwn n frame old.state new.state
line_follows own n None frame old new sound r = own n None frame old.state new.state sound r.replied.0
line_follows own n (Some text) frame old new sound r = asked_follows own n (live_line text) text frame old new sound r

-- ---- the state stays sound

itself_sound : (old new : State) → new ≡ old → IsSound old → IsSound new
itself_sound old new same sound = let S : State → Type 0 = λ s. IsSound s in subst S (sym same) sound

asked_sound : (asked : LiveLine) (text : List ℕ) (frame : Frame) (old new : LiveState) → IsSound old.state
    → RepliesTo asked text frame old new → IsSound new.state
asked_sound (Follow n) text frame old new sound r = itself_sound old.state new.state r.state sound
asked_sound (Unfollow n) text frame old new sound r = itself_sound old.state new.state r.state sound
asked_sound (Bad at) text frame old new sound r = itself_sound old.state new.state r.state sound
asked_sound OtherLine text frame old new sound r = r.replied.2

pub line_sound : (line : Option (List ℕ)) (frame : Frame) (old new : LiveState) → IsSound old.state → LiveReplied line frame old new
    → IsSound new.state
line_sound None frame old new sound r = r.replied.2
line_sound (Some text) frame old new sound r = asked_sound (live_line text) text frame old new sound r

-- ---- pushes

answered_book : (f : Option (List FilterStep)) (series : Series) (spec : ViewSpec) (number : ℕ) (frame : Frame) (old new : State)
    → AnswersBy f series spec number frame old new → new.book ≡ old.book
answered_book None series spec number frame old new (inl many) = ap (λ (s : State). s.book) many.refuses.state
answered_book None series spec number frame old new (inr a) = ap (λ (s : State). s.book) a.state
answered_book (Some steps) series spec number frame old new a = ap (λ (s : State). s.book) a.state

last_book : (o : Option ViewSpec) (number : ℕ) (window : ViewSpec → ℤ × ℤ) (frame : Frame) (old new : State)
    → MovesLast o number window frame old new → new.book ≡ old.book
last_book None number window frame old new moves = ap (λ (s : State). s.book) moves.state
last_book (Some last) number window frame old new moves = elim moves.reply [
  | inl bad ↦ ap (λ (s : State). s.book) bad.1.state
  | inr good ↦
      let v = good.1 in
      answered_book last.filter moves.series (record { series = last.series; grid = v.grid; range = last.range; filter = last.filter })
      number frame old new v.view
]

moved_book : (o : Option Session) (number : ℕ) (window : ViewSpec → ℤ × ℤ) (frame : Frame) (old new : State)
    → MovesIn o number window frame old new → new.book ≡ old.book
moved_book None number window frame old new moves = ap (λ (s : State). s.book) moves.state
moved_book (Some s) number window frame old new moves = last_book s.last number window frame old new moves

-- a push leaves the book
pub push_book : (frame : Frame) (old new : LiveState) → Pushed frame old new → new.state.book ≡ old.state.book
push_book frame old new p = moved_book (session_of p.session old.state.sessions) p.session _ frame old.state new.state p.replied.0
