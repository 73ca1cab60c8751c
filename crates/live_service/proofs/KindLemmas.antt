-- The frames of a live service are those that may answer its lines, and that it may push.
use Rattle.std.proofs.Common.{◌≡◌, ℕ, Bool, true, false, if◌then◌else◌, List, IsTrue, length, Option, None, Some, refl, sym, ap, subst}
use Rattle.std.specs.Prelude.{nat_lt}
use Rattle.chart_frames.specs.declared.frame.Frame.{Frame}
use Rattle.chart_frames.specs.declared.frame.Frame.TheVariants.{Refused, View, Rows, Live}
use Rattle.chart_frames.specs.Opened.{opens}
use Rattle.chart_service.specs.Kinds.{MayAnswerLine, MayShow}
use Rattle.chart_service.specs.Opening.{NamesOpen, OpensBy}
use Rattle.chart_service.specs.Replies.{RepliesToLine, line_text}
use Rattle.chart_service.specs.State.{State}
use Rattle.live_service.specs.Following.{ShowsView}
use Rattle.live_service.specs.Kinds.{MayAnswerAsked, MayAnswerLive, MayFollow, MayPush}
use Rattle.live_service.specs.LiveReplies.{LiveReplied, LiveState, RepliesTo}
use Rattle.live_service.proofs.Replying.{short_by}
use Rattle.live_view.specs.Lines.{live_line}
use Rattle.live_view.specs.Replies.{refused, follow_reply, follow_view, unfollow_reply, is_too_large, live_bound, too_large}
use Rattle.live_view.specs.declared.live_lines.LiveLine.{LiveLine}
use Rattle.live_view.specs.declared.live_lines.LiveLine.TheVariants.{Follow, Unfollow, Bad, Other}
use Rattle.live_view.proofs.OpenLemmas.{live-open}
use Rattle.series_book.specs.declared.refusals.Refusal.{Refusal}
use Rattle.zoom_session.specs.declared.session.Session.{Session}
use Rattle.zoom_session.specs.declared.view_spec.ViewSpec.{ViewSpec}
use Rattle.zoom_session.specs.Sessions.{is_open, session_of}

-- ---- lines

-- one that asks something of live views isn't too long
pub may_own : (line : List ℕ) (asked : LiveLine) (frame : Frame) → live_line line ≡ asked → (Other ≡ asked → ⊥)
    → MayAnswerAsked asked line frame
    → MayAnswerLive (line_text line) frame
may_own line asked frame is other may =
    let L : Option (List ℕ) → Type 0 = λ o. MayAnswerLive o frame in
    let A : LiveLine → Type 0 = λ a. MayAnswerAsked a line frame in
    subst L (sym (short_by line asked is other)) (subst A (sym is) may)

other_by : (line : List ℕ) (frame : Frame) (test : Bool) → nat_lt 8192 (length line) ≡ test → live_line line ≡ Other
    → MayAnswerLine (line_text line) frame
    → MayAnswerLive (line_text line) frame
other_by line frame true test asked may =
    let text : line_text line ≡ None = ap (λ (b : Bool). if b then None else Some line) test in
    let L : Option (List ℕ) → Type 0 = λ o. MayAnswerLive o frame in
    let M : Option (List ℕ) → Type 0 = λ o. MayAnswerLine o frame in
    subst L (sym text) (subst M text may)
other_by line frame false test asked may =
    let text : line_text line ≡ Some line = ap (λ (b : Bool). if b then None else Some line) test in
    let L : Option (List ℕ) → Type 0 = λ o. MayAnswerLive o frame in
    let M : Option (List ℕ) → Type 0 = λ o. MayAnswerLine o frame in
    let A : LiveLine → Type 0 = λ a. MayAnswerAsked a line frame in
    subst L (sym text) (subst A (sym asked) (subst M text may))

pub may_other : (line : List ℕ) (frame : Frame) → live_line line ≡ Other → MayAnswerLine (line_text line) frame
    → MayAnswerLive (line_text line) frame
may_other line frame asked may = other_by line frame (nat_lt 8192 (length line)) refl asked may

-- ---- what a live service answers itself

view_follows : (n cache : ℕ) (last : Option ViewSpec) → MayFollow n true (follow_view n cache last)
view_follows n cache None = tt
view_follows n cache (Some view) =
    elim (is_too_large view cache) as (λ (b : Bool). MayFollow n true (if b then too_large (live_bound view.grid.w) cache else Live n true)) [
      | true ↦ tt
      | false ↦ (refl, refl)
    ]

pub may_follow : (n : ℕ) (session : Option Session) → MayFollow n true (follow_reply n session)
may_follow n None = tt
may_follow n (Some session) = view_follows n session.cache.capacity session.last

pub may_unfollow : (n : ℕ) (there : Bool) → MayFollow n false (unfollow_reply n there)
may_unfollow n false = tt
may_unfollow n true = (refl, refl)

-- it opens and closes no session
follow_opens : (n : ℕ) (on : Bool) (frame : Frame) → MayFollow n on frame → (m : ℕ) (was : Bool) → was ≡ opens frame m was
follow_opens n on (Refused number a b) may m was = refl
follow_opens n on (Live session now) may m was = refl
follow_opens n on frame may m was = absurd may

follow_names : (n : ℕ) (on : Bool) (frame : Frame) (sessions : List Session) → MayFollow n on frame
    → (frame ≡ Live n on → IsTrue (is_open n sessions)) → NamesOpen frame sessions
follow_names n on (Refused number a b) sessions may there = tt
follow_names n on (Live session now) sessions may there =
    let P : ℕ → Type 0 = λ s. IsTrue (is_open s sessions) in
    subst P (sym may.0) (there (λ i. Live (may.0 i) (may.1 i)))
follow_names n on frame sessions may there = absurd may

pub follow_stays : (n : ℕ) (sessions : List Session) → OpensBy (follow_reply n (session_of n sessions)) sessions sessions
follow_stays n sessions =
    let reply = follow_reply n (session_of n sessions) in
    let may = may_follow n (session_of n sessions) in
    record {
      named = follow_names n true reply sessions may (λ is. live-open n n true reply sessions refl is);
      after = λ m. follow_opens n true reply may m (is_open m sessions);
    }

unfollowed_open : (n : ℕ) (there : Bool) → unfollow_reply n there ≡ Live n false → there ≡ true
unfollowed_open n false is = cc
unfollowed_open n true is = refl

pub unfollow_stays : (n : ℕ) (sessions : List Session) → OpensBy (unfollow_reply n (is_open n sessions)) sessions sessions
unfollow_stays n sessions =
    let reply = unfollow_reply n (is_open n sessions) in
    let may = may_unfollow n (is_open n sessions) in
    record {
      named = follow_names n false reply sessions may (λ is. unfollowed_open n (is_open n sessions) is);
      after = λ m. follow_opens n false reply may m (is_open m sessions);
    }

pub refused_stays : (refusal : Refusal) (sessions : List Session) → OpensBy (refused refusal) sessions sessions
refused_stays refusal sessions = record { named = tt; after = λ m. refl }

-- ---- pushes

pub may_push : (session : ℕ) (frame : Frame) → MayShow session frame → MayPush frame
may_push session (Refused number a b) may = tt
may_push session (View view) may = tt
may_push session (Rows rows) may = tt
may_push session frame may = absurd may

pub shows_push : (frame : Frame) → ShowsView frame → MayPush frame
shows_push (View view) shows = tt
shows_push (Rows rows) shows = tt
shows_push frame shows = absurd shows

-- ---- over a plain book

module _ (own : (line : Option (List ℕ)) (frame : Frame) (old new : State) → RepliesToLine line frame old new
    → MayAnswerLine line frame) where
  asked_may : (asked : LiveLine) (text : List ℕ) (frame : Frame) (old new : LiveState) → RepliesTo asked text frame old new
      → MayAnswerAsked asked text frame
  asked_may (Follow n) text frame old new r =
      let M : Frame → Type 0 = λ f. MayFollow n true f in subst M (sym r.is) (may_follow n (session_of n old.state.sessions))
  asked_may (Unfollow n) text frame old new r =
      let M : Frame → Type 0 = λ f. MayFollow n false f in subst M (sym r.is) (may_unfollow n (is_open n old.state.sessions))
  asked_may (Bad at) text frame old new r = r.is
  asked_may Other text frame old new r = own (Some text) frame old.state new.state r.replied.0

  pub live_may : (line : Option (List ℕ)) (frame : Frame) (old new : LiveState) → LiveReplied line frame old new → MayAnswerLive line frame
  live_may None frame old new r = own None frame old.state new.state r.replied.0
  live_may (Some text) frame old new r = asked_may (live_line text) text frame old new r
