-- A live service has one answer to a line, and one next push.
use Rattle.std.proofs.Common.{◌≡◌, ◌∙◌, ℕ, List, ◌∷◌, Option, None, Some, ap, subst, sym}
use Rattle.chart_frames.specs.declared.frame.Frame.{Frame}
use Rattle.chart_service.specs.Replies.{Replies, RepliesToLine, own_zoom}
use Rattle.chart_service.specs.State.{State}
use Rattle.live_service.specs.LiveReplies.{AnswersItself, LiveReplied, LiveState, PassesOn, Pushed, RepliesTo, changed_in}
use Rattle.live_view.specs.declared.live_lines.LiveLine.{LiveLine}
use Rattle.live_view.specs.declared.live_lines.LiveLine.TheVariants.{Follow, Unfollow, Bad, Other}
use Rattle.live_view.specs.Lines.{live_line}
use Rattle.live_view.specs.Meaning.{meaning_of}
use Rattle.live_view.specs.Replies.{ended, followers, still_followed}
use Rattle.request_lines.specs.declared.requests.Request.{Request}
use Rattle.zoom_session.specs.declared.view_spec.ViewSpec.{ViewSpec}
use Rattle.zoom_session.specs.Sessions.{last_of, session_of}

-- what a service answers to a line, and to a request, is one
abbrev pub OneLine : Type 0
OneLine = (line : Option (List ℕ)) (frame other : Frame) (old new behind : State) → RepliesToLine line frame old new
    → RepliesToLine line other old behind → (frame ≡ other) × (new ≡ behind)

abbrev pub OneRequest : Type 0
OneRequest = (request : Request) (frame other : Frame) (old new behind : State) → Replies request frame old new
    → Replies request other old behind → (frame ≡ other) × (new ≡ behind)

pub same_live : (one other : LiveState) → one.state ≡ other.state → one.followed ≡ other.followed → one.pending ≡ other.pending
    → one ≡ other
same_live one other state followed pending = λ i. record { state = state i; followed = followed i; pending = pending i }

module _ (frame other : Frame) (old new behind : LiveState) where
  abbrev Same : Type 0
  Same = (frame ≡ other) × (new ≡ behind)

  itself : (reply : Frame) → AnswersItself reply frame old new → AnswersItself reply other old behind → Same
  itself reply a b = (
    a.is ∙ sym b.is,
    same_live new behind (a.state ∙ sym b.state) (a.followed_now ∙ sym b.followed_now) (a.idle
        ∙ sym b.idle),
  )

  passes : OneLine → (text : List ℕ) → PassesOn text frame old new → PassesOn text other old behind → Same
  passes law text a b =
      let both = law (Some text) frame other old.state new.state behind.state a.replied.0 b.replied.0 in (
        both.0,
        same_live new behind both.1
            (a.followed_now ∙ ap (λ (f : Frame). still_followed (ended (meaning_of text) f) old.followed) both.0 ∙ sym b.followed_now)
            (a.pending_now
            ∙ ap (λ (f : Frame). followers (changed_in new.state.book (meaning_of text) f) new.state.sessions old.followed) both.0
            ∙ ap (λ (s : State). followers (changed_in s.book (meaning_of text) other) s.sessions old.followed) both.1
            ∙ sym b.pending_now),
      )

  text_one : OneLine → (line : LiveLine) (text : List ℕ) → RepliesTo line text frame old new → RepliesTo line text other old behind → Same
  text_one law (Follow n) text a b = itself _ a b
  text_one law (Unfollow n) text a b = itself _ a b
  text_one law (Bad at) text a b = itself _ a b
  text_one law Other text a b = passes law text a b

  pub line_one : OneLine → (line : Option (List ℕ)) → LiveReplied line frame old new → LiveReplied line other old behind → Same
  line_one law None a b =
      let both = law None frame other old.state new.state behind.state a.replied.0 b.replied.0 in
      (both.0, same_live new behind both.1 (a.followed_same ∙ sym b.followed_same) (a.idle ∙ sym b.idle))
  line_one law (Some text) a b = text_one law (live_line text) text a b

  pub push_one : OneRequest → Pushed frame old new → Pushed other old behind → Same
  push_one law a b =
      let lists : a.session ∷ new.pending ≡ b.session ∷ behind.pending = sym a.first ∙ b.first in
      let session : a.session ≡ b.session = cc (lists) in
      let pending : new.pending ≡ behind.pending = cc (lists) in
      let lasts : Some a.last ≡ Some b.last = sym a.viewed ∙ ap (λ n. last_of (session_of n old.state.sessions)) session ∙ b.viewed in
      let last : a.last ≡ b.last = cc (lasts) in
      let P : ℕ → Type 0 = λ n. Replies (own_zoom n b.last) other old.state behind.state in
      let Q : ViewSpec → Type 0 = λ v. Replies (own_zoom a.session v) other old.state behind.state in
      let both = law (own_zoom a.session a.last) frame other old.state new.state behind.state a.replied.0
      (subst Q (sym last) (subst P (sym session) b.replied.0)) in
      (both.0, same_live new behind both.1 (a.followed_same ∙ sym b.followed_same) pending)
