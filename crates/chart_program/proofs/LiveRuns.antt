-- The book behind the lines of `live`.
use Rattle.std.specs.Prelude.{codes, if◌then◌else◌, nat_lt}
use Rattle.std.specs.Str.{bytes_eq}
use Rattle.std.proofs.Common.{◌≡◌, ℕ, ◌+◌, true, false, List, [], ◌∷◌, length, None, Some, Ok, refl, ap, sym, subst, ◌∙◌}
use Rattle.std.proofs.lemmas.Slice.Eq.{bytes_eq-Decides}
use Rattle.chart_frames.specs.declared.frame.Frame.{Frame}
use Rattle.chart_service.specs.Replies.{own_zoom}
use Rattle.hosted_lines.specs.Lives.{Event, answer, push, lines_in, Lives, LivesBy}
use Rattle.live_service.specs.LiveReplies.{LiveState, LiveReplied, RepliesTo, Pushed}
use Rattle.live_view.specs.Lines.{session_alone, follows, unfollows, tokens_ask, live_line}
use Rattle.live_view.specs.declared.live_lines.LiveLine.{LiveLine}
use Rattle.live_view.specs.declared.live_lines.LiveLine.TheVariants.{Follow, Unfollow, Bad, Other}
use Rattle.request_lines.specs.Grammar.{kind_of, tokens_fault, fault_of}
use Rattle.request_lines.specs.Requests.{named, read_by, read_line}
use Rattle.request_lines.specs.Tokens.{tokens}
use Rattle.served_fronts.specs.Books.{Line, ok_of, said_by, after_request, after_line, after_lines}
use Rattle.served_fronts.proofs.Books.{by_line, by_request}

-- ---- a line that asks for a following says no request

-- the words say no request
abbrev pub SaysNone : List (List ℕ) → Type 0
SaysNone words = (end : ℕ) → ok_of (read_by (tokens_fault end words) (named words)) ≡ None

follow_none : (others : List (List ℕ)) → SaysNone (codes "follow" ∷ others)
unfolding kind_of
follow_none others end = refl

unfollow_none : (others : List (List ℕ)) → SaysNone (codes "unfollow" ∷ others)
unfolding kind_of
unfollow_none others end = refl

words_ask : (end : ℕ) (words : List (List ℕ)) → (tokens_ask end words ≡ Other → ⊥) → SaysNone words
words_ask end [] asks = absurd (asks refl)
words_ask end (word ∷ others) asks =
    let none = session_alone end others (length word + 1) in
    let P : List ℕ → Type 0 = λ w. SaysNone (w ∷ others) in
    (elim (bytes_eq word (codes "follow")) as (λ b. bytes_eq word (codes "follow") ≡ b
    → ((if b then follows none else if bytes_eq word (codes "unfollow") then unfollows none else Other) ≡ Other → ⊥)
    → SaysNone (word ∷ others)) [
      | true ↦ λ is h. subst P (sym ((bytes_eq-Decides word (codes "follow")).0 is)) (follow_none others)
      | false ↦ λ other h. (elim (bytes_eq word (codes "unfollow")) as (λ b. bytes_eq word (codes "unfollow") ≡ b
          → ((if b then unfollows none else Other) ≡ Other → ⊥) → SaysNone (word ∷ others)) [
            | true ↦ λ is g. subst P (sym ((bytes_eq-Decides word (codes "unfollow")).0 is)) (unfollow_none others)
            | false ↦ λ other g. absurd (g refl)
          ]) refl h
    ]) refl asks

asks_none : (text : List ℕ) → (live_line text ≡ Other → ⊥) → said_by (Some text) ≡ None
unfolding live_line read_line fault_of
asks_none text asks =
    (elim (nat_lt 8192 (length text)) as (λ b. ((if b then Other else tokens_ask (length text) (tokens text)) ≡ Other → ⊥)
    → said_by (Some text) ≡ None) [
      | true ↦ λ h. absurd (h refl)
      | false ↦ λ h. words_ask (length text) (tokens text) h (length text)
    ]) asks

-- ---- the book behind a reply

-- the state's book is that after the line, and its total stays
abbrev pub Keeps : Line → LiveState → LiveState → Type 0
Keeps line old new =
    (new.state.book ≡ after_line old.state.total old.state.book line) × (new.state.total ≡ old.state.total)

stays : (text : List ℕ) (old new : LiveState) → new.state ≡ old.state → said_by (Some text) ≡ None → Keeps (Some text) old new
stays text old new same none = (
  ap (λ s. s.book) same ∙ sym (ap (after_request old.state.total old.state.book) none),
  ap (λ s. s.total) same,
)

not_other : (text : List ℕ) (ask : LiveLine) → live_line text ≡ ask → (ask ≡ Other → ⊥) → live_line text ≡ Other → ⊥
not_other text ask is never other = never (sym is ∙ other)

by_ask : (ask : LiveLine) (text : List ℕ) (frame : Frame) (old new : LiveState) → live_line text ≡ ask → RepliesTo ask text frame old new
    → Keeps (Some text) old new
by_ask (Follow n) text frame old new is r =
    stays text old new r.state (asks_none text (not_other text (Follow n) is (λ never. cc)))
by_ask (Unfollow n) text frame old new is r =
    stays text old new r.state (asks_none text (not_other text (Unfollow n) is (λ never. cc)))
by_ask (Bad at) text frame old new is r = stays text old new r.state (asks_none text (not_other text (Bad at) is (λ never. cc)))
by_ask Other text frame old new is r = by_line old.state new.state frame (Some text) r.replied.0

pub by_live : (line : Line) (frame : Frame) (old new : LiveState) → LiveReplied line frame old new → Keeps line old new
by_live None frame old new r = by_line old.state new.state frame None r.replied.0
by_live (Some text) frame old new r = by_ask (live_line text) text frame old new refl r

-- a push changes no book
pub by_push : (frame : Frame) (old new : LiveState) → Pushed frame old new
    → (new.state.book ≡ old.state.book) × (new.state.total ≡ old.state.total)
by_push frame old new p = by_request old.state new.state frame (Ok (own_zoom p.session p.last)) p.replied.0

-- ---- the book behind lines

events_follow : (events : List Event) (frames : List Frame) (old new : LiveState) → Lives old events frames new
    → new.state.book ≡ after_lines old.state.total old.state.book (lines_in events)
events_follow [] [] old new lived = ap (λ s. s.state.book) lived
events_follow [] (f ∷ fs) old new lived = absurd lived
events_follow (answer line ∷ later) [] old new lived = absurd lived
events_follow (push ∷ later) [] old new lived = absurd lived
events_follow (answer line ∷ later) (f ∷ fs) old new lived =
    let here = by_live line f old lived.0 lived.2 in
    events_follow later fs lived.0 new lived.3 ∙ ap (λ t. after_lines t lived.0.state.book (lines_in later)) here.1
    ∙ ap (λ b. after_lines old.state.total b (lines_in later)) here.0
events_follow (push ∷ later) (f ∷ fs) old new lived =
    let here = by_push f old lived.0 lived.1 in
    events_follow later fs lived.0 new lived.2 ∙ ap (λ t. after_lines t lived.0.state.book (lines_in later)) here.1
    ∙ ap (λ b. after_lines old.state.total b (lines_in later)) here.0

pub live_follows : (old new : LiveState) (lines : List Line) (frames : List Frame) → LivesBy lines frames old new
    → new.state.book ≡ after_lines old.state.total old.state.book lines
live_follows old new lines frames lives =
    events_follow lives.events frames old new lives.lived
    ∙ ap (after_lines old.state.total old.state.book) lives.lines_are
