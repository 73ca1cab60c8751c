-- What holds of each frame of live views, and that following goes on behind a line that is answered.
use Rattle.std.proofs.Common.{◌≡◌, ℕ, ◌≤◌, Bool, true, false, if◌then◌else◌, List, [], ◌∷◌, length, map, Option, None, Some, refl, sym, ap}
use Rattle.std.proofs.Common.{subst, arith}
use Rattle.std.specs.Prelude.{⊤, All, nat_lt, ◌-◌, ◌==◌, take, slice_index}
use Rattle.std.specs.List.{filter}
use Rattle.std.proofs.lemmas.Bool.Decides.{nat_tests}
use Rattle.std.proofs.lemmas.List.{length-take-le}
use Rattle.chart_client.specs.declared.holding.Holding.{Holding}
use Rattle.chart_frames.specs.declared.frame.Frame.{Frame}
use Rattle.chart_service.specs.Replies.{line_text}
use Rattle.chart_service.specs.Serving.{told}
use Rattle.chart_service.specs.State.{State, IsSound}
use Rattle.chart_world.specs.Fronts.{says}
use Rattle.chart_world.specs.Lines.{split_lines, text_of, without_return, lines}
use Rattle.drawn_replies.specs.Mirrors.{Mirrors, mirrored, DrawsTheBook, OnlyLacksMemory}
use Rattle.live_service.specs.Following.{FollowsWell, ShowsView}
use Rattle.live_view.specs.Following.{CanFollow}
use Rattle.live_service.specs.LiveReplies.{LiveState, LiveReplied, Pushed}
use Rattle.live_service.specs.Showing.{IsFirst}
use Rattle.zoom_session.specs.declared.session.Session.{Session}

-- ---- what holds of each single frame

pub record Laws : Type 0 where
  pub line_draws : (line : Option (List ℕ)) (frame : Frame) (old new : LiveState) (holdings : List Holding) → IsSound old.state
      → LiveReplied line frame old new → Mirrors old.state.sessions holdings → DrawsTheBook frame old.state new.state holdings
  pub line_accepts : (line : Option (List ℕ)) (frame : Frame) (old new : LiveState) (holdings : List Holding) → IsSound old.state
      → LiveReplied line frame old new → Mirrors old.state.sessions holdings → OnlyLacksMemory frame holdings
  pub line_sound : (line : Option (List ℕ)) (frame : Frame) (old new : LiveState) → IsSound old.state → LiveReplied line frame old new
      → IsSound new.state
  pub push_draws : (frame : Frame) (old new : LiveState) (holdings : List Holding) → IsSound old.state → Pushed frame old new
      → Mirrors old.state.sessions holdings → DrawsTheBook frame old.state new.state holdings
  pub push_accepts : (frame : Frame) (old new : LiveState) (holdings : List Holding) → IsSound old.state → Pushed frame old new
      → Mirrors old.state.sessions holdings → OnlyLacksMemory frame holdings
  pub push_book : (frame : Frame) (old new : LiveState) → Pushed frame old new → new.state.book ≡ old.state.book

pub record Following : Type 0 where
  pub line_well : (line : List ℕ) (frame : Frame) (old new : LiveState) → FollowsWell old → LiveReplied (line_text line) frame old new
      → FollowsWell new
  pub push_well : (frame : Frame) (old new : LiveState) → FollowsWell old → Pushed frame old new → FollowsWell new
  pub push_shows : (frame : Frame) (old new : LiveState) → FollowsWell old → Pushed frame old new → ShowsView frame

-- ---- lines of an input

-- a line has at most 8,192 bytes, or isn't told
abbrev pub IsShort : Option (List ℕ) → Type 0
IsShort None = ⊤
IsShort (Some text) = length text ≤ 8192

abbrev pub AreShort : List (Option (List ℕ)) → Type 0
AreShort [] = ⊤
AreShort (line ∷ later) = IsShort line × AreShort later

not_more : (line : List ℕ) → nat_lt 8192 (length line) ≡ false → length line ≤ 8192
not_more line few = grind (arith, nat_tests, few)

taken_less : (line : List ℕ) (test : Bool) → length line ≤ 8192 → length (if test then take (length line - 1) line else line) ≤ 8192
taken_less line true few =
    let less : length line - 1 ≤ length line = omega arith in
    let taken : length (take (length line - 1) line) ≡ length line - 1 = length-take-le (length line - 1) line less in
    omega (arith, few, taken)
taken_less line false few = few

short_by : (line : List ℕ) (test : Bool) → nat_lt 8192 (length line) ≡ test → IsShort (if test then None else Some (without_return line))
short_by line true test = tt
short_by line false test = taken_less line (slice_index line (length line - 1) == 13) (not_more line test)

short_told : (parts : List (List ℕ)) → AreShort (filter says (map text_of parts))
short_told [] = tt
short_told (part ∷ parts) =
    let first : IsShort (text_of part) = short_by part (nat_lt 8192 (length part)) refl in
    let later = short_told parts in
    elim (says (text_of part)) as (λ b. AreShort (if b then text_of part ∷ filter says (map text_of parts)
    else filter says (map text_of parts))) [
      | true ↦ (first, later)
      | false ↦ later
    ]

pub are_short : (input : List ℕ) → AreShort (told input)
unfolding lines
are_short input = short_told (split_lines input)

-- ---- following goes on

no_number : (ss : List Session) → All (CanFollow ss) []
no_number ss = λ k d below. absurd (omega (arith, below))

-- a line that is too long changes nothing
long_well : (frame : Frame) (old new : LiveState) → FollowsWell old → LiveReplied None frame old new → FollowsWell new
long_well frame old new well r =
    let S : State → Type 0 = λ s. All (CanFollow s.sessions) new.followed in
    let N : List ℕ → Type 0 = λ l. All (CanFollow old.state.sessions) l in
    let E : List ℕ → Type 0 = λ l. All (CanFollow new.state.sessions) l in
    record {
      followed = subst S (sym r.replied.0.state) (subst N (sym r.followed_same) well.followed);
      pending = subst E (sym r.idle) (no_number new.state.sessions);
    }

text_is : (text : List ℕ) (test : Bool) → nat_lt 8192 (length text) ≡ test → length text ≤ 8192
    → (if test then None else Some text) ≡ Some text
text_is text true test few = absurd (grind (arith, nat_tests, test, few))
text_is text false test few = refl

pub answered_well : Following → (line : Option (List ℕ)) (frame : Frame) (old new : LiveState) → IsShort line → FollowsWell old
    → LiveReplied line frame old new → FollowsWell new
answered_well f None frame old new short well r = long_well frame old new well r
answered_well f (Some text) frame old new short well r =
    let L : Option (List ℕ) → Type 0 = λ o. LiveReplied o frame old new in
    f.line_well text frame old new well (subst L (sym (text_is text (nat_lt 8192 (length text)) refl short)) r)

pub first_well : (live : LiveState) → IsFirst live → FollowsWell live
first_well live first =
    let N : List ℕ → Type 0 = λ l. All (CanFollow live.state.sessions) l in
    record {
      followed = subst N (sym first.followed) (no_number live.state.sessions);
      pending = subst N (sym first.pending) (no_number live.state.sessions);
    }

pub first_mirrors : (live : LiveState) → IsFirst live → Mirrors live.state.sessions []
first_mirrors live first = ap (λ ss. map mirrored ss) (sym first.sessions)
