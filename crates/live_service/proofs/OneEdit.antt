-- One edit that is done as a group is the line that spells it, and groups have one answer and keep what can follow.
use Rattle.std.proofs.Common.{◌≡◌, ◌∙◌, ◌≤◌, ℕ, Bool, false, List, [], ◌∷◌, length, Option, None, Some, Result, Ok, Err, if◌then◌else◌}
use Rattle.std.proofs.Common.{refl, ap, sym, subst, arith}
use Rattle.std.specs.Prelude.{All, nat_lt, ◌↔◌}
use Rattle.std.proofs.lemmas.Bool.Decides.{nat_tests}
use Rattle.chart_frames.specs.declared.frame.Frame.{Frame}
use Rattle.chart_service.specs.EditGroups.{RepliesToEdits, SpellsEdit}
use Rattle.chart_service.specs.Replies.{Edits, RepliesTo}
use Rattle.chart_service.specs.State.{State}
use Rattle.chart_service.specs.Stepping.{RepliedTo}
use Rattle.live_service.specs.Following.{FollowsWell}
use Rattle.live_view.specs.Following.{CanFollow}
use Rattle.live_service.specs.LiveReplies.{GroupReplied, LiveReplied, LiveState, PassesOn, RepliesTo as LiveTo, changed_by, changed_in}
use Rattle.live_service.proofs.OneAnswer.{OneRequest, same_live}
use Rattle.live_view.proofs.GroupLemmas.{group-all, group-of-one}
use Rattle.live_view.proofs.SpellingLemmas.{request-asks-nothing}
use Rattle.live_view.specs.Groups.{followers_of}
use Rattle.live_view.specs.Meaning.{meaning_in, meaning_of, name_of}
use Rattle.live_view.specs.Replies.{ended, followers, still_followed}
use Rattle.live_view.specs.declared.live_lines.LiveLine.{LiveLine}
use Rattle.live_view.specs.declared.meaning.Meaning.{Meaning}
use Rattle.live_view.specs.declared.meaning.Meaning.TheVariants.{Edit as EditOf, Other}
use Rattle.request_lines.specs.Requests.{read_line}
use Rattle.request_lines.specs.declared.requests.Request.{Request}
use Rattle.request_lines.specs.declared.requests.Request.TheVariants.{Edit as EditRequest}
use Rattle.series_book.specs.Edits.{Edited, apply}
use Rattle.series_book.specs.declared.edits.Edit.{Edit}
use Rattle.series_book.specs.declared.refusals.Refusal.{Refusal}
use Rattle.zoom_session.specs.declared.session.Session.{Session}

-- ---- one edit

spelled_read : (line : List ℕ) (edit : Edit) → SpellsEdit (Some line) edit → read_line line ≡ Ok (EditRequest edit)
spelled_read [] edit spells = absurd spells
spelled_read (byte ∷ bytes) edit spells = spells

means_edit : (line : List ℕ) (edit : Edit) → length line ≤ 8192 → read_line line ≡ Ok (EditRequest edit)
    → meaning_of line ≡ EditOf (name_of edit)
unfolding meaning_of
means_edit line edit short read =
    let test : nat_lt 8192 (length line) ≡ false = grind (arith, nat_tests) in
    ap (λ (b : Bool). if b then Other else meaning_in (read_line line)) test ∙ ap meaning_in read

-- an edit's frame ends no following
ends_none : (name : List ℕ) (given : Result Edited Refusal) (frame : Frame) (old new : State) → Edits given frame old new
    → ended (EditOf name) frame ≡ None
ends_none name (Ok edited) frame old new replied = ap (ended (EditOf name)) replied.0
ends_none name (Err refusal) frame old new replied = ap (ended (EditOf name)) replied.reply

module _ (line : List ℕ) (edit : Edit) (frame : Frame) (old new : LiveState) (short : length line ≤ 8192)
    (read : read_line line ≡ Ok (EditRequest edit)) where
  ends_followed : Edits (apply old.state.book old.state.total edit) frame old.state new.state
      → still_followed (ended (meaning_of line) frame) old.followed ≡ old.followed
  ends_followed replied =
      ap (λ (m : Meaning). still_followed (ended m frame) old.followed) (means_edit line edit short read)
      ∙ ap (λ (e : Option ℕ). still_followed e old.followed)
      (ends_none (name_of edit) (apply old.state.book old.state.total edit) frame old.state new.state replied)

  same_pushed : followers_of (changed_by new.state.book (edit ∷ []) (frame ∷ [])) new.state.sessions old.followed ≡ followers
      (changed_in new.state.book (meaning_of line) frame) new.state.sessions old.followed
  same_pushed =
      group-of-one (changed_in new.state.book (EditOf (name_of edit)) frame) new.state.sessions old.followed
      ∙ sym (ap (λ (m : Meaning). followers (changed_in new.state.book m frame) new.state.sessions old.followed)
      (means_edit line edit short read))

  group_line : GroupReplied (edit ∷ []) (frame ∷ []) old new → LiveReplied (Some line) frame old new
  group_line g =
      let R : State → Type 0 = λ s. RepliedTo (EditRequest edit) frame old.state s in
      let one = subst R (sym g.replied.2) g.replied.1 in
      let Q : Result Request ℕ → Type 0 = λ r. RepliesTo r frame old.state new.state in
      let A : LiveLine → Type 0 = λ a. LiveTo a line frame old new in
      let passes : PassesOn line frame old new = record {
        replied = (subst Q (sym read) one.0, one.1, one.2);
        followed_now = g.followed_same ∙ sym (ends_followed one.0);
        pending_now = g.pending_now ∙ same_pushed;
      } in
      subst A (sym (request-asks-nothing line (EditRequest edit) read)) passes

  line_group : LiveReplied (Some line) frame old new → GroupReplied (edit ∷ []) (frame ∷ []) old new
  line_group replied =
      let A : LiveLine → Type 0 = λ a. LiveTo a line frame old new in
      let Q : Result Request ℕ → Type 0 = λ r. RepliesTo r frame old.state new.state in
      let passes : PassesOn line frame old new = subst A (request-asks-nothing line (EditRequest edit) read) replied in
      let one = subst Q read passes.replied.0 in
      record {
        replied = (new.state, (one, passes.replied.1, passes.replied.2), refl);
        followed_same = passes.followed_now ∙ ends_followed one;
        pending_now = passes.pending_now ∙ sym same_pushed;
      }

pub one_edit : (line : List ℕ) (edit : Edit) (frame : Frame) (old new : LiveState) → SpellsEdit (Some line) edit → length line ≤ 8192
    → GroupReplied (edit ∷ []) (frame ∷ []) old new ↔ LiveReplied (Some line) frame old new
one_edit line edit frame old new spells short =
    let read = spelled_read line edit spells in
    (group_line line edit frame old new short read, line_group line edit frame old new short read)

-- ---- one answer

edits_one : OneRequest → (edits : List Edit) (frames others : List Frame) (old new behind : State) → RepliesToEdits edits frames old new
    → RepliesToEdits edits others old behind → (frames ≡ others) × (new ≡ behind)
edits_one law [] [] [] old new behind a b = (refl, a ∙ sym b)
edits_one law [] [] (g ∷ gs) old new behind a b = absurd b
edits_one law [] (f ∷ fs) others old new behind a b = absurd a
edits_one law (edit ∷ later) [] others old new behind a b = absurd a
edits_one law (edit ∷ later) (f ∷ fs) [] old new behind a b = absurd b
edits_one law (edit ∷ later) (f ∷ fs) (g ∷ gs) old new behind a b =
    let one = law (EditRequest edit) f g old a.0 b.0 a.1.0 b.1.0 in
    let P : State → Type 0 = λ s. RepliesToEdits later gs s behind in
    let rest = edits_one law later fs gs a.0 new behind a.2 (subst P (sym one.1) b.2) in
    ((λ i. one.0 i ∷ rest.0 i), rest.1)

pub group_one : OneRequest → (edits : List Edit) (frames others : List Frame) (old new behind : LiveState)
    → GroupReplied edits frames old new → GroupReplied edits others old behind → (frames ≡ others) × (new ≡ behind)
group_one law edits frames others old new behind a b =
    let both = edits_one law edits frames others old.state new.state behind.state a.replied b.replied in (
      both.0,
      same_live new behind both.1 (a.followed_same ∙ sym b.followed_same)
          (a.pending_now
          ∙ ap (λ (f : List Frame). followers_of (changed_by new.state.book edits f) new.state.sessions old.followed) both.0
          ∙ ap (λ (s : State). followers_of (changed_by s.book edits others) s.sessions old.followed) both.1
          ∙ sym b.pending_now),
    )

-- ---- the sessions stay

edit_stays : (given : Result Edited Refusal) (frame : Frame) (old new : State) → Edits given frame old new → new.sessions ≡ old.sessions
edit_stays (Ok edited) frame old new replied = ap (λ (s : State). s.sessions) replied.1
edit_stays (Err refusal) frame old new replied = ap (λ (s : State). s.sessions) replied.state

pub edits_stay : (edits : List Edit) (frames : List Frame) (old new : State) → RepliesToEdits edits frames old new
    → new.sessions ≡ old.sessions
edits_stay [] [] old new same = ap (λ (s : State). s.sessions) same
edits_stay [] (frame ∷ frames) old new none = absurd none
edits_stay (edit ∷ later) [] old new none = absurd none
edits_stay (edit ∷ later) (frame ∷ frames) old new replied =
    edits_stay later frames replied.0 new replied.2 ∙ edit_stays (apply old.book old.total edit) frame old replied.0 replied.1.0

-- followed sessions can follow behind a group
pub group_well : (edits : List Edit) (frames : List Frame) (old new : LiveState) → FollowsWell old → GroupReplied edits frames old new
    → FollowsWell new
group_well edits frames old new well g =
    let S : List Session → Type 0 = λ ss. All (CanFollow ss) old.followed in
    let F : List ℕ → Type 0 = λ l. All (CanFollow new.state.sessions) l in
    let all : All (CanFollow new.state.sessions) old.followed = subst S
    (sym (edits_stay edits frames old.state new.state g.replied)) well.followed in
    record {
      followed = subst F (sym g.followed_same) all;
      pending = subst F (sym g.pending_now) (group-all (CanFollow new.state.sessions)
          (changed_by new.state.book edits frames) new.state.sessions old.followed all);
    }
