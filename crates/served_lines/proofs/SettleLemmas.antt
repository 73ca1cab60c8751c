-- Edits that are kept back are done, or they aren't all.
use Rattle.std.proofs.Common.{◌≡◌, ◌∙◌, ℕ, ◌+◌, ◌*◌, ◌≤◌, List, [], ◌∷◌, length, Option, None, Some, Result, Ok, Err, IfSome, refl, ap, sym}
use Rattle.std.proofs.Common.{subst, arith}
use Rattle.std.specs.Prelude.{OnOk}
use Rattle.block_disk.specs.View.{Image, View, sent_now}
use Rattle.block_disk.specs.SentLaws.{sent_none}
use Rattle.block_disk.specs.Streams.{sent_after}
use Rattle.series_book.specs.declared.edits.Edit.{Edit}
use Rattle.series_book.specs.EditLists.{after_edits}
use Rattle.series_store.specs.Groups.{weight}
use Rattle.stored_book.specs.Standing.{StandsForBook}
use Rattle.stored_book.proofs.OneBook.{one_book}
use Rattle.zoom_session.specs.declared.session.Session.{Session}
use Rattle.chart_service.specs.EditGroups.{SpellEdits}
use Rattle.chart_service.specs.Making.{Makes, AreMade, LinesDone, LinesStop, LinesMoments}
use Rattle.chart_service.specs.MomentLaws.{through_so}
use Rattle.chart_service.specs.Moments.{Through}
use Rattle.chart_service.specs.Serving.{RepliesToAll}
use Rattle.chart_service.specs.State.{State}
use Rattle.chart_service.specs.Stepping.{StandsAfter, state_of}
use Rattle.chart_service.specs.Syncing.{group_syncs}
use Rattle.chart_service.specs.declared.failure.AnswerEnd.{AnswerEnd}
use Rattle.chart_service.proofs.GatherLemmas.{spelled_length}
use Rattle.chart_service.proofs.SyncLemmas.{spelled_edits}
use Rattle.chart_service.proofs.TurnLemmas.{edits_turn}
use Rattle.served_lines.specs.Standing.{IsHeld}
use Rattle.served_lines.specs.Turning.{AreTold, Held}
use Rattle.served_lines.specs.Shown.{SettlesTo, Unsettled}
use Rattle.served_lines.proofs.TurnLemmas.{answered_none}

-- the state with these sessions, which are its own
pub same_state : (state : State) (sessions : List Session) → state.sessions ≡ sessions → state_of state.book state.total sessions ≡ state
same_state state sessions is = ap (λ s. state_of state.book state.total s) (sym is)

none_spelled : (lines : List (Option (List ℕ))) (edits : List Edit) → length edits ≡ 0 → SpellEdits lines edits → lines ≡ []
none_spelled [] edits none spells = refl
none_spelled (line ∷ later) [] none spells = absurd spells
none_spelled (line ∷ later) (e ∷ es) none spells = absurd (omega (arith, none))

-- what two facts say after Ok
pub both_ok : {T E A B C : Type 0} (r : Result T E) → (A → B → C) → OnOk r A → OnOk r B → OnOk r C
both_ok (Ok done) more a b = more a b
both_ok (Err e) more a b = tt

told_is : {P : Type 0} (sent before : Option (List ℕ)) → AreTold sent → sent ≡ before → IfSome before (λ bytes. P) → P
told_is None before told is holds = absurd told
told_is {P} (Some bytes) before told is holds = let O : Option (List ℕ) → Type 0 = λ o. IfSome o (λ bytes. P) in subst O (sym is) holds

module _ {S F : Type 0} (makes : Makes S F) (held : Held S) (edits : List Edit) (told : Type 0) (old : View) (own : List Session)
    (kept : S) (before : Option (List ℕ)) (is : IsHeld held kept edits told old own before) where
  abbrev here : State
  here = state_of held.state.book held.state.total own

  abbrev here_is : here ≡ held.state
  here_is = same_state held.state own is.sessions_are

  -- there are none
  pub none_settled : length edits ≡ 0 → SettlesTo makes held (λ h. IsHeld h kept edits told old own before) before before
  none_settled none = record {
    text = [];
    new = held;
    settles = record { answered = answered_none makes held; none = none_spelled held.ahead edits none is.spells; few = omega arith };
    stands = is;
    sent = sent_none before;
  }

  module _ (told' : Type 0) (new : View) (sessions : List Session) (kept' : S) (now : Option (List ℕ)) where
    -- they were done and answered
    pub settled : (none : List Edit) → none ≡ []
        → (after : StandsAfter held.state.total new.image sessions (λ s. LinesDone makes held.ahead kept kept' here s before now))
        → StandsForBook new.image held.state.total (after_edits held.state.total held.state.book edits)
        → told' → old.reads ≤ new.reads → new.reads ≤ old.reads + 96 * length edits
        → new.syncs ≤ old.syncs + group_syncs held.state.total held.state.book edits
        → SettlesTo makes held (λ h. IsHeld h kept' none told' new sessions now) before now
    settled none none_is after behind told_now low high few =
        let state = held.state in
        let after_state = state_of after.book state.total sessions in
        let done = after.so in
        let R : State → Type 0 = λ s. RepliesToAll s held.ahead done.frames after_state in
        let replied : RepliesToAll state held.ahead done.frames after_state = subst R here_is done.replied in
        let M : S → Type 0 = λ k. AreMade makes k kept' held.ahead done.frames done.text in
        let N : Option (List ℕ) → Type 0 = λ b. now ≡ sent_after done.text b in
        let spelled = spelled_edits held.ahead edits is.spells in
        record {
          text = done.text;
          new = record { kept = kept'; state = after_state; ahead = []; sent = now; reads = new.reads; syncs = new.syncs };
          settles = record {
            answered = record {
              front = held.ahead;
              split = refl;
              frames = done.frames;
              replied = replied;
              made = subst M (sym is.kept_is) done.made;
              sent = subst N (sym is.sent_is) done.sent;
              reads = edits_turn held.ahead edits state held.reads new.reads is.spells (omega (arith, low, is.reads_are))
                  (omega (arith, high, is.reads_are)) done.frames after_state replied;
              total_is = refl;
              book_is = one_book new.image state.total state.total (after_edits state.total state.book edits) after.book behind after.stands
                  ∙ ap (after_edits state.total state.book) (sym spelled);
            };
            none = refl;
            few = omega (arith, few, is.syncs_are, ap (weight state.total state.book) spelled);
          };
          stands = record {
            told_so = told_now;
            stands = after.stands;
            sessions_are = refl;
            kept_is = refl;
            spells = let P : List Edit → Type 0 = λ e. SpellEdits [] e in subst P (sym none_is) tt;
            sent_is = refl;
            reads_are = refl;
            syncs_are = refl;
          };
          sent = done.sent;
        }

    -- or they weren't all answered
    pub unsettled : (end : AnswerEnd F) → 1 ≤ length edits → LinesStop makes held.ahead kept kept' here new.image sessions before now end
        → new.reads ≤ old.reads + 96 * length edits → new.syncs ≤ old.syncs + group_syncs held.state.total held.state.book edits
        → Unsettled makes held kept' edits new.image sessions now new.reads new.syncs end
    unsettled end some why high few =
        let K : S → Type 0 = λ k. LinesStop makes held.ahead k kept' held.state new.image sessions held.sent now end in
        let R : State → Type 0 = λ s. LinesStop makes held.ahead kept kept' s new.image sessions held.sent now end in
        let N : Option (List ℕ) → Type 0 = λ b. LinesStop makes held.ahead kept kept' here new.image sessions b now end in
        record {
          why = subst K (sym is.kept_is) (subst R here_is (subst N (sym is.sent_is) why));
          some = omega (arith, some, spelled_length held.ahead edits is.spells);
          reads_few = omega (arith, high, is.reads_are);
          few = omega (arith, few, is.syncs_are, ap (weight held.state.total held.state.book) (spelled_edits held.ahead edits is.spells));
        }

    -- what a crash leaves meanwhile
    pub moments_settled : 1 ≤ length edits → AreTold held.sent
        → IfSome before (λ bytes. Through old new (LinesMoments makes kept held.ahead here (sent_now old)))
        → Through old new (λ image count. (1 ≤ length held.ahead) × LinesMoments makes held.kept held.ahead held.state (sent_now old)
        image count)
    moments_settled some is_told through =
        let M : Image → ℕ → Type 0 = LinesMoments makes kept held.ahead here (sent_now old) in
        let N : Image → ℕ → Type 0 = λ image count. (1 ≤ length held.ahead)
        × LinesMoments makes held.kept held.ahead held.state (sent_now old) image count in
        through_so old new M N
        (λ image count moment.
        let K : S → Type 0 = λ k. LinesMoments makes k held.ahead held.state (sent_now old) image count in
        let R : State → Type 0 = λ s. LinesMoments makes kept held.ahead s (sent_now old) image count in
        (omega (arith, some, spelled_length held.ahead edits is.spells), subst K (sym is.kept_is) (subst R here_is moment)))
        (told_is held.sent before is_told is.sent_is through)
