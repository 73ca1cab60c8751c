-- A group is done, and then a line that is no edit.
use Rattle.std.proofs.Common.{◌≡◌, ◌∙◌, ℕ, ◌+◌, ◌≤◌, List, [], ◌++◌, length, Option, None, Some, Result, IfErr, IfSome, refl, ap, sym}
use Rattle.std.proofs.Common.{subst, arith}
use Rattle.std.specs.Prelude.{OnOk}
use Rattle.std.proofs.lemmas.List.{append-nil}
use Rattle.std.specs.Borrow.{GName}
use Rattle.block_disk.specs.SentLaws.{sent_is, sent_more}
use Rattle.block_disk.specs.Streams.{sent_after}
use Rattle.block_disk.specs.View.{Image, View, sent_now}
use Rattle.line_runs.specs.Carried.{DoesOne}
use Rattle.line_runs.specs.Given.{Given, Line, Pause}
use Rattle.line_runs.specs.MomentLaws as runs
use Rattle.line_runs.specs.Moments as moments
use Rattle.series_book.specs.declared.edits.Edit.{Edit}
use Rattle.series_book.specs.declared.one_series.Series.{Series}
use Rattle.stored_book.specs.Standing.{StandsForBook}
use Rattle.zoom_session.specs.declared.session.Session.{Session}
use Rattle.zoom_session.specs.Sessions.{is_open}
use Rattle.chart_service.specs.Blaming.{BlamesBy, BlamesEnd, GivesLast}
use Rattle.chart_service.specs.EditGroups.{SpelledBy, SpellEdits}
use Rattle.chart_service.specs.Making.{Makes, LinesDone, LinesMoments, LinesStop}
use Rattle.chart_service.specs.Moments.{Through}
use Rattle.chart_service.specs.Naming.{GivesBy, GivesFirst}
use Rattle.chart_service.specs.ReadingBlocks.{ReadsFirst}
use Rattle.chart_service.specs.Serving.{most_ahead, unless_empty}
use Rattle.chart_service.specs.Stepping.{StandsAfter, state_of}
use Rattle.chart_service.specs.Syncing.{edit_of, edits_of}
use Rattle.chart_service.specs.declared.failure.AnswerEnd.{AnswerEnd}
use Rattle.chart_service.proofs.Blaming.{last_then}
use Rattle.chart_service.proofs.Naming.{first_behind}
use Rattle.chart_service.proofs.Sending.{error_so, ok_so}
use Rattle.served_lines.specs.Standing.{IsHeld, StandsSo}
use Rattle.served_lines.specs.Shown.{SettlesTo, StopsBy, Unsettled}
use Rattle.served_lines.specs.Turning.{Any, AreTold, Does, Held, Lasting, Leaves, LeavesSo, Over, Stand, lines_of, pauses_of}
use Rattle.served_lines.proofs.Giving.{gives_does, gives_stops}
use Rattle.served_lines.proofs.BlameLemmas.{blames_behind, blames_more, last_ok}
use Rattle.served_lines.proofs.KeepLemmas.{blame_err, error_both, gives_err, run_through}
use Rattle.served_lines.proofs.Steps.{IsSaid, ahead_leaves, ahead_stopped, group_costs, none_spelt, other_answered, other_leaves}
use Rattle.served_lines.proofs.Steps.{other_stopped, settled_turn}

-- another line is counted
pub other_counted : (line : Option (List ℕ)) → IsSaid line → edit_of line ≡ []
    → length (unless_empty line) ≡ 1 + length (edits_of (unless_empty line))
other_counted line said none = omega (arith, ap length said, ap length (none_spelt line none))

counts_at : (bytes text : List ℕ) (sent : Option (List ℕ)) (from count : ℕ) → from ≡ length bytes → sent ≡ sent_after text (Some bytes)
    → IfSome sent (λ all. count ≡ length all) → count ≡ from + length text
counts_at bytes text sent from count begins is counts = sent_is bytes text sent from count begins is counts

sent_at : (text : List ℕ) (held before now : Option (List ℕ)) (from count : ℕ) → AreTold held → held ≡ before → now ≡ sent_after text before
    → IfSome before (λ all. from ≡ length all) → IfSome now (λ all. count ≡ length all) → count ≡ from + length text
sent_at text None before now from count told same sent begins counts = absurd told
sent_at text (Some bytes) before now from count told same sent begins counts =
    let B : Option (List ℕ) → Type 0 = λ o. IfSome o (λ all. from ≡ length all) in
    sent_is bytes text now from count (subst B (sym same) begins) (sent ∙ ap (sent_after text) (sym same)) counts

module _ {S F : Type 0} (makes : Makes S F) (name : GName) (kept : S) (edits : List Edit) (told : Type 0) (at : View) (own : List Session)
    (before : Option (List ℕ)) where
  module _ (name' : GName) (same_name : name' ≡ name) (kept' : S) (none : List Edit) (told' : Type 0) (mid : View) (sessions : List Session)
      (now : Option (List ℕ)) where
    -- ---- the group alone

    -- at a pause all are done
    pub pause_does : {T : Type 0} (r : Result T (AnswerEnd F)) (stand : Stand S) → StandsSo stand name kept edits told at own before
        → SpellEdits [] none → SpelledBy edits (λ lines. BlamesBy makes lines kept kept' own sessions before now told' mid.size mid.image r)
        → ((held : Held S) → IsHeld held kept edits told at own before
        → OnOk r (SettlesTo makes held (λ h. IsHeld h kept' none told' mid sessions now) before now))
        → OnOk r (DoesOne (Does makes) (λ s. StandsSo s name' kept' none told' mid sessions now) stand Pause before now)
    pause_does r (Any named) is none_left gives settles =
        ok_so r (GivesLast makes named.ahead kept kept' own sessions before now)
        (DoesOne (Does makes) (λ s. StandsSo s name' kept' none told' mid sessions now) (Any named) Pause before now)
        (λ given. gives_does makes named name name' kept kept' own sessions before now edits is same_name Pause none told' mid named.ahead
        [] refl none_left refl given)
        (last_ok makes named.ahead kept kept' own sessions before now told' mid.size mid.image r (gives named.ahead is.spells))
    pause_does r (Over held) is none_left gives settles =
        ok_so r (SettlesTo makes held (λ h. IsHeld h kept' none told' mid sessions now) before now)
        (DoesOne (Does makes) (λ s. StandsSo s name' kept' none told' mid sessions now) (Over held) Pause before now)
        (λ s. record {
          text = s.text;
          behind = Over s.new;
          done = (settled_turn makes held s.new s.text 1 0 (omega arith) (omega arith) s.settles, s.settles.none);
          stands = s.stands;
          sent = s.sent;
        })
        (settles held is)

    -- they weren't all answered
    pub group_stops : {T : Type 0} (r : Result T (AnswerEnd F)) (stand : Stand S) (it : Given) (others : ℕ)
        → length (lines_of it) ≡ others + length (edits_of (lines_of it)) → 1 ≤ others + pauses_of it → length edits ≤ most_ahead
        → StandsSo stand name kept edits told at own before
        → SpelledBy edits (λ lines. GivesBy makes lines kept kept' own sessions before now r)
        → SpelledBy edits (λ lines. BlamesBy makes lines kept kept' own sessions before now told' mid.size mid.image r)
        → ((held : Held S) → IsHeld held kept edits told at own before
        → IfErr r (Unsettled makes held kept' edits mid.image sessions now mid.reads mid.syncs))
        → IfErr r (λ end. StopsBy makes stand it name' kept' told' mid.size mid.image sessions before now mid.reads mid.syncs end)
    group_stops r (Any named) it others counted paid few is gives blames unsettled =
        error_both r (GivesFirst makes kept kept' (λ n. is_open n own) before now)
        (BlamesEnd makes named.ahead kept kept' own before now told' mid.size mid.image)
        (λ end. StopsBy makes (Any named) it name' kept' told' mid.size mid.image sessions before now mid.reads mid.syncs end)
        (λ end given blamed. gives_stops makes named name name' kept kept' own sessions before now edits is same_name it told' mid.size
        mid.image end given
        (blames_more makes kept kept' own before now told' mid.size mid.image named.ahead (lines_of it) end blamed))
        (gives_err makes named.ahead kept kept' own sessions before now r (gives named.ahead is.spells))
        (blame_err makes named.ahead kept kept' own sessions before now told' mid.size mid.image r (blames named.ahead is.spells))
    group_stops r (Over held) it others counted paid few is gives blames unsettled =
        error_so r (Unsettled makes held kept' edits mid.image sessions now mid.reads mid.syncs)
        (λ end. StopsBy makes (Over held) it name' kept' told' mid.size mid.image sessions before now mid.reads mid.syncs end)
        (λ end u. ahead_stopped makes held it edits held.ahead (lines_of it) kept' mid.image sessions now mid.reads mid.syncs end refl
        u.some is.spells few u.why u.reads_few
        (group_costs held.state (edits_of held.ahead) (lines_of it) (pauses_of it) others 0 held.syncs mid.syncs counted (omega (
          arith,
          paid,
        )) (omega arith) u.few))
        (unsettled held is)

    pub group_leaves : (stand : Stand S) (it : Given) → length edits ≤ most_ahead → StandsSo stand name kept edits told at own before
        → Lasting stand
        → ((held : Held S) → IsHeld held kept edits told at own before → AreTold held.sent
        → Through at mid (λ image count. (1 ≤ length held.ahead) × LinesMoments makes held.kept held.ahead held.state (sent_now at) image
        count))
        → moments.Through at mid (Leaves makes stand it (sent_now at))
    group_leaves (Any named) it few is lasting leaves = absurd lasting
    group_leaves (Over held) it few is lasting leaves =
        let Ahead : Image → ℕ → Type 0 = λ image count. (1 ≤ length held.ahead) × LinesMoments makes held.kept held.ahead held.state
        (sent_now at) image count in
        runs.through_so at mid Ahead (LeavesSo makes held it (sent_now at))
        (λ image count moment. ahead_leaves makes held it edits held.ahead (lines_of it) (sent_now at) image count refl moment.0 is.spells
        few moment.1)
        (run_through at mid Ahead (leaves held is lasting))

    -- ---- and a line behind it

    module _ (none_left : SpellEdits [] none) (gives_mid : SpelledBy edits
        (λ lines. GivesLast makes lines kept kept' own sessions before now))
        (settles : (held : Held S) → IsHeld held kept edits told at own before
        → SettlesTo makes held (λ h. IsHeld h kept' none told' mid sessions now) before now)
        (line : Option (List ℕ)) (said : IsSaid line) (idle : edit_of line ≡ [])
        (name'' : GName) (same_later : name'' ≡ name') (kept'' : S) (told'' : Type 0) (new : View) (sessions' : List Session) (later :
        Option (List ℕ)) where
      abbrev ReadsSo : Type 0
      ReadsSo = (total : ℕ) (book : List Series) → told' → StandsForBook mid.image total book
          → ReadsFirst (unless_empty line) (state_of book total sessions) mid.reads new.reads

      pub line_does : {T : Type 0} (r : Result T (AnswerEnd F)) (stand : Stand S) (position : ℕ)
          → StandsSo stand name kept edits told at own before
          → BlamesBy makes (unless_empty line) kept' kept'' sessions sessions' now later told'' new.size new.image r
          → ((total : ℕ) (book : List Series) → told' → StandsForBook mid.image total book
          → OnOk r (StandsAfter total new.image sessions' (λ s. LinesDone makes (unless_empty line) kept' kept'' (state_of book total
          sessions) s now later)))
          → (told' → told'') → (told' → new.image ≡ mid.image) → ReadsSo → new.syncs ≡ mid.syncs
          → OnOk r (DoesOne (Does makes) (λ s. StandsSo s name'' kept'' none told'' new sessions' later) stand (Line position line) before
          later)
      line_does r (Any named) position is gives done more same reads synced =
          ok_so r (GivesLast makes (unless_empty line) kept' kept'' sessions sessions' now later)
          (DoesOne (Does makes) (λ s. StandsSo s name'' kept'' none told'' new sessions' later) (Any named) (Line position line) before
          later)
          (λ given. gives_does makes named name name'' kept kept'' own sessions' before later edits is (same_later
          ∙ same_name) (Line position line) none told'' new (named.ahead ++ unless_empty line) []
          (sym (append-nil (named.ahead ++ unless_empty line))) none_left tt
          (last_then makes named.ahead (unless_empty line) kept kept' kept'' own sessions sessions' before now later
          (gives_mid named.ahead is.spells) given))
          (last_ok makes (unless_empty line) kept' kept'' sessions sessions' now later told'' new.size new.image r gives)
      line_does r (Over held) position is gives done more same reads synced =
          let s = settles held is in
          let state = s.new.state in
          let told_mid = s.stands.told_so in
          let first = state_of state.book state.total sessions in
          ok_so r (StandsAfter state.total new.image sessions' (λ n. LinesDone makes (unless_empty line) kept' kept'' first n now later))
          (DoesOne (Does makes) (λ s. StandsSo s name'' kept'' none told'' new sessions' later) (Over held) (Line position line) before
          later)
          (λ after.
          let a = other_answered makes held s.new s.text s.settles line said idle none told' told'' mid new sessions sessions' kept'
          kept'' now later s.stands
          after (more told_mid) (same told_mid) (reads state.total state.book told_mid s.stands.stands) synced in
          record {
            text = s.text ++ a.reply;
            behind = Over a.next;
            done = (a.turn, tt);
            stands = a.stands;
            sent = sent_more s.text a.reply before now later s.sent a.sent;
          })
          (done state.total state.book told_mid s.stands.stands)

      pub line_stops : {T : Type 0} (r : Result T (AnswerEnd F)) (stand : Stand S) (position : ℕ)
          → StandsSo stand name kept edits told at own before
          → GivesBy makes (unless_empty line) kept' kept'' sessions sessions' now later r
          → BlamesBy makes (unless_empty line) kept' kept'' sessions sessions' now later told'' new.size new.image r
          → ((total : ℕ) (book : List Series) → told' → StandsForBook mid.image total book
          → IfErr r (LinesStop makes (unless_empty line) kept' kept'' (state_of book total sessions) new.image sessions' now later))
          → ReadsSo → new.syncs ≡ mid.syncs
          → IfErr r (λ end. StopsBy makes stand (Line position line) name'' kept'' told'' new.size new.image sessions' before later
          new.reads new.syncs end)
      line_stops r (Any named) position is gives blames stops reads synced =
          error_both r (GivesFirst makes kept' kept'' (λ n. is_open n sessions) now later)
          (BlamesEnd makes (unless_empty line) kept' kept'' sessions now later told'' new.size new.image)
          (λ end. StopsBy makes (Any named) (Line position line) name'' kept'' told'' new.size new.image sessions' before later new.reads
          new.syncs end)
          (λ end given blamed.
          let mid_gives = gives_mid named.ahead is.spells in
          gives_stops makes named name name'' kept kept'' own sessions' before later edits is (same_later
          ∙ same_name) (Line position line) told'' new.size new.image end
          (first_behind makes named.ahead kept kept' kept'' (λ n. is_open n own)
          (λ n. is_open n sessions) before now later end mid_gives.gives given)
          (blames_behind makes kept kept'' own before later told'' new.size new.image kept' sessions now named.ahead
          (unless_empty line) end mid_gives blamed))
          (gives_err makes (unless_empty line) kept' kept'' sessions sessions' now later r gives)
          (blame_err makes (unless_empty line) kept' kept'' sessions sessions' now later told'' new.size new.image r blames)
      line_stops r (Over held) position is gives blames stops reads synced =
          let s = settles held is in
          let state = s.new.state in
          let first = state_of state.book state.total sessions in
          error_so r (LinesStop makes (unless_empty line) kept' kept'' first new.image sessions' now later)
          (λ end. StopsBy makes (Over held) (Line position line) name'' kept'' told'' new.size new.image sessions' before later new.reads
          new.syncs end)
          (λ end why. other_stopped makes held s.new s.text s.settles line said idle none told' told'' mid new sessions sessions' kept'
          kept'' now later s.stands
          end position why (reads state.total state.book s.stands.told_so s.stands.stands) synced)
          (stops state.total state.book s.stands.told_so s.stands.stands)

      pub line_leaves : (stand : Stand S) (position : ℕ) → StandsSo stand name kept edits told at own before → Lasting stand
          → moments.Through at mid (Leaves makes stand (Line position line) (sent_now at))
          → ((total : ℕ) (book : List Series) → told' → StandsForBook mid.image total book
          → Through mid new (LinesMoments makes kept' (unless_empty line) (state_of book total sessions) (sent_now mid)))
          → IfSome before (λ bytes. sent_now at ≡ length bytes) → IfSome now (λ bytes. sent_now mid ≡ length bytes)
          → moments.Through at new (Leaves makes stand (Line position line) (sent_now at))
      line_leaves (Any named) position is lasting group leaves counts counts_mid = absurd lasting
      line_leaves (Over held) position is lasting group leaves counts counts_mid =
          let s = settles held is in
          let state = s.new.state in
          let first = state_of state.book state.total sessions in
          let Line_on : Image → ℕ → Type 0 = LinesMoments makes kept' (unless_empty line) first (sent_now mid) in
          let begins = sent_at s.text held.sent before now (sent_now at) (sent_now mid) lasting is.sent_is s.sent counts counts_mid in
          runs.through_then at mid new (LeavesSo makes held (Line position line) (sent_now at)) group
          (runs.through_so mid new Line_on (LeavesSo makes held (Line position line) (sent_now at))
          (λ image count moment. other_leaves makes held s.new s.text s.settles line said idle none told' told'' mid new sessions
          sessions' kept' kept'' now later s.stands
          position (sent_now at) image count begins moment)
          (run_through mid new Line_on (leaves state.total state.book s.stands.told_so s.stands.stands)))
