-- A line is kept back, or there is no memory for it.
use Rattle.std.proofs.Common.{◌≡◌, ◌∙◌, ℕ, Bool, ◌+◌, ◌-◌, ◌≤◌, List, [], ◌∷◌, ◌++◌, length, Option, None, Some, Result, Ok, Err, IfErr}
use Rattle.std.proofs.Common.{refl, ap, sym, subst, inl, inr, arith, length-append}
use Rattle.std.specs.Prelude.{OnOk}
use Rattle.std.specs.Borrow.{GName}
use Rattle.std.proofs.lemmas.List.{append-nil}
use Rattle.block_disk.specs.SentLaws.{sent_none}
use Rattle.block_disk.specs.View.{Image, View, sent_now}
use Rattle.line_runs.specs.Carried.{DoesOne}
use Rattle.line_runs.specs.Given.{Line}
use Rattle.line_runs.specs.MomentLaws as runs
use Rattle.line_runs.specs.Moments as moments
use Rattle.request_lines.specs.Requests.{read_line}
use Rattle.request_lines.specs.declared.requests.Request.{Request}
use Rattle.request_lines.specs.declared.requests.Request.TheVariants.{Edit as EditRequest, Open, View as ViewRequest, Zoom, Pan, Close}
use Rattle.series_book.specs.declared.edits.Edit.{Edit}
use Rattle.zoom_session.specs.declared.session.Session.{Session}
use Rattle.zoom_session.specs.Sessions.{is_open}
use Rattle.chart_service.specs.Blaming.{BlamesBy, BlamesEnd, GivesLast}
use Rattle.chart_service.specs.EditGroups.{SpelledBy, SpellEdits, SpellsEdit}
use Rattle.chart_service.specs.Making.{Makes, LinesMoments}
use Rattle.chart_service.specs.Moments.{Through}
use Rattle.chart_service.specs.Naming.{Gives, GivesBy, GivesFirst}
use Rattle.chart_service.specs.Serving.{most_ahead, unless_empty}
use Rattle.chart_service.specs.Syncing.{edit_asked, edit_of, edit_read, edits_of}
use Rattle.chart_service.specs.declared.failure.AnswerEnd.{AnswerEnd}
use Rattle.chart_service.specs.declared.failure.AnswerEnd.TheVariants.{Serve}
use Rattle.chart_service.specs.declared.failure.ServeEnd.TheVariants.{NoMemory}
use Rattle.chart_service.proofs.Blaming.{last_none}
use Rattle.chart_service.proofs.GatherLemmas.{spells_more}
use Rattle.chart_service.proofs.Naming.{first_memory, gives_none}
use Rattle.chart_service.proofs.Sending.{error_so, ok_so}
use Rattle.chart_service.proofs.SyncLemmas.{spelled_edits}
use Rattle.served_lines.specs.Standing.{IsHeld, StandsSo}
use Rattle.served_lines.specs.Shown.{SettlesTo, StopsBy, Unsettled}
use Rattle.served_lines.specs.Turning.{Any, AreTold, Does, Held, Lasting, Leaves, LeavesSo, Over, Stand}
use Rattle.served_lines.proofs.BlameLemmas.{last_ok}
use Rattle.served_lines.proofs.Giving.{gives_does, gives_stops}
use Rattle.served_lines.proofs.Steps.{IsSaid, ahead_leaves, ahead_stopped, full_turn, group_costs, kept_turn, spelled_line}
use Rattle.served_lines.proofs.TurnLemmas.{answered_none, behind}

asked_few : (request : Request) → length (edit_asked request) ≤ 1
asked_few (EditRequest edit) = omega arith
asked_few (Open number cache) = omega arith
asked_few (ViewRequest number name w h t0 t1 word text) = omega arith
asked_few (Zoom number t0 t1) = omega arith
asked_few (Pan number by) = omega arith
asked_few (Close number) = omega arith

read_few : (read : Result Request ℕ) → length (edit_read read) ≤ 1
read_few (Err at) = omega arith
read_few (Ok request) = asked_few request

edit_few : (line : Option (List ℕ)) → length (edit_of line) ≤ 1
edit_few None = omega arith
edit_few (Some text) = read_few (read_line text)

edits_few : (line : Option (List ℕ)) → IsSaid line → length (edits_of (unless_empty line)) ≤ length (unless_empty line)
edits_few line said = omega (arith, edit_few line, ap length said, ap (λ l. length (edits_of l)) said, length-append (edit_of line) [])

-- no line spells no edits
pub none_spelled : (edits : List Edit) → edits ≡ [] → SpellEdits [] edits
none_spelled edits none = subst (λ (e : List Edit). SpellEdits [] e) (sym none) tt

-- so are none given
pub none_given : {S F : Type 0} (makes : Makes S F) (lines : List (Option (List ℕ))) (edits : List Edit) → length edits ≡ 0
    → SpellEdits lines edits → (v : S) (a : ℕ → Bool) (before : Option (List ℕ))
    → Gives makes lines v v a a before before
none_given makes [] [] none spells v a before = gives_none makes v a before
none_given makes [] (edit ∷ edits) none spells v a before = absurd spells
none_given makes (line ∷ lines) [] none spells v a before = absurd spells
none_given makes (line ∷ lines) (edit ∷ edits) none spells v a before = absurd (omega (arith, none))

pub gives_err : {T S F : Type 0} (makes : Makes S F) (lines : List (Option (List ℕ))) (kept kept' : S) (own sessions : List Session)
    (before now : Option (List ℕ)) (r :
    Result T (AnswerEnd F))
    → GivesBy makes lines kept kept' own sessions before now r → IfErr r (GivesFirst makes kept kept' (λ n. is_open n own) before now)
gives_err makes lines kept kept' own sessions before now (Ok done) gives = tt
gives_err makes lines kept kept' own sessions before now (Err end) gives = gives

pub blame_err : {T S F : Type 0} (makes : Makes S F) (lines : List (Option (List ℕ))) (kept kept' : S) (own sessions : List Session)
    (before now : Option (List ℕ)) (told : Type 0) (count : ℕ) (image : Image) (r :
    Result T (AnswerEnd F))
    → BlamesBy makes lines kept kept' own sessions before now told count image r
    → IfErr r (BlamesEnd makes lines kept kept' own before now told count image)
blame_err makes lines kept kept' own sessions before now told count image (Ok done) blames = tt
blame_err makes lines kept kept' own sessions before now told count image (Err end) blames = blames

pub error_both : {T E : Type 0} (r : Result T E) (P Q R : E → Type 0) → ((e : E) → P e → Q e → R e) → IfErr r P → IfErr r Q → IfErr r R
error_both (Ok done) P Q R both one other = tt
error_both (Err e) P Q R both one other = both e one other

-- the same moments, by the names of runs
pub run_through : (old new : View) (IsSo : Image → ℕ → Type 0) → Through old new IsSo → moments.Through old new IsSo
run_through old new IsSo through = record { goes = through.goes; here = through.here }

module _ {S F : Type 0} (makes : Makes S F) (name : GName) (kept : S) (edits : List Edit) (told : Type 0) (at : View) (own : List Session)
    (before : Option (List ℕ)) where
  -- there is no memory
  pub memory_stops : (stand : Stand S) (position : ℕ) (line : Option (List ℕ)) → IsSaid line
      → StandsSo stand name kept edits told at own before
      → StopsBy makes stand (Line position line) name kept told at.size at.image own before before at.reads at.syncs (Serve NoMemory)
  memory_stops (Any named) position line said is =
      gives_stops makes named name name kept kept own own before before edits is refl (Line position line) told at.size at.image
      (Serve NoMemory)
      (first_memory makes [] kept kept (λ n. is_open n own) (λ n. is_open n own) before before (gives_none makes kept (λ n. is_open n own)
      before)) tt
  memory_stops (Over held) position line said is =
      let lines = unless_empty line in
      let some : 1 ≤ length (held.ahead ++ lines) = omega (arith, ap length said, length-append held.ahead lines) in
      let K : List Session → Type 0 = λ s. s ≡ s in
      record {
        begun = record {
          text = [];
          between = held;
          answered = answered_none makes held;
          next = [];
          later = held.ahead ++ lines;
          next_are = refl;
          some = some;
          few = omega arith;
        };
        why = record { book = held.state.book; stands = is.stands; so = (sym is.sent_is, inl (refl, refl)) };
        reads_next = inr ([], tt, omega arith, omega (arith, is.reads_are));
        costs = record {
          front = [];
          rest = held.ahead ++ lines;
          split = refl;
          costs = record {
            others = length lines - length (edits_of lines);
            counted = omega (arith, edits_few line said);
            full = 0;
            heavy = 0;
            few = omega (arith, is.syncs_are);
            full_paid = omega arith;
            heavy_paid = omega arith;
          };
        };
      }

  module _ (line : Option (List ℕ)) (edit : Edit) (spells : SpellsEdit line edit) (edits' : List Edit) (pushed : edits' ≡ edits ++ edit ∷
      []) where
    pub pushed_held : (held : Held S) → IsHeld held kept edits told at own before
        → IsHeld (behind makes held (line ∷ [])) kept edits' told at own before
    pushed_held held is =
        let P : List Edit → Type 0 = λ e. SpellEdits (held.ahead ++ line ∷ []) e in
        record {
          told_so = is.told_so;
          stands = is.stands;
          sessions_are = is.sessions_are;
          kept_is = is.kept_is;
          spells = subst P (sym pushed) (spells_more held.ahead edits line edit is.spells spells);
          sent_is = is.sent_is;
          reads_are = is.reads_are;
          syncs_are = is.syncs_are;
        }

    -- the line is kept back
    pub kept_does : (stand : Stand S) (position : ℕ) → StandsSo stand name kept edits told at own before
        → DoesOne (Does makes) (λ s. StandsSo s name kept edits' told at own before) stand (Line position line) before before
    kept_does (Any named) position is =
        let P : List Edit → Type 0 = λ e. SpellEdits (named.ahead ++ line ∷ []) e in
        gives_does makes named name name kept kept own own before before edits is refl (Line position line) edits' told at []
        (named.ahead ++ line ∷ [])
        (ap (λ (l : List (Option (List ℕ))). named.ahead ++ l) (spelled_line line edit spells))
        (subst P (sym pushed) (spells_more named.ahead edits line edit is.spells spells)) tt
        (last_none makes kept own before)
    kept_does (Over held) position is = record {
      text = [];
      behind = Over (behind makes held (line ∷ []));
      done = (kept_turn makes held line edit spells, tt);
      stands = pushed_held held is;
      sent = sent_none before;
    }

    -- ---- and all are done

    module _ (name' : GName) (same_name : name' ≡ name) (kept' : S) (told' : Type 0) (new : View) (sessions : List Session) (now : Option
        (List ℕ)) (none : List Edit) where
      pub full_does : {T : Type 0} (r : Result T (AnswerEnd F)) (stand : Stand S) (position : ℕ) → 64 ≤ length edits'
          → StandsSo stand name kept edits told at own before → SpellEdits [] none
          → SpelledBy edits' (λ lines. BlamesBy makes lines kept kept' own sessions before now told' new.size new.image r)
          → ((held : Held S) → IsHeld held kept edits' told at own before
          → OnOk r (SettlesTo makes held (λ h. IsHeld h kept' none told' new sessions now) before now))
          → OnOk r (DoesOne (Does makes) (λ s. StandsSo s name' kept' none told' new sessions now) stand (Line position line) before now)
      full_does r (Any named) position full is none_left gives settles =
          let P : List Edit → Type 0 = λ e. SpellEdits (named.ahead ++ line ∷ []) e in
          let ahead = named.ahead ++ line ∷ [] in
          let spelt = subst P (sym pushed) (spells_more named.ahead edits line edit is.spells spells) in
          ok_so r (GivesLast makes ahead kept kept' own sessions before now)
          (DoesOne (Does makes) (λ s. StandsSo s name' kept' none told' new sessions now) (Any named) (Line position line) before now)
          (λ given. gives_does makes named name name' kept kept' own sessions before now edits is same_name
          (Line position line) none told' new
          ahead [] (ap (λ (l : List (Option (List ℕ))). named.ahead ++ l) (spelled_line line edit spells)
          ∙ sym (append-nil ahead)) none_left tt given)
          (last_ok makes ahead kept kept' own sessions before now told' new.size new.image r (gives ahead spelt))
      full_does r (Over held) position full is none_left gives settles =
          let mid = behind makes held (line ∷ []) in
          let here = pushed_held held is in
          ok_so r (SettlesTo makes mid (λ h. IsHeld h kept' none told' new sessions now) before now)
          (DoesOne (Does makes) (λ s. StandsSo s name' kept' none told' new sessions now) (Over held) (Line position line) before now)
          (λ s. record {
            text = s.text;
            behind = Over s.new;
            done = (
              full_turn makes held s.new line edit s.text spells (omega (
                arith,
                full,
                ap length (spelled_edits mid.ahead edits'
                    here.spells),
              )) s.settles,
              tt,
            );
            stands = s.stands;
            sent = s.sent;
          })
          (settles mid here)

      pub full_stops : {T : Type 0} (r : Result T (AnswerEnd F)) (stand : Stand S) (position : ℕ) → 64 ≤ length edits'
          → length edits' ≤ most_ahead → StandsSo stand name kept edits told at own before
          → SpelledBy edits' (λ lines. GivesBy makes lines kept kept' own sessions before now r)
          → SpelledBy edits' (λ lines. BlamesBy makes lines kept kept' own sessions before now told' new.size new.image r)
          → ((held : Held S) → IsHeld held kept edits' told at own before
          → IfErr r (Unsettled makes held kept' edits' new.image sessions now new.reads new.syncs))
          → IfErr r (λ end. StopsBy makes stand (Line position line) name' kept' told' new.size new.image sessions before now new.reads
          new.syncs end)
      full_stops r (Any named) position full few is gives blames unsettled =
          let P : List Edit → Type 0 = λ e. SpellEdits (named.ahead ++ line ∷ []) e in
          let ahead = named.ahead ++ line ∷ [] in
          let spelt = subst P (sym pushed) (spells_more named.ahead edits line edit is.spells spells) in
          let lines_are : ahead ≡ named.ahead ++ unless_empty line =
          ap (λ (l : List (Option (List ℕ))). named.ahead ++ l) (sym (spelled_line line edit spells)) in
          error_both r (GivesFirst makes kept kept' (λ n. is_open n own) before now)
          (BlamesEnd makes ahead kept kept' own before now told' new.size new.image)
          (λ end. StopsBy makes (Any named) (Line position line) name' kept' told' new.size new.image sessions before now new.reads
          new.syncs end)
          (λ end given blamed.
          let B : List (Option (List ℕ)) → Type 0 = λ l. BlamesEnd makes l kept kept' own before now told' new.size new.image end in
          gives_stops makes named name name' kept kept' own sessions before now edits is same_name
          (Line position line) told' new.size new.image end given
          (subst B lines_are blamed))
          (gives_err makes ahead kept kept' own sessions before now r (gives ahead spelt))
          (blame_err makes ahead kept kept' own sessions before now told' new.size new.image r (blames ahead spelt))
      full_stops r (Over held) position full few is gives blames unsettled =
          let mid = behind makes held (line ∷ []) in
          let here = pushed_held held is in
          error_so r (Unsettled makes mid kept' edits' new.image sessions now new.reads new.syncs)
          (λ end. StopsBy makes (Over held) (Line position line) name' kept' told' new.size new.image sessions before now new.reads
          new.syncs end)
          (λ end u. ahead_stopped makes held (Line position line) edits' mid.ahead [] kept' new.image sessions now new.reads new.syncs end
          next_are u.some here.spells few u.why u.reads_few
          (group_costs held.state (edits_of mid.ahead) (unless_empty line) 0 0 1 held.syncs new.syncs counted (omega arith)
          (omega (arith, full, ap length (spelled_edits mid.ahead edits' here.spells))) u.few))
          (unsettled mid here)
        where
          next_are : held.ahead ++ unless_empty line ≡ (held.ahead ++ line ∷ []) ++ []
          next_are = ap (λ l. held.ahead ++ l) (spelled_line line edit spells) ∙ sym (append-nil (held.ahead ++ line ∷ []))

          counted : length (unless_empty line) ≡ 0 + length (edits_of (unless_empty line))
          counted = omega (
            arith,
            ap length (spelled_line line edit spells),
            ap (λ l. length (edits_of l)) (spelled_line line edit spells),
            ap length (spelled_edits (line ∷ []) (edit ∷ []) (spells, tt)),
          )

      pub full_leaves : (stand : Stand S) (position : ℕ) → length edits' ≤ most_ahead
          → StandsSo stand name kept edits told at own before → Lasting stand
          → ((held : Held S) → IsHeld held kept edits' told at own before → AreTold held.sent
          → Through at new (λ image count. (1 ≤ length held.ahead) × LinesMoments makes held.kept held.ahead held.state (sent_now at)
          image count))
          → moments.Through at new (Leaves makes stand (Line position line) (sent_now at))
      full_leaves (Any named) position few is lasting leaves = absurd lasting
      full_leaves (Over held) position few is lasting leaves =
          let mid = behind makes held (line ∷ []) in
          let here = pushed_held held is in
          let Ahead : Image → ℕ → Type 0 = λ image count. (1 ≤ length mid.ahead) × LinesMoments makes held.kept mid.ahead held.state
          (sent_now at) image count in
          let next_are : held.ahead ++ unless_empty line ≡ mid.ahead ++ [] =
          ap (λ l. held.ahead ++ l) (spelled_line line edit spells) ∙ sym (append-nil mid.ahead) in
          runs.through_so at new Ahead (LeavesSo makes held (Line position line) (sent_now at))
          (λ image count moment. ahead_leaves makes held (Line position line) edits' mid.ahead [] (sent_now at) image count next_are
          moment.0 here.spells few moment.1)
          (run_through at new Ahead (leaves mid here lasting))
