-- What is given does one turn, or stops the answering, or is on its way.
use Rattle.std.proofs.Common.{◌≡◌, ◌∙◌, ℕ, ◌+◌, ◌*◌, ◌/◌, ◌≤◌, ◌<◌, List, [], ◌∷◌, ◌++◌, length, Option, None, Some, refl, ap, sym, subst}
use Rattle.std.proofs.Common.{inl, inr, arith, length-append}
use Rattle.std.proofs.Math.Nat.{div-mul-le_self}
use Rattle.std.proofs.lemmas.List.{append-nil}
use Rattle.block_disk.specs.Streams.{sent_after}
use Rattle.block_disk.specs.View.{Image, View, sent_now}
use Rattle.line_runs.specs.Given.{Given, Line}
use Rattle.series_book.specs.declared.edits.Edit.{Edit}
use Rattle.series_book.specs.EditLists.{after_edits}
use Rattle.series_store.specs.Groups.{weight}
use Rattle.stored_book.specs.Standing.{StandsForBook}
use Rattle.stored_book.proofs.OneBook.{one_book}
use Rattle.zoom_session.specs.declared.session.Session.{Session}
use Rattle.chart_service.specs.EditGroups.{SpellEdits, SpellsEdit}
use Rattle.chart_service.specs.Making.{Makes, AreMade, LinesDone, LinesStop, LinesMoments}
use Rattle.chart_service.specs.ReadingBlocks.{ReadsFirst}
use Rattle.chart_service.specs.Serving.{RepliesToAll, most_ahead, unless_empty}
use Rattle.chart_service.specs.State.{State}
use Rattle.chart_service.specs.Stepping.{StandsAfter, state_of}
use Rattle.chart_service.specs.Syncing.{edit_of, edits_of}
use Rattle.chart_service.specs.declared.failure.AnswerEnd.{AnswerEnd}
use Rattle.chart_service.proofs.GatherLemmas.{spelled_length}
use Rattle.chart_service.proofs.Progress.{few_lines}
use Rattle.chart_service.proofs.SyncLemmas.{edits_joined, spelled_edits}
use Rattle.chart_service.proofs.TurnLemmas.{one_turn}
use Rattle.served_lines.specs.Standing.{IsHeld}
use Rattle.served_lines.specs.Shown.{Settles}
use Rattle.served_lines.specs.Turning.{Answered, Begun, Costs, Held, LeavesSo, StopsSo, Turn, lines_of, pauses_of}
use Rattle.served_lines.proofs.SettleLemmas.{same_state}
use Rattle.served_lines.proofs.TurnLemmas.{answered_none, answered_then, behind, kept_back, turn_then}

-- ---- what a group costs

-- a group is paid by another line, a pause, or 64 edits
pub group_costs : (state : State) (done : List Edit) (lines : List (Option (List ℕ))) (pauses others full from to : ℕ)
    → length lines ≡ others + length (edits_of lines) → 1 ≤ others + pauses + full → full * 64 ≤ length done
    → to ≤ from + 4 * (1 + weight state.total state.book done / 22) → Costs state done lines pauses from to
group_costs state done lines pauses others full from to counted paid full_paid few = record {
  others = others;
  counted = counted;
  full = full;
  heavy = weight state.total state.book done / 22;
  few = omega (arith, few, paid);
  full_paid = full_paid;
  heavy_paid = div-mul-le_self (weight state.total state.book done) 22;
}

-- a line that spells an edit is no other line
edit_counted : (line : Option (List ℕ)) (edit : Edit) → SpellsEdit line edit → length (line ∷ []) ≡ 0 + length (edits_of (line ∷ []))
edit_counted line edit spells = omega (arith, ap length (spelled_edits (line ∷ []) (edit ∷ []) (spells, tt)))

-- a line that spells one isn't empty
pub spelled_line : (line : Option (List ℕ)) (edit : Edit) → SpellsEdit line edit → unless_empty line ≡ line ∷ []
spelled_line None edit spells = absurd spells
spelled_line (Some []) edit spells = absurd spells
spelled_line (Some (byte ∷ bytes)) edit spells = refl

-- a line that spells none, and isn't empty
pub none_spelt : (line : Option (List ℕ)) → edit_of line ≡ [] → edits_of (unless_empty line) ≡ []
none_spelt None none = ap (λ e. e ++ []) none
none_spelt (Some []) none = refl
none_spelt (Some (byte ∷ bytes)) none = ap (λ e. e ++ []) none

-- a line that is given isn't empty
abbrev pub IsSaid : Option (List ℕ) → Type 0
IsSaid line = unless_empty line ≡ line ∷ []

pub said_some : (bytes : List ℕ) → 0 < length bytes → IsSaid (Some bytes)
said_some [] some = absurd (omega (arith, some))
said_some (byte ∷ bytes) some = refl

-- ---- over a book

module _ {S F : Type 0} (makes : Makes S F) where
  front_all : (old new : Held S) (text : List ℕ) (s : Settles makes old new text) → s.answered.front ≡ old.ahead
  front_all old new text s =
      sym (append-nil s.answered.front) ∙ ap (λ l. s.answered.front ++ l) (sym s.none) ∙ sym s.answered.split ∙ append-nil old.ahead

  -- a group is done, and nothing is given but what pays for it
  pub settled_turn : (old new : Held S) (text : List ℕ) (pauses full : ℕ) → 1 ≤ pauses + full
      → full * 64 ≤ length (edits_of old.ahead) → Settles makes old new text → Turn makes old new [] pauses text
  settled_turn old new text pauses full paid full_paid s =
      let C : List (Option (List ℕ)) → Type 0 = λ l. Costs old.state (edits_of l) [] pauses old.syncs new.syncs in
      record {
        answered = s.answered;
        costs = subst C (sym (front_all old new text s))
            (group_costs old.state (edits_of old.ahead) [] pauses 0 full old.syncs new.syncs refl (omega (arith, paid)) full_paid s.few);
      }

  -- an edit is kept back
  pub kept_turn : (old : Held S) (line : Option (List ℕ)) (edit : Edit) → SpellsEdit line edit
      → Turn makes old (behind makes old (line ∷ [])) (unless_empty line) 0 []
  kept_turn old line edit spells =
      let T : List (Option (List ℕ)) → Type 0 = λ l. Turn makes old (behind makes old (line ∷ [])) l 0 [] in
      subst T (sym (spelled_line line edit spells)) (record {
        answered = kept_back makes old (line ∷ []);
        costs = record {
          others = 0;
          counted = edit_counted line edit spells;
          full = 0;
          heavy = 0;
          few = omega arith;
          full_paid = omega arith;
          heavy_paid = omega arith;
        };
      })

  -- and 64 are done
  pub full_turn : (old new : Held S) (line : Option (List ℕ)) (edit : Edit) (text : List ℕ) → SpellsEdit line edit
      → 64 ≤ length (edits_of (old.ahead ++ line ∷ [])) → Settles makes (behind makes old (line ∷ [])) new text
      → Turn makes old new (unless_empty line) 0 text
  full_turn old new line edit text spells full s =
      let mid = behind makes old (line ∷ []) in
      let T : List (Option (List ℕ)) → Type 0 = λ l. Turn makes old new l 0 text in
      subst T (append-nil (unless_empty line))
      (turn_then makes old mid new (unless_empty line) [] 0 0 [] text (kept_turn old line edit spells)
      (settled_turn mid new text 0 1 (omega arith) (omega (arith, full)) s))

  abbrev ahead_begun : (old : Held S) (it : Given) (edits : List Edit) (next later : List (Option (List ℕ)))
      → old.ahead ++ lines_of it ≡ next ++ later
      → 1 ≤ length next → SpellEdits next edits → length edits ≤ most_ahead → Begun makes old (lines_of it)
  ahead_begun old it edits next later are some spells few = record {
    text = [];
    between = old;
    answered = answered_none makes old;
    next = next;
    later = later;
    next_are = are;
    some = omega (arith, some, ap length are, length-append next later);
    few = omega (arith, few, spelled_length next edits spells);
  }

  -- ---- a line behind a group

  module _ (old mid : Held S) (text : List ℕ) (s : Settles makes old mid text) (line : Option (List ℕ)) (said : IsSaid line)
      (none : edit_of line ≡ []) where
    counted_one : length (unless_empty line) ≡ 1 + length (edits_of (unless_empty line))
    counted_one = omega (arith, ap length said, ap length (none_spelt line none))

    abbrev line_begun : Begun makes old (unless_empty line)
    line_begun = record {
      text = text;
      between = mid;
      answered = s.answered;
      next = unless_empty line;
      later = [];
      next_are = ap (λ l. l ++ unless_empty line) s.none ∙ sym (append-nil (unless_empty line));
      some = omega (arith, ap length said, length-append mid.ahead (unless_empty line));
      few = few_lines line;
    }

    group_and_line : (to : ℕ) → to ≡ mid.syncs → Costs old.state (edits_of old.ahead) (unless_empty line) 0 old.syncs to
    group_and_line to same =
        group_costs old.state (edits_of old.ahead) (unless_empty line) 0 1 0 old.syncs to counted_one (omega arith) (omega arith)
        (omega (arith, s.few, same))

    module _ (edits : List Edit) (told told' : Type 0) (at new : View) (own sessions : List Session) (kept kept' : S)
        (before now : Option (List ℕ)) (is : IsHeld mid kept edits told at own before) where
      abbrev here : State
      here = state_of mid.state.book mid.state.total own

      -- it is answered, and this stands then
      pub record AnswersTo : Type 0 where
        pub reply : List ℕ
        pub next : Held S
        pub turn : Turn makes old next (unless_empty line) 0 (text ++ reply)
        pub stands : IsHeld next kept' edits told' new sessions now
        pub sent : now ≡ sent_after reply before

      pub other_answered : StandsAfter mid.state.total new.image sessions (λ new. LinesDone makes (unless_empty line) kept kept' here new
          before now)
          → told' → new.image ≡ at.image → ReadsFirst (unless_empty line) here at.reads new.reads → new.syncs ≡ at.syncs → AnswersTo
      other_answered after told_now same reads idle =
          let state = mid.state in
          let lines = unless_empty line in
          let after_state = state_of after.book state.total sessions in
          let done = after.so in
          let here_is = same_state state own is.sessions_are in
          let next : Held S = record {
            kept = kept';
            state = after_state;
            ahead = mid.ahead;
            sent = now;
            reads = new.reads;
            syncs =
                new.syncs;
          } in
          let R : State → Type 0 = λ s. RepliesToAll s lines done.frames after_state in
          let replied : RepliesToAll state lines done.frames after_state = subst R here_is done.replied in
          let M : S → Type 0 = λ k. AreMade makes k kept' lines done.frames done.text in
          let N : Option (List ℕ) → Type 0 = λ b. now ≡ sent_after done.text b in
          let F : State → Type 0 = λ s. ReadsFirst lines s at.reads new.reads in
          let C : ℕ → Type 0 = λ n. ReadsFirst lines state n new.reads in
          let I : Image → Type 0 = λ i. StandsForBook i state.total after.book in
          let idle_edits = none_spelt line none in
          let one : Answered makes mid next lines done.text = record {
            front = lines;
            split = ap (λ l. l ++ lines) s.none ∙ sym (append-nil lines) ∙ ap (λ l. lines ++ l) (sym s.none);
            frames = done.frames;
            replied = replied;
            made = subst M (sym is.kept_is) done.made;
            sent = subst N (sym is.sent_is) done.sent;
            reads = one_turn line state mid.reads new.reads (subst C (sym is.reads_are) (subst F here_is reads)) done.frames after_state
                replied;
            total_is = refl;
            book_is = one_book at.image state.total state.total state.book after.book is.stands (subst I same after.stands)
                ∙ ap (after_edits state.total state.book) (sym idle_edits);
          } in
          let both = answered_then makes old mid next [] lines text done.text s.answered one in
          let D : List Edit → Type 0 = λ e. Costs old.state e lines 0 old.syncs new.syncs in
          let all_edits : edits_of old.ahead ≡ edits_of (s.answered.front ++ lines) =
          sym (append-nil (edits_of old.ahead)) ∙ ap (λ e. edits_of old.ahead ++ e) (sym idle_edits)
          ∙ ap (λ l. edits_of l ++ edits_of lines) (sym (front_all old mid text s)) ∙ sym (edits_joined s.answered.front lines) in
          record {
            reply = done.text;
            next = next;
            turn = record { answered = both; costs = subst D all_edits (group_and_line new.syncs (idle ∙ sym is.syncs_are)) };
            stands = record {
              told_so = told_now;
              stands = after.stands;
              sessions_are = refl;
              kept_is = refl;
              spells = is.spells;
              sent_is = refl;
              reads_are = refl;
              syncs_are = refl;
            };
            sent = done.sent;
          }

      -- it stops the answering
      pub other_stopped : (end : AnswerEnd F) (position : ℕ)
          → LinesStop makes (unless_empty line) kept kept' here new.image sessions before now end
          → ReadsFirst (unless_empty line) here at.reads new.reads → new.syncs ≡ at.syncs
          → StopsSo makes old (Line position line) kept' new.image sessions now new.reads new.syncs end
      other_stopped end position why reads idle =
          let state = mid.state in
          let lines = unless_empty line in
          let here_is = same_state state own is.sessions_are in
          let K : S → Type 0 = λ k. LinesStop makes lines k kept' state new.image sessions mid.sent now end in
          let R : State → Type 0 = λ s. LinesStop makes lines kept kept' s new.image sessions mid.sent now end in
          let N : Option (List ℕ) → Type 0 = λ b. LinesStop makes lines kept kept' here new.image sessions b now end in
          let F : State → Type 0 = λ s. ReadsFirst lines s at.reads new.reads in
          let C : ℕ → Type 0 = λ n. ReadsFirst lines state n new.reads in
          let L : List (Option (List ℕ)) → Type 0 = λ l. ReadsFirst l state mid.reads new.reads in
          record {
            begun = line_begun;
            why = subst K (sym is.kept_is) (subst R here_is (subst N (sym is.sent_is) why));
            reads_next = inl (line, s.none, said, subst L said (subst C (sym is.reads_are) (subst F here_is reads)));
            costs = record {
              front = old.ahead;
              rest = lines;
              split = refl;
              costs = group_and_line new.syncs (idle ∙ sym is.syncs_are);
            };
          }

      -- and what a crash leaves while it is answered
      pub other_leaves : (position from : ℕ) (image : Image) (count : ℕ) → sent_now at ≡ from + length text
          → LinesMoments makes kept (unless_empty line) here (sent_now at) image count
          → LeavesSo makes old (Line position line) from image count
      other_leaves position from image count begins moment =
          let lines = unless_empty line in
          let K : S → Type 0 = λ k. LinesMoments makes k lines mid.state (from + length text) image count in
          let R : State → Type 0 = λ s. LinesMoments makes kept lines s (from + length text) image count in
          let N : ℕ → Type 0 = λ n. LinesMoments makes kept lines here n image count in
          record {
            begun = line_begun;
            moments = subst K (sym is.kept_is) (subst R (same_state mid.state own is.sessions_are) (subst N begins moment));
          }

  -- ---- a group that isn't all answered

  pub ahead_stopped : (old : Held S) (it : Given) (edits : List Edit) (next later : List (Option (List ℕ))) (kept' : S) (image : Image)
      (sessions : List Session) (now : Option (List ℕ)) (reads syncs : ℕ) (end : AnswerEnd F) → old.ahead ++ lines_of it ≡ next ++ later
      → 1 ≤ length next → SpellEdits next edits → length edits ≤ most_ahead
      → LinesStop makes next old.kept kept' old.state image sessions old.sent now end → reads ≤ old.reads + 96 * length edits
      → Costs old.state (edits_of next) (lines_of it) (pauses_of it) old.syncs syncs
      → StopsSo makes old it kept' image sessions now reads syncs end
  ahead_stopped old it edits next later kept' image sessions now reads syncs end are some spells few why reads_few costs = record {
    begun = ahead_begun old it edits next later are some spells few;
    why = why;
    reads_next = inr (edits, spells, few, reads_few);
    costs = record { front = next; rest = later; split = are; costs = costs };
  }

  -- what a crash leaves meanwhile
  pub ahead_leaves : (old : Held S) (it : Given) (edits : List Edit) (next later : List (Option (List ℕ))) (from : ℕ) (image : Image)
      (count : ℕ)
      → old.ahead ++ lines_of it ≡ next ++ later → 1 ≤ length next → SpellEdits next edits → length edits ≤ most_ahead
      → LinesMoments makes old.kept next old.state from image count → LeavesSo makes old it from image count
  ahead_leaves old it edits next later from image count are some spells few moment =
      let N : ℕ → Type 0 = λ n. LinesMoments makes old.kept next old.state n image count in
      let more : from ≡ from + 0 = omega arith in
      record { begun = ahead_begun old it edits next later are some spells few; moments = subst N more moment }
