-- What lines of `derive` sent, by what a run of lines says.
use Rattle.std.proofs.Common.{◌≡◌, ◌∙◌, ℕ, ◌+◌, Bool, cond, List, [], ◌∷◌, ◌++◌, length, map, Option, Some, None, Result, Ok, Err, IfSome}
use Rattle.std.proofs.Common.{refl, ap, sym, subst, inl, inr}
use Rattle.std.specs.List.{filter}
use Rattle.std.specs.Prelude.{IfErr, OnOk}
use Rattle.std.proofs.lemmas.List.{append-nil}
use Rattle.block_disk.specs.SentLaws.{sent_none}
use Rattle.block_disk.specs.Streams.{sent_after}
use Rattle.chart_world.specs.Fronts.{says}
use Rattle.chart_world.specs.Lines.{lines, split_lines, text_of}
use Rattle.chart_world.specs.declared.line_answer.LineFault.TheVariants as fault
use Rattle.line_runs.specs.Carried.{Carries, Done}
use Rattle.line_runs.specs.CarriedLaws.{carries_both, carries_unpaused}
use Rattle.line_runs.specs.Ends.{run_end}
use Rattle.line_runs.specs.Given as given
use Rattle.line_runs.specs.Given.{AreFirst, Given, IsNext, NextLine, given_from, given_lines, unpaused}
use Rattle.line_runs.specs.Runs as runs
use Rattle.line_runs.specs.declared.lines_stop.LinesStop.{LinesStop}
use Rattle.line_runs.specs.declared.lines_stop.LinesStop.TheVariants as stop
use Rattle.run_ends.specs.declared.ending.End.{End}
use Rattle.run_ends.specs.declared.ending.End.TheVariants as ends
use Rattle.store_commands.specs.Sides.{Side}
use Rattle.derive_command.specs.Answers.{Answering}
use Rattle.derive_command.specs.Doing.{IsSaid, LineStops}
use Rattle.derive_command.specs.Lines.{AreAnswers, DrawsAll, EndsSo, FirstLines}
use Rattle.derive_command.specs.Working.{Known, LineDoes, LineStopsSo, answering_by, answers_by}
use Rattle.derive_command.proofs.LineLemmas.{no_lines, says_true}

-- the text is the answers to lines that were done, and what is known stays
record Answered (known : Known) (all : List (Option (List ℕ))) (text : List ℕ) (behind : Known) : Type 0 where
  pub are : AreAnswers (answers_by known) (filter says all) text
  pub behind_is : behind ≡ known

answered_from : (at : ℕ) (parts : List (List ℕ)) (known : Known) (text : List ℕ) (behind : Known)
    → Carries LineDoes known (given_from at parts) text behind → Answered known (map text_of parts) text behind
answered_from at [] known text behind (none, same) = record { are = none; behind_is = same }
answered_from at (part ∷ parts) known text behind follows =
    let C : Known → Type 0 = λ s. Carries LineDoes s (given_from (at + length part + 1) parts) follows.more behind in
    by (text_of part) follows.does.1 (answered_from (at + length part + 1) parts known follows.more behind
    (subst C follows.does.0 follows.others))
  where
    by : (line : Option (List ℕ)) → IsSaid (answers_by known) line follows.first → Answered known (map text_of parts) follows.more behind
        → Answered known (line ∷ map text_of parts) text behind
    by line (inl (empty, none)) rest =
        let L : Option (List ℕ) → Type 0 = λ l. AreAnswers (answers_by known) (filter says (l ∷ map text_of parts)) text in
        let T : List ℕ → Type 0 = λ t. AreAnswers (answers_by known) (filter says (map text_of parts)) t in
        let same : text ≡ follows.more = follows.texts ∙ ap (λ t. t ++ follows.more) none in
        record { are = subst L (sym empty) (subst T (sym same) rest.are); behind_is = rest.behind_is }
    by line (inr is) rest =
        let R : Bool → Type 0 = λ v. AreAnswers (answers_by known)
        (cond v (line ∷ filter says (map text_of parts)) (filter says (map text_of parts))) text in
        record {
          are = subst R (sym (says_true line is.request is.says_it)) (follows.first, follows.more, is, rest.are, follows.texts);
          behind_is = rest.behind_is;
        }

answered_lines : (front : List ℕ) (known : Known) (text : List ℕ) (behind : Known) → Carries LineDoes known (given_lines front) text behind
    → Answered known (lines front) text behind
unfolding lines given_lines
answered_lines front known text behind carries = answered_from 0 (split_lines front) known text behind carries

answered : (front : List ℕ) (done : List Given) (known : Known) (text : List ℕ) (behind : Known) → unpaused done ≡ given_lines front
    → Carries LineDoes known done text behind → Answered known (lines front) text behind
answered front done known text behind are carries =
    let P : List Given → Type 0 = λ l. Carries LineDoes known l text behind in
    answered_lines front known text behind (subst P are
    (carries_unpaused LineDoes (λ state said later did. (did.1, did.0)) done known text behind carries))

-- at the end nothing is sent
end_none : (known : Known) (text : List ℕ) (behind : Known) → Carries LineDoes known (given.End ∷ []) text behind → text ≡ []
end_none known text behind f = f.texts ∙ ap (λ t. t ++ f.more) f.does.1 ∙ f.others.0

module _ (known : Known) (pages : Side) (input : List ℕ) where
  all_so : (IsNow : Known → Type 0) (before now : Option (List ℕ)) (pieces pieces' : ℕ)
      → runs.Runs LineDoes known (runs.AreAll pieces pieces') IsNow (Some input) before now
      → DrawsAll (answering_by known pages) input before now
  all_so IsNow before now pieces pieces' all =
      let done = all.done in
      let are = all.are in
      let P : List Given → Type 0 = λ l. Carries LineDoes known l done.text done.behind in
      let both = carries_both LineDoes are.earlier (given.End ∷ []) known done.text done.behind (subst P are.given_are done.carries) in
      let first = answered input are.earlier known both.begin both.between are.lines_are both.begins in
      let none = end_none both.between both.more done.behind both.others in
      let same = both.texts ∙ ap (λ t. both.begin ++ t) none ∙ append-nil both.begin in
      record { text = both.begin; answers = first.are; sent = all.sent ∙ ap (λ t. sent_after t before) same }

  -- some first lines
  firsts_are : (done : Done LineDoes known) (first : AreFirst input done.given) → Answered known (lines first.front) done.text done.behind
  firsts_are done first = answered first.front done.given known done.text done.behind first.given_are done.carries

  abbrev firsts : (done : Done LineDoes known) → AreFirst input done.given → FirstLines (answers_by known) input
  firsts done first = record {
    front = first.front;
    rest = first.rest;
    begins = first.begins;
    early = first.early;
    text = done.text;
    are = (firsts_are done first).are;
  }

  -- a line stopped the run
  module _ (left before now : Option (List ℕ)) (first : FirstLines (answers_by known) input) where
    line_ends : (at : ℕ) (line : Option (List ℕ)) → at ≡ length first.front → NextLine (length first.front) first.rest line → (end : End)
        → LineStops (answering_by known pages) line at (sent_after first.text before) now end
        → EndsSo (answering_by known pages) input left before now end
    line_ends at line at_is next ends.NoMemory unsent = record { first = first; sent = unsent }
    line_ends at line at_is next ends.SendFault (text, is, part) = record {
      first = first;
      line = line;
      next = next;
      text = text;
      answer = is;
      between = sent_after first.text before;
      sent = refl;
      part = part;
    }
    line_ends at line at_is next ends.DiskFault unsent = record { first = first; sent = unsent }
    line_ends at line at_is next (ends.DamagedPage page) (damages, unsent) = record {
      drawn = record { first = first; sent = unsent };
      line = line;
      next = next;
      damages = damages;
    }
    line_ends at line at_is next (ends.BadInput place) bad = record {
      drawn = record { first = first; sent = bad.unsent };
      line = line;
      next = next;
      some = bad.some;
      none = bad.none;
      at_is = bad.place_is ∙ at_is;
    }
    line_ends at line at_is next (ends.RefusedLine place number) refused = record {
      why = refused.why;
      number_is = refused.number_is;
      draws = record {
        drawn = record { first = first; sent = refused.unsent };
        line = line;
        next = next;
        refuses = refused.refuses_it;
        at_is = refused.place_is ∙ at_is;
      };
    }
    line_ends at line at_is next end why = absurd why

    next_ends : (next : Given) → IsNext (length first.front) first.rest next → (end : End)
        → LineStopsSo known next pages (sent_after first.text before) now end → EndsSo (answering_by known pages) input left before now end
    next_ends (given.Line at line) (at_is, next) end why = line_ends at line at_is next end why
    next_ends given.Pause next end why = absurd why
    next_ends given.End none end why = absurd why

  -- how the run ended
  ends_so : {T : Type 0} (IsNow : Known → Type 0) (left before now : Option (List ℕ)) (pieces pieces' : ℕ)
      (answer : Result T (LinesStop End))
      → OnOk answer (runs.Runs LineDoes known (runs.AreAll pieces pieces') IsNow (Some input) before now)
      → IfErr answer (runs.StopsSo LineDoes (λ b it end was. LineStopsSo b it pages was now end) IsNow known
      (Some input) left before now pieces pieces')
      → EndsSo (answering_by known pages) input left before now (run_end answer)
  ends_so {T} IsNow left before now pieces pieces' (Ok v) all is = all_so IsNow before now pieces pieces' all
  ends_so {T} IsNow left before now pieces pieces' (Err (stop.Fault fault.ReadFault)) all is = record {
    drawn = record { first = firsts is.done is.are.first; sent = is.sent };
    whole = is.are.whole;
    behind = is.are.behind;
  }
  ends_so {T} IsNow left before now pieces pieces' (Err (stop.Fault fault.InputTooLong)) all is = record {
    drawn = record { first = firsts is.done is.are.first; sent = is.sent };
    unended = is.are.unended;
    past = is.are.past;
  }
  ends_so {T} IsNow left before now pieces pieces' (Err (stop.Work end)) all is =
      let B : Known → Type 0 = λ b. LineStopsSo b is.next pages (sent_after is.done.text before) now end in
      next_ends left before now (firsts is.done is.are.first) is.next is.are.next_is end
      (subst B (firsts_are is.done is.are.first).behind_is is.why)

-- the same of an input that may be told
pub ends_told : {T : Type 0} (known : Known) (IsNow : Known
    → Type 0) (pages : Side) (input left before now : Option (List ℕ)) (pieces pieces' : ℕ) (answer : Result T (LinesStop End))
    → OnOk answer (runs.Runs LineDoes known (runs.AreAll pieces pieces') IsNow input before now)
    → IfErr answer (runs.StopsSo LineDoes (λ b it end was. LineStopsSo b it pages was now end) IsNow known input left before now pieces
    pieces')
    → IfSome input (λ bytes. EndsSo (answering_by known pages) bytes left before now (run_end answer))
ends_told {T} known IsNow pages None left before now pieces pieces' answer all is = tt
ends_told {T} known IsNow pages (Some bytes) left before now pieces pieces' answer all is = ends_so known pages bytes IsNow left before now
    pieces pieces' answer all is

-- where no line was given
pub none_told : (by : Answering) (input left before : Option (List ℕ))
    → IfSome input (λ bytes. EndsSo by bytes left before before ends.NoMemory)
none_told by None left before = tt
none_told by (Some bytes) left before = record { first = no_lines by.answers bytes; sent = sent_none before }
