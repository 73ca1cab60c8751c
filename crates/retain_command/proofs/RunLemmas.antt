-- What lines of `retain` did, by what a run of lines says.
use Rattle.std.proofs.Common.{◌≡◌, ◌∙◌, ℕ, ◌+◌, ◌≤◌, ◌^◌, ◌⊎◌, Bool, true, false, cond, List, [], ◌∷◌, ◌++◌, length, map, Option, Some}
use Rattle.std.proofs.Common.{None, IfSome, refl, ap, sym, subst, arith, inl, inr}
use Rattle.std.specs.Prelude.{OnOk, IfErr, Result, Ok, Err}
use Rattle.std.specs.List.{filter}
use Rattle.std.proofs.lemmas.List.{append-nil}
use Rattle.block_disk.specs.SentLaws.{sent_none}
use Rattle.block_disk.specs.Streams.{sent_after, PartSent}
use Rattle.block_disk.specs.View.{Image, View, Now, Only, sent_now}
use Rattle.chart_service.specs.MomentLaws.{since_none}
use Rattle.chart_service.specs.Moments as moments
use Rattle.chart_world.specs.Fronts.{says}
use Rattle.chart_world.specs.LineLaws.{says_text}
use Rattle.chart_world.specs.Lines.{lines, split_lines, text_of}
use Rattle.chart_world.specs.declared.line_answer.LineFault.TheVariants as fault
use Rattle.line_runs.specs.Carried.{Carries, Done}
use Rattle.line_runs.specs.CarriedLaws.{carries_both, carries_unpaused}
use Rattle.line_runs.specs.Ends.{run_end}
use Rattle.line_runs.specs.Given as given
use Rattle.line_runs.specs.Given.{AreFirst, Given, IsNext, given_from, given_lines, unpaused}
use Rattle.line_runs.specs.Moments.{Since}
use Rattle.line_runs.specs.Runs as runs
use Rattle.line_runs.specs.declared.lines_stop.LinesStop.{LinesStop}
use Rattle.line_runs.specs.declared.lines_stop.LinesStop.TheVariants as stop
use Rattle.run_ends.specs.declared.ending.End.{End}
use Rattle.run_ends.specs.declared.ending.End.TheVariants as ends
use Rattle.series_book.specs.declared.one_series.Series.{Series}
use Rattle.retention.specs.Drops.{book_swept}
use Rattle.retention.specs.Sweeps.{sweeps}
use Rattle.series_catalog.specs.declared.stored_series.StoredSeries.{StoredSeries}
use Rattle.stored_book.specs.Standing.{StandsForBook}
use Rattle.store_commands.specs.Books.{Stands}
use Rattle.store_commands.specs.InputLines.{NextLine, NoneIs, Unended}
use Rattle.retention.specs.declared.rule.Rule.{Rule}
use Rattle.retain_command.specs.Answered.{AnswersAll, AnswersFirst, AnswersSo, FirstSwept}
use Rattle.retain_command.specs.Answers.{AreRules, SayRules, SweptRule, answer, answers, book_behind, said_of, swept_text}
use Rattle.retain_command.specs.Doing.{LineFails, RuleCosts, Untouched}
use Rattle.retain_command.specs.Rules.{Says, SaysNone}
use Rattle.retain_command.specs.Sweeping.{ClearsNext, EndsSo, Faults, FirstRules, IsAhead, SweepsAll, SweepsFew, SweepsFirst, clears_of}
use Rattle.retain_command.specs.Sweeping.{left_by, said_to}
use Rattle.retain_command.specs.WorkLaws.{known_on}
use Rattle.retain_command.specs.Working.{Costs, Counted, GivenFails, Held, IsHeldIfKnown, LineDoes, LineLeaves, LineStopped, LineStopsSo}
use Rattle.retain_command.specs.Working.{NextGiven, counted_more, held_swept}
use Rattle.retain_command.proofs.RuleLemmas.{first_unanswered, no_rules, spells_some}

-- a book that is known
abbrev pub held_by : ℕ → List Series → Counted → Held
held_by total book counted = record { known = true; total = total; book = book; counted = counted }

-- the counts behind these rules
abbrev counted_behind : ℕ → List Series → Counted → List Rule → Counted
counted_behind total book counted [] = counted
counted_behind total book counted (rule ∷ rules) =
    counted_behind total (book_swept total book rule) (counted_more counted (length (sweeps total book rule))) rules

known_is : (held : Held) → held.known ≡ true → held ≡ held_by held.total held.book held.counted
known_is held known = (λ i. record { known = known i; total = held.total; book = held.book; counted = held.counted })

-- what stopped a run that left this
abbrev StopsBy : View → (Rule → ℕ → Type 0) → List StoredSeries → Option (List ℕ) → Held → Given → End → Option (List ℕ) → Type 0
StopsBy view IsBad catalog now held it end was = (held.known ≡ true → LineStopped held it view was now end)
    × GivenFails it IsBad catalog was now end

-- the rules of lines that were done
record Ruled (held : Held) (all : List (Option (List ℕ))) (text : List ℕ) (behind : Held) : Type 0 where
  pub rules : List Rule
  pub are : AreRules held.total held.book (filter says all) rules
  pub text_is : text ≡ answers held.total held.book rules
  pub behind_is : behind ≡ held_by held.total (book_behind held.total held.book rules)
      (counted_behind held.total held.book held.counted rules)

line_says : (line : Option (List ℕ)) (rule : Rule) → Says line rule → says line ≡ true
line_says None rule none = absurd none
line_says (Some text) rule spells = says_text text (spells_some rule text spells)

ruled_from : (at : ℕ) (parts : List (List ℕ)) (held : Held) (text : List ℕ) (behind : Held) → held.known ≡ true
    → Carries LineDoes held (given_from at parts) text behind → Ruled held (map text_of parts) text behind
ruled_from at [] held text behind known (none, same) = record {
  rules = [];
  are = tt;
  text_is = none;
  behind_is = same ∙ known_is held known;
}
ruled_from at (part ∷ parts) held text behind known follows =
    by (text_of part) follows.does (ruled_from (at + length part + 1) parts follows.between follows.more behind
    (known_on held (given.Line at (text_of part)) follows.first follows.between follows.does known) follows.others)
  where
    by : (line : Option (List ℕ)) → LineDoes held (given.Line at line) follows.first follows.between
        → Ruled follows.between (map text_of parts) follows.more behind → Ruled held (line ∷ map text_of parts) text behind
    by line (inl (empty, none, same)) rest =
        let P : Held → Type 0 = λ h. Ruled h (map text_of parts) follows.more behind in
        let here = subst P same rest in
        let R : Option (List ℕ) → Type 0 = λ l. AreRules held.total held.book (filter says (l ∷ map text_of parts)) here.rules in
        record {
          rules = here.rules;
          are = subst R (sym empty) here.are;
          text_is = follows.texts ∙ ap (λ t. t ++ follows.more) none ∙ here.text_is;
          behind_is = here.behind_is;
        }
    by line (inr does) rest =
        let P : Held → Type 0 = λ h. Ruled h (map text_of parts) follows.more behind in
        let here : Ruled (held_swept held does.rule) (map text_of parts) follows.more behind = subst P does.behind_is rest in
        let R : Bool → Type 0 = λ v. AreRules held.total held.book
        (cond v (line ∷ filter says (map text_of parts)) (filter says (map text_of parts))) (does.rule ∷ here.rules) in
        record {
          rules = does.rule ∷ here.rules;
          are = subst R (sym (line_says line does.rule does.says_it)) (does.says_it, does.there known, here.are);
          text_is = follows.texts ∙ ap (λ t. t ++ follows.more) (does.text_is known)
              ∙ ap (λ t. answer held.total held.book does.rule ++ t) here.text_is;
          behind_is = here.behind_is;
        }

ruled_lines : (front : List ℕ) (held : Held) (text : List ℕ) (behind : Held) → held.known ≡ true
    → Carries LineDoes held (given_lines front) text behind
    → Ruled held (lines front) text behind
unfolding lines given_lines
ruled_lines front held text behind known carries = ruled_from 0 (split_lines front) held text behind known carries

-- these lines, with pauses
ruled : (front : List ℕ) (done : List Given) (held : Held) (text : List ℕ) (behind : Held) → held.known ≡ true
    → unpaused done ≡ given_lines front
    → Carries LineDoes held done text behind → Ruled held (lines front) text behind
ruled front done held text behind known are carries =
    let P : List Given → Type 0 = λ l. Carries LineDoes held l text behind in
    ruled_lines front held text behind known
    (subst P are (carries_unpaused LineDoes (λ state none behind is. is) done held text behind carries))

-- at the end nothing was done
end_none : (held : Held) (text : List ℕ) (behind : Held) → Carries LineDoes held (given.End ∷ []) text behind
    → (text ≡ []) × (behind ≡ held)
end_none held text behind f = (f.texts ∙ ap (λ t. t ++ f.more) f.does.0 ∙ f.others.0, f.others.1 ∙ f.does.1)

-- what the counts behind rules are
record CountsAre (counted behind : Counted) (rules clears : ℕ) : Type 0 where
  pub reads : behind.reads ≡ counted.reads
  pub syncs : behind.syncs ≡ counted.syncs
  pub writes : behind.writes ≡ counted.writes
  pub rules_are : behind.rules ≡ counted.rules + rules
  pub clears_are : behind.clears ≡ counted.clears + clears

counts_are : (total : ℕ) (book : List Series) (counted : Counted) (rules : List Rule)
    → CountsAre counted (counted_behind total book counted rules) (length rules) (clears_of total book rules)
counts_are total book counted [] = record { reads = refl; syncs = refl; writes = refl; rules_are = omega arith; clears_are = omega arith }
counts_are total book counted (rule ∷ rules) =
    let is = counts_are total (book_swept total book rule) (counted_more counted (length (sweeps total book rule))) rules in
    record {
      reads = is.reads;
      syncs = is.syncs;
      writes = is.writes;
      rules_are = omega (arith, is.rules_are);
      clears_are = omega (arith, is.clears_are);
    }

module _ (total : ℕ) (book : List Series) (input : List ℕ) (counted : Counted) where
  -- so many rules and clears cost no more since
  abbrev CostsBy : View → ℕ → ℕ → Type 0
  CostsBy at rules clears = Costs (record {
    reads = counted.reads;
    syncs = counted.syncs;
    writes = counted.writes;
    rules = counted.rules + rules;
    clears = counted.clears + clears;
  }) at

  next_few : (first : FirstRules total book input) (at : View) (more : ℕ)
      → (more ≡ 0) ⊎ ClearsNext (length first.front) total (left_by total book input first) first.rest more
      → Costs (counted_more (counted_behind total book counted first.rules) more) at → SweepsFew (CostsBy at) total book input
  next_few first at more next costs =
      let is = counts_are total book counted first.rules in
      record {
        first = first;
        more = more;
        next = next;
        cost = record {
          reads = omega (arith, costs.reads, is.reads, is.rules_are, is.clears_are);
          syncs = omega (arith, costs.syncs, is.syncs, is.clears_are);
          writes = omega (arith, costs.writes, is.writes, is.clears_are);
        };
      }

  first_few : (first : FirstRules total book input) (at : View) → Costs (counted_behind total book counted first.rules) at
      → SweepsFew (CostsBy at) total book input
  first_few first at costs = next_few first at 0 (inl refl) (record {
    reads = omega (arith, costs.reads);
    syncs = omega (arith, costs.syncs);
    writes = omega (arith, costs.writes);
  })

  -- all lines
  all_so : (Told : Type 0) (at : View) (before now : Option (List ℕ)) (pieces pieces' : ℕ) → length input ≤ 2 ^ 32
      → runs.Runs LineDoes (held_by total book counted) (runs.AreAll pieces pieces') (IsHeldIfKnown Told at) (Some input) before now
      → SweepsAll (Stands total at.image) total book input before now × SweepsFew (CostsBy at) total book input
  all_so Told at before now pieces pieces' within all =
      let done = all.done in
      let P : List Given → Type 0 = λ l. Carries LineDoes (held_by total book counted) l done.text done.behind in
      let are = all.are in
      let both = carries_both LineDoes are.earlier (given.End ∷ []) (held_by total book counted) done.text done.behind
      (subst P are.given_are done.carries) in
      let none = end_none both.between both.more done.behind both.others in
      let r = ruled input are.earlier (held_by total book counted) both.begin both.between refl are.lines_are both.begins in
      let S : Held → Type 0 = λ h. IsHeldIfKnown Told at h in
      let stands = subst S (none.1 ∙ r.behind_is) all.stands refl in
      let same = both.texts ∙ ap (λ t. both.begin ++ t) none.0 ∙ append-nil both.begin ∙ r.text_is in
      let first : FirstRules total book input = record {
        front = input;
        rest = [];
        begins = record { split = sym (append-nil input); whole = inr refl };
        early = within;
        rules = r.rules;
        are = r.are;
      } in (
        record {
          rules = r.rules;
          are = r.are;
          there = stands.1;
          sent = all.sent ∙ ap (λ t. sent_after t before) same;
        },
        first_few first at stands.2,
      )

  -- some first lines, in the words of rules
  record Firsts (text : List ℕ) (behind : Held) : Type 0 where
    pub first : FirstRules total book input
    pub text_is : text ≡ said_to total book input first
    pub behind_is : behind ≡ held_by total (left_by total book input first) (counted_behind total book counted first.rules)

  abbrev firsts : (done : Done LineDoes (held_by total book counted)) → AreFirst input done.given → Firsts done.text done.behind
  firsts done first =
      let r = ruled first.front done.given (held_by total book counted) done.text done.behind refl first.given_are done.carries in
      record {
        first = record {
          front = first.front;
          rest = first.rest;
          begins = first.begins;
          early = first.early;
          rules = r.rules;
          are = r.are;
        };
        text_is = r.text_is;
        behind_is = r.behind_is;
      }

  abbrev first_so : (Told : Type 0) (at : View) (before now : Option (List ℕ)) (text : List ℕ) (behind : Held)
      → Firsts text behind → IsHeldIfKnown Told at behind → now ≡ sent_after text before
      → SweepsFirst (Stands total at.image) total book input before now
  first_so Told at before now text behind f stands sent =
      let S : Held → Type 0 = λ h. IsHeldIfKnown Told at h in
      record { first = f.first; there = (subst S f.behind_is stands refl).1; sent = sent ∙ ap (λ t. sent_after t before) f.text_is }

  few_so : (Told : Type 0) (at : View) (text : List ℕ) (behind : Held) → Firsts text behind → IsHeldIfKnown Told at behind
      → SweepsFew (CostsBy at) total book input
  few_so Told at text behind f stands =
      let S : Held → Type 0 = λ h. IsHeldIfKnown Told at h in
      first_few f.first at (subst S f.behind_is stands refl).2

  unended_so : (rest : List ℕ) (left : Option (List ℕ)) → IfSome left (runs.Unended rest) → IfSome left (Unended rest)
  unended_so rest None is = tt
  unended_so rest (Some l) is = record { partial = is.partial; taken = is.taken; unended = is.unended }

  next_so : (count : ℕ) (rest : List ℕ) (line : Option (List ℕ)) → given.NextLine count rest line → NextLine count rest line
  next_so count rest line next = record { later = next.later; lines_are = next.lines_are; early = next.early }

  -- at a line
  module _ (image : Image) (left before now : Option (List ℕ)) (first : FirstRules total book input) where
    -- it stopped the run
    abbrev Stopped : Given → End → Type 0
    Stopped next end = LineStopsSo (held_by total (left_by total book input first) (counted_behind total book counted first.rules)) next
        image
        (sent_after (said_to total book input first) before) now end

    abbrev Ended : End → Type 0
    Ended end = EndsSo (Stands total image) total book input left before now end

    abbrev swept : Untouched total (left_by total book input first) image (sent_after (said_to total book input first) before) now
        → SweepsFirst (Stands total image) total book input before now
    swept rests = record { first = first; there = rests.stands; sent = rests.unsent }

    line_so : (at : ℕ) → at ≡ length first.front → (line : Option (List ℕ)) → NextLine (length first.front) first.rest line
        → (end : End) → Stopped (given.Line at line) end → Ended end
    line_so at at_is None next end why =
        let P : End → Type 0 = λ e. Ended e in
        subst P (sym why.0) (record {
          swept = swept why.1;
          line = None;
          next = next;
          some = refl;
          none = λ rule none. none;
          at_is = at_is;
        })
    line_so at at_is (Some text) next ends.NoMemory (inl rests) = inl (swept rests)
    line_so at at_is (Some text) next ends.NoMemory (inr (rule, spells, some)) = inr (record {
      first = first;
      rule = rule;
      next = record { line = Some text; next = next; says_it = spells; there = some.there };
      done = some.some.done;
      few = some.some.few;
      there = some.some.stands;
      sent = some.unsent;
    })
    line_so at at_is (Some text) next ends.SendFault (rule, spells, cut) = record {
      first = first;
      rule = rule;
      next = record { line = Some text; next = next; says_it = spells; there = cut.there };
      there = cut.stands;
      between = sent_after (said_to total book input first) before;
      sent = refl;
      part = cut.part;
    }
    line_so at at_is (Some text) next ends.DiskFault unsent = record { first = first; sent = unsent }
    line_so at at_is (Some text) next (ends.BadInput place) bad = record {
      swept = swept bad.stays;
      line = Some text;
      next = next;
      some = says_text text bad.some;
      none = bad.none;
      at_is = bad.place_is ∙ at_is;
    }
    line_so at at_is (Some text) next (ends.NoSeries place) (rule, spells, why) = record {
      swept = record { first = first; there = why.1.stands; sent = why.1.unsent };
      line = Some text;
      next = next;
      rule = rule;
      says_it = spells;
      unknown = why.1.none;
      at_is = why.0 ∙ at_is;
    }
    line_so at at_is (Some text) next end none = absurd none

    next_stops : (next : Given) → IsNext (length first.front) first.rest next → (end : End) → Stopped next end → Ended end
    next_stops (given.Line at line) (at_is, next) end why = line_so at at_is line
        (next_so (length first.front) first.rest line next) end why
    next_stops given.Pause any end why = absurd why
    next_stops given.End none end why = absurd why

  -- the rule that is given next
  next_clears : (first : FirstRules total book input) (next : Given) → IsNext (length first.front) first.rest next → (more : ℕ)
      → NextGiven (held_by total (left_by total book input first) (counted_behind total book counted first.rules)) next more
      → (more ≡ 0) ⊎ ClearsNext (length first.front) total (left_by total book input first) first.rest more
  next_clears first (given.Line at None) next more none = inl none
  next_clears first (given.Line at (Some text)) next more (inl none) = inl none
  next_clears first (given.Line at (Some text)) (at_is, next) more (inr (rule, spells, are)) = inr (record {
    line = Some text;
    next = next_so (length first.front) first.rest (Some text) next;
    rule = rule;
    says_it = spells;
    clears_are = are;
  })
  next_clears first given.Pause next more none = inl none
  next_clears first given.End next more none = inl none

  -- how the run ended
  ends_so : {T : Type 0} (Told : Type 0) (view : View) (IsBad : Rule → ℕ
      → Type 0) (catalog : List StoredSeries) (left before now : Option (List ℕ)) (pieces pieces' : ℕ) (answer : Result T (LinesStop End))
      → OnOk answer (length input ≤ 2 ^ 32)
      → OnOk answer (runs.Runs LineDoes (held_by total book counted) (runs.AreAll pieces pieces') (IsHeldIfKnown Told view)
      (Some input) before now)
      → IfErr answer (runs.StopsSo LineDoes (λ held it end was. StopsBy view IsBad catalog now held it end was) (IsHeldIfKnown Told view)
      (held_by total book counted) (Some input) left before now pieces pieces')
      → EndsSo (Stands total view.image) total book input left before now (run_end answer) × SweepsFew (CostsBy view) total book input
  ends_so {T} Told view IsBad catalog left before now pieces pieces'
      (Ok done) within all is = all_so Told view before now pieces pieces' within all
  ends_so {T} Told view IsBad catalog left before now pieces pieces' (Err (stop.Fault fault.ReadFault)) within all is =
      let f = firsts is.done is.are.first in (
        record {
          swept = first_so Told view before now is.done.text is.done.behind f is.stands is.sent;
          whole = is.are.whole;
          behind = unended_so is.are.first.rest left is.are.behind;
        },
        few_so Told view is.done.text is.done.behind f is.stands,
      )
  ends_so {T} Told view IsBad catalog left before now pieces pieces' (Err (stop.Fault fault.InputTooLong)) within all is =
      let f = firsts is.done is.are.first in (
        record {
          swept = first_so Told view before now is.done.text is.done.behind f is.stands is.sent;
          unended = is.are.unended;
          past = is.are.past;
        },
        few_so Told view is.done.text is.done.behind f is.stands,
      )
  ends_so {T} Told view IsBad catalog left before now pieces pieces' (Err (stop.Work end)) within all is =
      let f = firsts is.done is.are.first in
      let H : Held → Type 0 = λ h. h.known ≡ true → LineStopped h is.next view (sent_after is.done.text before) now end in
      let T' : List ℕ → Type 0 = λ t.
      LineStopsSo (held_by total (left_by total book input f.first) (counted_behind total book counted f.first.rules)) is.next view.image
      (sent_after t before) now end in
      let stopped = subst H f.behind_is is.why.0 refl in (
        next_stops view.image left before now f.first is.next is.are.next_is end (subst T' f.text_is stopped.why),
        next_few f.first view stopped.more (next_clears f.first is.next is.are.next_is stopped.more stopped.next) stopped.costs,
      )

  -- at each moment
  next_leaves : (from begun sent : ℕ) (image : Image) (first : FirstRules total book input)
      → begun ≡ from + length (said_to total book input first) → (next : Given) → IsNext (length first.front) first.rest next
      → LineLeaves (held_by total (left_by total book input first) (counted_behind total book counted first.rules)) next begun image sent
      → IsAhead (Stands total image) total book input from sent
  next_leaves from begun sent image first begun_is (given.Line at None) next none = absurd none
  next_leaves from begun sent image first begun_is (given.Line at (Some text)) (at_is, next) (rule, spells, m) = record {
    first = first;
    state = inr (record {
      rule = rule;
      next = record {
        line = Some text;
        next = next_so (length first.front) first.rest (Some text) next;
        says_it = spells;
        there = m.there;
      };
      done = m.done;
      few = m.few;
      there = m.stands;
      low = omega (arith, m.low, begun_is);
      high = omega (arith, m.high, begun_is);
      all = λ more. m.all (omega (arith, more, begun_is));
    });
  }
  next_leaves from begun sent image first begun_is given.Pause next none = absurd none
  next_leaves from begun sent image first begun_is given.End next none = absurd none

  ahead_so : (bytes : List ℕ) (from : ℕ) (image : Image) (sent : ℕ)
      → runs.IsAhead LineDoes (λ held i. StandsForBook i held.total held.book) LineLeaves (held_by total book counted) (Some input)
      (Some bytes) from image sent
      → IsAhead (Stands total image) total book input from sent
  ahead_so bytes from image sent ahead = elim ahead.is [
    | inl rests ↦
        let f = firsts ahead.done rests.are in
        let S : Held → Type 0 = λ h. StandsForBook image h.total h.book in
        let sent_is : sent ≡ from + length ahead.done.text = rests.sent_is in
        record { first = f.first; state = inl (subst S f.behind_is rests.rests_so, omega (arith, sent_is, ap length f.text_is)) }
    | inr amid ↦
        let f = firsts ahead.done amid.are.first in
        let H : Held → Type 0 = λ h. LineLeaves h amid.next amid.begun image sent in
        let begun_is : amid.begun ≡ from + length ahead.done.text = amid.begun_is in
        next_leaves from amid.begun sent image f.first (omega (arith, begun_is, ap length f.text_is)) amid.next amid.are.next_is
        (subst H f.behind_is amid.leaves_so)
  ]

-- the same of an input that may be told
module _ (total : ℕ) (book : List Series) (counted : Counted) where
  pub ends_told : {T : Type 0} (Told : Type 0) (view : View) (IsBad : Rule → ℕ
      → Type 0) (catalog : List StoredSeries) (o left before now : Option (List ℕ)) (pieces pieces' : ℕ) (answer : Result T (LinesStop End))
      → OnOk answer (IfSome o (λ input. length input ≤ 2 ^ 32))
      → OnOk answer (runs.Runs LineDoes (held_by total book counted) (runs.AreAll pieces pieces') (IsHeldIfKnown Told view) o before now)
      → IfErr answer (runs.StopsSo LineDoes (λ held it end was. StopsBy view IsBad catalog now held it end was) (IsHeldIfKnown Told view)
      (held_by total book counted) o left before now pieces pieces')
      → IfSome o (λ input. EndsSo (Stands total view.image) total book input left before now (run_end answer)
      × SweepsFew (CostsBy total book input counted view) total book input)
  ends_told {T} Told view IsBad catalog None left before now pieces pieces' answer within all is = tt
  ends_told {T} Told view IsBad catalog (Some input) left before now pieces pieces' answer within all is =
      ends_so total book input counted Told view IsBad catalog left before now pieces pieces' answer within all is

  abbrev Lasts : Option (List ℕ) → Option (List ℕ) → View → View → Type 0
  Lasts o before old new = IfSome o (λ input. IfSome before (λ bytes.
      moments.Since old new (λ image sent. IsAhead (Stands total image) total book input (sent_now old) sent)))

  pub lasts_told : (o before : Option (List ℕ)) (old new : View)
      → Since old new (runs.IsAhead LineDoes (λ held i. StandsForBook i held.total held.book) LineLeaves
      (held_by total book counted) o before
      (sent_now old))
      → Lasts o before old new
  lasts_told None before old new since = tt
  lasts_told (Some input) None old new since = tt
  lasts_told (Some input) (Some bytes) old new since = record {
    goes = since.goes;
    here = λ time image low high left.
        ahead_so total book input counted bytes (sent_now old) image (new.sent_by time) (since.here time image low high left);
  }

  -- where no line was begun
  pub lasts_none : (o before : Option (List ℕ)) (at : View) → Only at.image (Now at) → StandsForBook at.image total book
      → Lasts o before at at
  lasts_none None before at only stands = tt
  lasts_none (Some input) None at only stands = tt
  lasts_none (Some input) (Some bytes) at only stands =
      let S : Image → Type 0 = λ i. StandsForBook i total book in
      since_none at (λ image sent. IsAhead (Stands total image) total book input (sent_now at) sent)
      (λ image left. record { first = no_rules total book input; state = inl (subst S (sym (only image left)) stands, omega arith) })

  pub none_swept : (o left before : Option (List ℕ)) (image : Image) → StandsForBook image total book
      → IfSome o (λ input. EndsSo (Stands total image) total book input left before before ends.NoMemory)
  none_swept None left before image stands = tt
  none_swept (Some input) left before image stands =
      inl (record { first = no_rules total book input; there = stands; sent = sent_none before })

-- ---- costs in the words of the store

abbrev pub counted_by : View → Counted
counted_by at = record { reads = at.reads; syncs = at.syncs; writes = at.writes; rules = 0; clears = 0 }

pub costs_begun : (at : View) → Costs (counted_by at) at
costs_begun at = record { reads = omega arith; syncs = omega arith; writes = omega arith }

few_by : (total : ℕ) (book : List Series) (input : List ℕ) (old new : View)
    → SweepsFew (CostsBy total book input (counted_by old) new) total book input
    → SweepsFew (λ rules clears. RuleCosts rules clears old new) total book input
few_by total book input old new few = record {
  first = few.first;
  more = few.more;
  next = few.next;
  cost = record {
    reads = omega (arith, few.cost.reads);
    syncs = omega (arith, few.cost.syncs);
    writes = omega (arith, few.cost.writes);
  };
}

module _ (total : ℕ) (book : List Series) (old new : View) where
  abbrev Both : Option (List ℕ) → Option (List ℕ) → Option (List ℕ) → Option (List ℕ) → End → Type 0
  Both o left before now end =
      IfSome o (λ input. EndsSo (Stands total new.image) total book input left before now end
      × SweepsFew (CostsBy total book input (counted_by old) new) total book input)

  pub ends_of : (o left before now : Option (List ℕ)) (end : End) → Both o left before now end
      → IfSome o (λ input. EndsSo (Stands total new.image) total book input left before now end)
  ends_of None left before now end both = tt
  ends_of (Some input) left before now end both = both.0

  pub costs_told : (o left before now : Option (List ℕ)) (end : End) → Both o left before now end
      → IfSome o (λ input. SweepsFew (λ rules clears. RuleCosts rules clears old new) total book input)
  costs_told None left before now end both = tt
  costs_told (Some input) left before now end both = few_by total book input old new both.1

pub none_costs : (total : ℕ) (book : List Series) (o : Option (List ℕ)) (at : View)
    → IfSome o (λ input. SweepsFew (λ rules clears. RuleCosts rules clears at at) total book input)
none_costs total book None at = tt
none_costs total book (Some input) at = record {
  first = no_rules total book input;
  more = 0;
  next = inl refl;
  cost = record { reads = omega arith; syncs = omega arith; writes = omega arith };
}

-- ---- whatever the pages are

-- each line that was done is a rule, unless it is empty
said_from : (at : ℕ) (parts : List (List ℕ)) (held : Held) (text : List ℕ) (behind : Held)
    → Carries LineDoes held (given_from at parts) text behind → NoneIs SaysNone (filter says (map text_of parts))
said_from at [] held text behind none = tt
said_from at (part ∷ parts) held text behind follows =
    by (text_of part) follows.does (said_from (at + length part + 1) parts follows.between follows.more behind follows.others)
  where
    by : (line : Option (List ℕ)) → LineDoes held (given.Line at line) follows.first follows.between
        → NoneIs SaysNone (filter says (map text_of parts)) → NoneIs SaysNone (filter says (line ∷ map text_of parts))
    by line (inl (empty, none, same)) rest =
        let R : Option (List ℕ) → Type 0 = λ l. NoneIs SaysNone (filter says (l ∷ map text_of parts)) in
        subst R (sym empty) rest
    by line (inr does) rest =
        let R : Bool → Type 0 = λ v. NoneIs SaysNone
        (cond v (line ∷ filter says (map text_of parts)) (filter says (map text_of parts))) in
        subst R (sym (line_says line does.rule does.says_it)) ((λ none. none does.rule does.says_it), rest)

said_lines : (front : List ℕ) (held : Held) (text : List ℕ) (behind : Held) → Carries LineDoes held (given_lines front) text behind
    → NoneIs SaysNone (filter says (lines front))
unfolding lines given_lines
said_lines front held text behind carries = said_from 0 (split_lines front) held text behind carries

said : (front : List ℕ) (done : List Given) (held : Held) (text : List ℕ) (behind : Held) → unpaused done ≡ given_lines front
    → Carries LineDoes held done text behind → NoneIs SaysNone (filter says (lines front))
said front done held text behind are carries =
    let P : List Given → Type 0 = λ l. Carries LineDoes held l text behind in
    said_lines front held text behind
    (subst P are (carries_unpaused LineDoes (λ state none behind is. is) done held text behind carries))

-- no book
abbrev pub unknown : Held
unknown = record { known = false; total = 0; book = []; counted = record { reads = 0; syncs = 0; writes = 0; rules = 0; clears = 0 } }

pub never_known : {X : Type 0} → false ≡ true → X
never_known {X} is = cc

module _ (IsBad : Rule → ℕ → Type 0) (catalog : List StoredSeries) (input : List ℕ) where
  as_next : (count : ℕ) (rest : List ℕ) (line : Option (List ℕ)) → given.NextLine count rest line → NextLine count rest line
  as_next count rest line next = record { later = next.later; lines_are = next.lines_are; early = next.early }

  module _ (given_first : List Given) (f : AreFirst input given_first) (none : NoneIs SaysNone (filter says (lines f.front)))
      (before now : Option (List ℕ)) where
    text_fault : (at : ℕ) → at ≡ length f.front → (text : List ℕ) → NextLine (length f.front) f.rest (Some text) → (end : End)
        → LineFails text at IsBad catalog before now end → Faults catalog input end
    text_fault at at_is text next (ends.BadInput place) is = record {
      front = f.front;
      rest = f.rest;
      begins = f.begins;
      none = none;
      at_is = is.place_is ∙ at_is;
      line = Some text;
      next = next;
      some = says_text text is.some;
      is = is.none;
    }
    text_fault at at_is text next (ends.NoSeries place) (rule, spells, (place_is, (name, names, lacks), unsent)) = record {
      front = f.front;
      rest = f.rest;
      begins = f.begins;
      at_is = place_is ∙ at_is;
      line = Some text;
      next = next;
      rule = rule;
      says_it = spells;
      name = name;
      names = names;
      lacks = lacks;
    }
    text_fault at at_is text next end is = tt

    given_fault : (next : Given) → IsNext (length f.front) f.rest next → (end : End) → GivenFails next IsBad catalog before now end
        → Faults catalog input end
    given_fault (given.Line at None) (at_is, next) end is =
        let P : End → Type 0 = λ e. Faults catalog input e in
        subst P (sym is.0) (record {
          front = f.front;
          rest = f.rest;
          begins = f.begins;
          none = none;
          at_is = at_is;
          line = None;
          next = as_next (length f.front) f.rest None next;
          some = refl;
          is = λ rule none. none;
        })
    given_fault (given.Line at (Some text)) (at_is, next) end is =
        text_fault at at_is text (as_next (length f.front) f.rest (Some text) next) end is
    given_fault given.Pause next end is = absurd is
    given_fault given.End next end is = absurd is

-- the line that stopped a run
pub faults_told : {T : Type 0} (Told : Type 0) (view : View) (IsBad : Rule → ℕ
    → Type 0) (catalog : List StoredSeries) (o left before now : Option (List ℕ)) (pieces pieces' : ℕ) (answer : Result T (LinesStop End))
    → IfErr answer (runs.StopsSo LineDoes (λ held it end was. StopsBy view IsBad catalog now held it end was)
    (IsHeldIfKnown Told view) unknown o left before now pieces pieces')
    → IfSome o (λ input. Faults catalog input (run_end answer))
faults_told {T} Told view IsBad catalog None left before now pieces pieces' answer is = tt
faults_told {T} Told view IsBad catalog (Some input) left before now pieces pieces' (Ok done) is = tt
faults_told {T} Told view IsBad catalog (Some input) left before now pieces pieces' (Err (stop.Fault fault.ReadFault)) is = tt
faults_told {T} Told view IsBad catalog (Some input) left before now pieces pieces' (Err (stop.Fault fault.InputTooLong)) is = tt
faults_told {T} Told view IsBad catalog (Some input) left before now pieces pieces' (Err (stop.Work end)) is =
    given_fault IsBad catalog input is.done.given is.are.first
    (said is.are.first.front is.done.given unknown is.done.text is.done.behind is.are.first.given_are is.done.carries)
    (sent_after is.done.text before) now is.next is.are.next_is end is.why.1

pub no_faults : (catalog : List StoredSeries) (o : Option (List ℕ)) → IfSome o (λ input. Faults catalog input ends.NoMemory)
no_faults catalog None = tt
no_faults catalog (Some input) = tt

-- ---- the answers, whatever the pages are

-- the rules of lines that were done, and what was said of them
record Answered (all : List (Option (List ℕ))) (text : List ℕ) : Type 0 where
  pub swept : List SweptRule
  pub are : SayRules (filter says all) swept
  pub text_is : text ≡ said_of swept

answered_from : (at : ℕ) (parts : List (List ℕ)) (held : Held) (text : List ℕ) (behind : Held)
    → Carries LineDoes held (given_from at parts) text behind → Answered (map text_of parts) text
answered_from at [] held text behind (none, same) = record { swept = []; are = tt; text_is = none }
answered_from at (part ∷ parts) held text behind follows =
    by (text_of part) follows.does (answered_from (at + length part + 1) parts follows.between follows.more behind follows.others)
  where
    by : (line : Option (List ℕ)) → LineDoes held (given.Line at line) follows.first follows.between
        → Answered (map text_of parts) follows.more → Answered (line ∷ map text_of parts) text
    by line (inl (empty, none, same)) rest =
        let R : Option (List ℕ) → Type 0 = λ l. SayRules (filter says (l ∷ map text_of parts)) rest.swept in
        record {
          swept = rest.swept;
          are = subst R (sym empty) rest.are;
          text_is = follows.texts ∙ ap (λ t. t ++ follows.more) none ∙ rest.text_is;
        }
    by line (inr does) rest =
        let one : SweptRule = record { rule = does.rule; clears = does.clears; used = does.used } in
        let R : Bool → Type 0 = λ v. SayRules (cond v (line ∷ filter says (map text_of parts)) (filter says (map text_of parts)))
        (one ∷ rest.swept) in
        record {
          swept = one ∷ rest.swept;
          are = subst R (sym (line_says line does.rule does.says_it)) (does.says_it, rest.are);
          text_is = follows.texts ∙ ap (λ t. t ++ follows.more) does.said ∙ ap (λ t. swept_text does.clears does.used ++ t) rest.text_is;
        }

answered_lines : (front : List ℕ) (held : Held) (text : List ℕ) (behind : Held) → Carries LineDoes held (given_lines front) text behind
    → Answered (lines front) text
unfolding lines given_lines
answered_lines front held text behind carries = answered_from 0 (split_lines front) held text behind carries

-- these lines, with pauses
answered : (front : List ℕ) (done : List Given) (held : Held) (text : List ℕ) (behind : Held) → unpaused done ≡ given_lines front
    → Carries LineDoes held done text behind → Answered (lines front) text
answered front done held text behind are carries =
    let P : List Given → Type 0 = λ l. Carries LineDoes held l text behind in
    answered_lines front held text behind
    (subst P are (carries_unpaused LineDoes (λ state none behind is. is) done held text behind carries))

module _ (input : List ℕ) (before now : Option (List ℕ)) where
  -- all lines
  answers_all : (Told : Type 0) (at : View) (pieces pieces' : ℕ)
      → runs.Runs LineDoes unknown (runs.AreAll pieces pieces') (IsHeldIfKnown Told at) (Some input) before now
      → AnswersAll input before now
  answers_all Told at pieces pieces' all =
      let done = all.done in
      let P : List Given → Type 0 = λ l. Carries LineDoes unknown l done.text done.behind in
      let are = all.are in
      let both = carries_both LineDoes are.earlier (given.End ∷ []) unknown done.text done.behind (subst P are.given_are done.carries) in
      let none = end_none both.between both.more done.behind both.others in
      let a = answered input are.earlier unknown both.begin both.between are.lines_are both.begins in
      let same = both.texts ∙ ap (λ t. both.begin ++ t) none.0 ∙ append-nil both.begin ∙ a.text_is in
      record { swept = a.swept; are = a.are; sent = all.sent ∙ ap (λ t. sent_after t before) same }

  -- some first lines
  abbrev first_swept : (done : Done LineDoes unknown) → AreFirst input done.given
      → (first : FirstSwept input) × (done.text ≡ said_of first.swept)
  first_swept done first =
      let a = answered first.front done.given unknown done.text done.behind first.given_are done.carries in (
        record { front = first.front; rest = first.rest; begins = first.begins; swept = a.swept; are = a.are },
        a.text_is,
      )

  -- what was sent behind their answers
  abbrev answers_first : (first : FirstSwept input) (text : List ℕ) → text ≡ said_of first.swept → now ≡ sent_after text before
      → AnswersFirst input before now
  answers_first first text is sent = record { first = first; sent = sent ∙ ap (λ t. sent_after t before) is }

  -- a line stopped the run
  module _ (IsBad : Rule → ℕ → Type 0) (catalog : List StoredSeries) (left : Option (List ℕ)) (first : FirstSwept input) (text : List ℕ)
      (is : text ≡ said_of first.swept) where
    answers_line : (at : ℕ) → at ≡ length first.front → (line : List ℕ) → NextLine (length first.front) first.rest (Some line) → (end : End)
        → LineFails line at IsBad catalog (sent_after text before) now end → AnswersSo IsBad input left before now end
    answers_line at at_is line next ends.NoMemory unsent = answers_first first text is unsent
    answers_line at at_is line next ends.SendFault (rule, spells, (clears, used, part)) =
        let P : List ℕ → Type 0 = λ t. PartSent (swept_text clears used) (sent_after t before) now in
        record {
          first = first;
          rule = rule;
          next = record { line = Some line; next = next; says_it = spells };
          clears = clears;
          used = used;
          part = subst P is part;
        }
    answers_line at at_is line next ends.DiskFault (rule, spells, unsent) = answers_first first text is unsent
    answers_line at at_is line next (ends.DamagedPage page) (rule, spells, (bad, unsent)) = record {
      answered = answers_first first text is unsent;
      rule = rule;
      next = record { line = Some line; next = next; says_it = spells };
      so = bad;
    }
    answers_line at at_is line next (ends.BadInput place) bad =
        record { answered = answers_first first text is bad.unsent; at_is = bad.place_is ∙ at_is }
    answers_line at at_is line next (ends.NoSeries place) (rule, spells, (place_is, lacks, unsent)) =
        record { answered = answers_first first text is unsent; at_is = place_is ∙ at_is }
    answers_line at at_is line next end (rule, spells, fails) = absurd fails

    answers_given : (next : Given) → IsNext (length first.front) first.rest next → (end : End)
        → GivenFails next IsBad catalog (sent_after text before) now end → AnswersSo IsBad input left before now end
    answers_given (given.Line at None) (at_is, next) end fails =
        let P : End → Type 0 = λ e. AnswersSo IsBad input left before now e in
        subst P (sym fails.0) (record { answered = answers_first first text is fails.1; at_is = at_is })
    answers_given (given.Line at (Some line)) (at_is, next) end fails =
        answers_line at at_is line (as_next IsBad catalog input (length first.front) first.rest (Some line) next) end fails
    answers_given given.Pause next end fails = absurd fails
    answers_given given.End next end fails = absurd fails

behind_so : (rest : List ℕ) (left : Option (List ℕ)) → IfSome left (runs.Unended rest) → IfSome left (Unended rest)
behind_so rest None is = tt
behind_so rest (Some l) is = record { partial = is.partial; taken = is.taken; unended = is.unended }

-- how a run ended
pub answers_told : {T : Type 0} (Told : Type 0) (view : View) (IsBad : Rule → ℕ
    → Type 0) (catalog : List StoredSeries) (o left before now : Option (List ℕ)) (pieces pieces' : ℕ) (answer : Result T (LinesStop End))
    → OnOk answer (runs.Runs LineDoes unknown (runs.AreAll pieces pieces') (IsHeldIfKnown Told view) o before now)
    → IfErr answer (runs.StopsSo LineDoes (λ held it end was. StopsBy view IsBad catalog now held it end was)
    (IsHeldIfKnown Told view) unknown o left before now pieces pieces')
    → IfSome o (λ input. AnswersSo IsBad input left before now (run_end answer))
answers_told {T} Told view IsBad catalog None left before now pieces pieces' answer all is = tt
answers_told {T} Told view IsBad catalog (Some input) left before now pieces pieces'
    (Ok done) all is = answers_all input before now Told view pieces pieces' all
answers_told {T} Told view IsBad catalog (Some input) left before now pieces pieces' (Err (stop.Fault fault.ReadFault)) all is =
    let f = first_swept input before now is.done is.are.first in
    record {
      answered = answers_first input before now f.0 is.done.text f.1 is.sent;
      whole = is.are.whole;
      behind = behind_so is.are.first.rest left is.are.behind;
    }
answers_told {T} Told view IsBad catalog (Some input) left before now pieces pieces' (Err (stop.Fault fault.InputTooLong)) all is =
    let f = first_swept input before now is.done is.are.first in
    record {
      answered = answers_first input before now f.0 is.done.text f.1 is.sent;
      unended = is.are.unended;
      past = is.are.past;
    }
answers_told {T} Told view IsBad catalog (Some input) left before now pieces pieces' (Err (stop.Work end)) all is =
    let f = first_swept input before now is.done is.are.first in
    answers_given input before now IsBad catalog left f.0 is.done.text f.1 is.next is.are.next_is end is.why.1

-- before the first line
pub no_answers : (before : Option (List ℕ)) (o : Option (List ℕ)) → IfSome o (λ input. AnswersFirst input before before)
no_answers before None = tt
no_answers before (Some input) = first_unanswered input before before refl
