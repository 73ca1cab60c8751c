-- What a line of `retain` does: the page of the command.
use Rattle.std.specs.Prelude.{◌≡◌, ℕ, ◌+◌, ◌*◌, ◌≤◌, ◌⊎◌, Bool, true, List, [], length, Option, None, Some}
use Rattle.block_disk.specs.View.{Image, View}
use Rattle.series_book.specs.declared.one_series.Series.{Series}
use Rattle.retention.specs.Drops.{book_swept}
use Rattle.retention.specs.Moving.{clear_reads}
use Rattle.retention.specs.Sweeps.{NamesNone, sweeps}
use Rattle.retention.specs.declared.rule.Rule.{Rule}
use Rattle.retain_command.specs.Answers.{answer, swept_text}
use Rattle.line_runs.specs.Given as given
use Rattle.run_ends.specs.declared.ending.End.{End}
use Rattle.run_ends.specs.declared.ending.End.TheVariants.{BadInput, DiskFault}
use Rattle.series_catalog.specs.declared.stored_series.StoredSeries.{StoredSeries}
use Rattle.stored_book.specs.Standing.{StandsForBook}
use Rattle.retain_command.specs.Doing.{LineFails, LineMoment, LineStops, NextClears, Untouched}
use Rattle.retain_command.specs.Rules.{Says}

-- how much was read, synced and written before, how many rules were swept since, and how many clears they made
pub record Counted : Type 0 where
  pub reads : ℕ
  pub syncs : ℕ
  pub writes : ℕ
  pub rules : ℕ
  pub clears : ℕ

-- and a rule more, which makes so many
abbrev pub counted_more : Counted → ℕ → Counted
counted_more counted clears = record {
  reads = counted.reads;
  syncs = counted.syncs;
  writes = counted.writes;
  rules = counted.rules + 1;
  clears = counted.clears + clears;
}

-- no more was read, synced and written than these cost
pub record Costs (counted : Counted) (at : View) : Type 0 where
  pub reads : at.reads ≤ counted.reads + clear_reads * (counted.clears + counted.rules)
  pub syncs : at.syncs ≤ counted.syncs + 4 * counted.clears
  pub writes : at.writes ≤ counted.writes + 87 * counted.clears

-- the book that the pages stand for, where it is known that they stand for one, and what was done
pub record Held : Type 0 where
  pub known : Bool
  pub total : ℕ
  pub book : List Series
  pub counted : Counted

-- the pages stand for it, and no more was done
abbrev pub IsHeld : Type 0 → View → Held → Type 0
IsHeld told at held = told × StandsForBook at.image held.total held.book × Costs held.counted at

-- so it is where that is known
abbrev pub IsHeldIfKnown : Type 0 → View → Held → Type 0
IsHeldIfKnown told at held = held.known ≡ true → IsHeld told at held

-- the book behind the sweep of a rule
abbrev pub held_swept : Held → Rule → Held
held_swept held rule = record {
  known = held.known;
  total = held.total;
  book = book_swept held.total held.book rule;
  counted = counted_more held.counted (length (sweeps held.total held.book rule));
}

-- it is a rule, whose series is there: it is swept, and its answer is sent
pub record RuleDoes (held : Held) (line : Option (List ℕ)) (text : List ℕ) (behind : Held) : Type 0 where
  pub rule : Rule
  pub says_it : Says line rule
  pub clears : ℕ
  pub used : ℕ
  pub said : text ≡ swept_text clears used
  pub there : held.known ≡ true → NamesNone held.book rule → ⊥
  pub text_is : held.known ≡ true → text ≡ answer held.total held.book rule
  pub behind_is : behind ≡ held_swept held rule

-- a line is empty, or such a rule; at a pause and at the end nothing is done
abbrev pub LineDoes : Held → given.Given → List ℕ → Held → Type 0
LineDoes held (given.Line at line) text behind = ((line ≡ Some []) × (text ≡ []) × (behind ≡ held)) ⊎ RuleDoes held line text behind
LineDoes held given.Pause text behind = (text ≡ []) × (behind ≡ held)
LineDoes held given.End text behind = (text ≡ []) × (behind ≡ held)

-- why it stopped the run
abbrev pub LineStopsSo : Held → given.Given → Image → Option (List ℕ) → Option (List ℕ) → End → Type 0
LineStopsSo held (given.Line at None) image before now end = (end ≡ BadInput at) × Untouched held.total held.book image before now
LineStopsSo held (given.Line at (Some text)) image before now end = LineStops held.total held.book text at image before now end
LineStopsSo held given.Pause image before now end = ⊥
LineStopsSo held given.End image before now end = ⊥

-- so many clears the rule makes that is given
abbrev pub NextGiven : Held → given.Given → ℕ → Type 0
NextGiven held (given.Line at (Some text)) clears = NextClears held.total held.book text clears
NextGiven held it clears = clears ≡ 0

-- the same, and what was done until then
pub record LineStopped (held : Held) (it : given.Given) (at : View) (before now : Option (List ℕ)) (end : End) : Type 0 where
  pub why : LineStopsSo held it at.image before now end
  pub more : ℕ
  pub next : NextGiven held it more
  pub costs : Costs (counted_more held.counted more) at

-- the same whatever the pages are
abbrev pub GivenFails : given.Given → (Rule → ℕ → Type 0) → List StoredSeries → Option (List ℕ) → Option (List ℕ) → End → Type 0
GivenFails (given.Line at None) IsBad catalog before now end = (end ≡ BadInput at) × (now ≡ before)
GivenFails (given.Line at (Some text)) IsBad catalog before now end = LineFails text at IsBad catalog before now end
GivenFails given.Pause IsBad catalog before now end = ⊥
GivenFails given.End IsBad catalog before now end = ⊥

-- after it no line may be given
abbrev pub Harms : End → Type 0
Harms end = end ≡ DiskFault

-- what a crash leaves meanwhile
abbrev pub LineLeaves : Held → given.Given → ℕ → Image → ℕ → Type 0
LineLeaves held (given.Line at None) from image sent = ⊥
LineLeaves held (given.Line at (Some text)) from image sent = LineMoment held.total held.book text from image sent
LineLeaves held given.Pause from image sent = ⊥
LineLeaves held given.End from image sent = ⊥
