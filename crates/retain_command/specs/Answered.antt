-- How the lines of an input were answered, whatever the pages are.
use Rattle.std.specs.Prelude.{◌≡◌, ℕ, ◌-◌, ◌^◌, ◌<◌, List, length, take, Option, IfSome}
use Rattle.block_disk.specs.Streams.{sent_after, PartSent}
use Rattle.chart_service.specs.Serving.{told}
use Rattle.chart_world.specs.Fronts.{BeginsWith, IsWhole}
use Rattle.chart_world.specs.Lines.{NoLineFeed}
use Rattle.retention.specs.declared.rule.Rule.{Rule}
use Rattle.run_ends.specs.declared.ending.End.{End}
use Rattle.run_ends.specs.declared.ending.End.TheVariants.{Done, NoMemory, ReadFault, SendFault, DiskFault, DamagedPage, BadInput}
use Rattle.run_ends.specs.declared.ending.End.TheVariants.{InputTooLong, NoSeries}
use Rattle.store_commands.specs.InputLines.{NextLine, Unended}
use Rattle.retain_command.specs.Answers.{SayRules, SweptRule, said_of, swept_text}
use Rattle.retain_command.specs.Rules.{Says}

-- Some first lines of the input that aren't empty are these rules, and this stands behind them.
pub record FirstSwept (input : List ℕ) : Type 0 where
  pub front : List ℕ
  pub rest : List ℕ
  pub begins : BeginsWith input front rest
  pub swept : List SweptRule
  pub are : SayRules (told front) swept

-- the line behind them is this rule
pub record NextSwept (input : List ℕ) (first : FirstSwept input) (rule : Rule) : Type 0 where
  pub line : Option (List ℕ)
  pub next : NextLine (length first.front) first.rest line
  pub says_it : Says line rule

module _ (input : List ℕ) (before now : Option (List ℕ)) where
  -- Each line that isn't empty is a rule. As many answers as there are such lines were sent, in order, and nothing else was.
  pub record AnswersAll : Type 0 where
    pub swept : List SweptRule
    pub are : SayRules (told input) swept
    pub sent : now ≡ sent_after (said_of swept) before

  -- so for some first lines, and nothing else was sent
  pub record AnswersFirst : Type 0 where
    pub first : FirstSwept input
    pub sent : now ≡ sent_after (said_of first.swept) before

  -- they are those whose line feeds were among the bytes taken, where the bytes left are told
  pub record AnswersTaken (left : Option (List ℕ)) : Type 0 where
    pub answered : AnswersFirst
    pub whole : IsWhole answered.first.front
    pub behind : IfSome left (Unended answered.first.rest)

  -- they are those that ended among the first 2^32 bytes, and there is a byte more
  pub record AnswersWithin : Type 0 where
    pub answered : AnswersFirst
    pub unended : NoLineFeed (take (2 ^ 32 - length answered.first.front) answered.first.rest)
    pub past : 2 ^ 32 < length input

  -- they are those before this offset
  pub record AnswersBefore (at : ℕ) : Type 0 where
    pub answered : AnswersFirst
    pub at_is : at ≡ length answered.first.front

  -- the line behind them is a rule, of which this is so, and it wasn't answered
  pub record AnswersToRule (IsSo : Rule → Type 0) : Type 0 where
    pub answered : AnswersFirst
    pub rule : Rule
    pub next : NextSwept input answered.first rule
    pub so : IsSo rule

  -- the line behind them is a rule, and a part of its answer was sent
  pub record AnswersPart : Type 0 where
    pub first : FirstSwept input
    pub rule : Rule
    pub next : NextSwept input first rule
    pub clears : ℕ
    pub used : ℕ
    pub part : PartSent (swept_text clears used) (sent_after (said_of first.swept) before) now

-- Which lines were answered, by how a run ended. A page that is called damaged is bad for the rule that the next line is. Where a
-- store wasn't opened nothing was sent.
abbrev pub AnswersSo : (Rule → ℕ → Type 0) → List ℕ → Option (List ℕ) → Option (List ℕ) → Option (List ℕ) → End → Type 0
AnswersSo IsBad input left before now Done = AnswersAll input before now
AnswersSo IsBad input left before now NoMemory = AnswersFirst input before now
AnswersSo IsBad input left before now ReadFault = AnswersTaken input before now left
AnswersSo IsBad input left before now SendFault = AnswersPart input before now
AnswersSo IsBad input left before now DiskFault = AnswersFirst input before now
AnswersSo IsBad input left before now (DamagedPage page) = AnswersToRule input before now (λ rule. IsBad rule page)
AnswersSo IsBad input left before now (BadInput at) = AnswersBefore input before now at
AnswersSo IsBad input left before now InputTooLong = AnswersWithin input before now
AnswersSo IsBad input left before now (NoSeries at) = AnswersBefore input before now at
AnswersSo IsBad input left before now end = now ≡ before
