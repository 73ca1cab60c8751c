-- How far the lines of an input are swept and answered. Where a record speaks of a book that is there, it is one for which
-- pages stand, or one that a disk holds, or to which an image recovers.
use Rattle.std.specs.Prelude.{◌≡◌, ℕ, ◌+◌, ◌-◌, ◌^◌, ◌<◌, ◌≤◌, ◌⊎◌, List, [], ◌∷◌, length, take, Option, IfSome, IsTrue, ⊤}
use Rattle.block_disk.specs.Streams.{sent_after, PartSent}
use Rattle.chart_service.specs.Serving.{told}
use Rattle.chart_world.specs.Fronts.{says, BeginsWith, IsWhole}
use Rattle.chart_world.specs.Lines.{NoLineFeed}
use Rattle.run_ends.specs.declared.ending.End.{End}
use Rattle.run_ends.specs.declared.ending.End.TheVariants.{Done, NoMemory, ReadFault, SendFault, DiskFault, BadInput, InputTooLong}
use Rattle.run_ends.specs.declared.ending.End.TheVariants.{NoSeries}
use Rattle.series_book.specs.declared.one_series.Series.{Series}
use Rattle.series_book.specs.EditLists.{after_edits}
use Rattle.retention.specs.declared.rule.Rule.{Rule}
use Rattle.retention.specs.Drops.{book_swept}
use Rattle.retention.specs.Sweeps.{Names, NamesNone, sweeps}
use Rattle.series_catalog.specs.declared.stored_series.StoredSeries.{StoredSeries}
use Rattle.series_store.specs.Asking.{LacksName}
use Rattle.store_commands.specs.InputLines.{FirstLine, NextLine, Unended}
use Rattle.retain_command.specs.Answers.{AreRules, answer, answers, book_behind}
use Rattle.retain_command.specs.Rules.{Says, SaysNone}

-- ---- the lines

-- some first lines of the input are rules, and this stands behind them
pub record FirstRules (total : ℕ) (book : List Series) (input : List ℕ) : Type 0 where
  pub front : List ℕ
  pub rest : List ℕ
  pub begins : BeginsWith input front rest
  pub early : length front ≤ 2 ^ 32
  pub rules : List Rule
  pub are : AreRules total book (told front) rules

-- the book that they leave, and the answers to them
abbrev pub left_by : (total : ℕ) (book : List Series) (input : List ℕ) → FirstRules total book input → List Series
left_by total book input first = book_behind total book first.rules

abbrev pub said_to : (total : ℕ) (book : List Series) (input : List ℕ) → FirstRules total book input → List ℕ
said_to total book input first = answers total book first.rules

-- it is this rule, and a series that it names is in the book
pub record NextRule (given : ℕ) (book : List Series) (rest : List ℕ) (rule : Rule) : Type 0 where
  pub line : Option (List ℕ)
  pub next : NextLine given rest line
  pub says_it : Says line rule
  pub there : NamesNone book rule → ⊥

-- ---- what was done and sent

-- the answers to some first lines were sent
pub record SweepsLines (total : ℕ) (book : List Series) (input : List ℕ) (before now : Option (List ℕ)) : Type 0 where
  pub first : FirstRules total book input
  pub sent : now ≡ sent_after (said_to total book input first) before

module _ (IsThere : List Series → Type 0) (total : ℕ) (book : List Series) (input : List ℕ) (before now : Option (List ℕ)) where
  -- all lines are rules, all of them were swept, and their answers were sent
  pub record SweepsAll : Type 0 where
    pub rules : List Rule
    pub are : AreRules total book (told input) rules
    pub there : IsThere (book_behind total book rules)
    pub sent : now ≡ sent_after (answers total book rules) before

  -- some first lines were swept and answered, and no other
  pub record SweepsFirst : Type 0 where
    pub first : FirstRules total book input
    pub there : IsThere (left_by total book input first)
    pub sent : now ≡ sent_after (said_to total book input first) before

  -- they are those whose line feeds were among the bytes taken, where the bytes left are told
  pub record SweepsTaken (left : Option (List ℕ)) : Type 0 where
    pub swept : SweepsFirst
    pub whole : IsWhole swept.first.front
    pub behind : IfSome left (Unended swept.first.rest)

  -- they are those that ended among the first 2^32 bytes, and there is a byte more
  pub record SweepsWithin : Type 0 where
    pub swept : SweepsFirst
    pub unended : NoLineFeed (take (2 ^ 32 - length swept.first.front) swept.first.rest)
    pub past : 2 ^ 32 < length input

  -- the line behind them begins at this offset, isn't empty and says no rule
  pub record SweepsToBad (at : ℕ) : Type 0 where
    pub swept : SweepsFirst
    pub line : Option (List ℕ)
    pub next : NextLine (length swept.first.front) swept.first.rest line
    pub some : IsTrue (says line)
    pub none : SaysNone line
    pub at_is : at ≡ length swept.first.front

  -- the line behind them begins at this offset, and is a rule that names a series which isn't in the book
  pub record SweepsToUnknown (at : ℕ) : Type 0 where
    pub swept : SweepsFirst
    pub line : Option (List ℕ)
    pub next : NextLine (length swept.first.front) swept.first.rest line
    pub rule : Rule
    pub says_it : Says line rule
    pub unknown : NamesNone (left_by total book input swept.first) rule
    pub at_is : at ≡ length swept.first.front

  -- some first lines were swept and answered, and the one behind them was swept; a part of its answer was sent
  pub record SweepsPart : Type 0 where
    pub first : FirstRules total book input
    pub rule : Rule
    pub next : NextRule (length first.front) (left_by total book input first) first.rest rule
    pub there : IsThere (book_swept total (left_by total book input first) rule)
    pub between : Option (List ℕ)
    pub sent : between ≡ sent_after (said_to total book input first) before
    pub part : PartSent (answer total (left_by total book input first) rule) between now

  -- some first lines were swept and answered, and of the line behind them some first clears were done
  pub record SweepsAmid : Type 0 where
    pub first : FirstRules total book input
    pub rule : Rule
    pub next : NextRule (length first.front) (left_by total book input first) first.rest rule
    pub done : ℕ
    pub few : done ≤ length (sweeps total (left_by total book input first) rule)
    pub there : IsThere (after_edits total (left_by total book input first)
        (take done (sweeps total (left_by total book input first) rule)))
    pub sent : now ≡ sent_after (said_to total book input first) before

  -- the one or the other
  abbrev pub SweepsSome : Type 0
  SweepsSome = SweepsFirst ⊎ SweepsAmid

-- what was done and what was sent, by how a run ended that sweeps this book
abbrev pub EndsSo : (List Series → Type 0) → ℕ → List Series → List ℕ → Option (List ℕ) → Option (List ℕ) → Option (List ℕ) → End → Type 0
EndsSo IsThere total book input left before now Done = SweepsAll IsThere total book input before now
EndsSo IsThere total book input left before now NoMemory = SweepsSome IsThere total book input before now
EndsSo IsThere total book input left before now ReadFault = SweepsTaken IsThere total book input before now left
EndsSo IsThere total book input left before now SendFault = SweepsPart IsThere total book input before now
EndsSo IsThere total book input left before now DiskFault = SweepsLines total book input before now
EndsSo IsThere total book input left before now (BadInput at) = SweepsToBad IsThere total book input before now at
EndsSo IsThere total book input left before now InputTooLong = SweepsWithin IsThere total book input before now
EndsSo IsThere total book input left before now (NoSeries at) = SweepsToUnknown IsThere total book input before now at
EndsSo IsThere total book input left before now end = ⊥

-- ---- costs

-- how many clears rules make, each swept over the book that those before it left
abbrev pub clears_of : ℕ → List Series → List Rule → ℕ
clears_of total book [] = 0
clears_of total book (rule ∷ rules) = length (sweeps total book rule) + clears_of total (book_swept total book rule) rules

-- the line behind some first ones is a rule that makes so many clears
pub record ClearsNext (given : ℕ) (total : ℕ) (book : List Series) (rest : List ℕ) (clears : ℕ) : Type 0 where
  pub line : Option (List ℕ)
  pub next : NextLine given rest line
  pub rule : Rule
  pub says_it : Says line rule
  pub clears_are : clears ≡ length (sweeps total book rule)

-- Some first lines were swept, and maybe some clears of the one behind them were made. So many rules and their clears cost this.
pub record SweepsFew (IsCost : ℕ → ℕ → Type 0) (total : ℕ) (book : List Series) (input : List ℕ) : Type 0 where
  pub first : FirstRules total book input
  pub more : ℕ
  pub next : (more ≡ 0) ⊎ ClearsNext (length first.front) total (left_by total book input first) first.rest more
  pub cost : IsCost (length first.rules + 1) (clears_of total book first.rules + more)

-- ---- whatever the pages are

-- the line at this place is a rule that names a series which a catalog hasn't
pub record LacksAt (IsLacking : List ℕ → Type 0) (input : List ℕ) (at : ℕ) : Type 0 where
  pub front : List ℕ
  pub rest : List ℕ
  pub begins : BeginsWith input front rest
  pub at_is : at ≡ length front
  pub line : Option (List ℕ)
  pub next : NextLine (length front) rest line
  pub rule : Rule
  pub says_it : Says line rule
  pub name : List ℕ
  pub names : Names rule name
  pub lacks : IsLacking name

-- the first line that is no rule is at this place, or the catalog lacks the series that the line there names, where the end says so
abbrev pub Faults : List StoredSeries → List ℕ → End → Type 0
Faults catalog input (BadInput at) = FirstLine SaysNone input at
Faults catalog input (NoSeries at) = LacksAt (LacksName catalog) input at
Faults catalog input end = ⊤

-- ---- crashes

-- Of the next line some first clears were done, and all of them once a byte of its answer was sent.
pub record AnswersNext (IsThere : List Series → Type 0) (total given : ℕ) (book : List Series) (rest : List ℕ)
    (from sent : ℕ) : Type 0 where
  pub rule : Rule
  pub next : NextRule given book rest rule
  pub done : ℕ
  pub few : done ≤ length (sweeps total book rule)
  pub there : IsThere (after_edits total book (take done (sweeps total book rule)))
  pub low : from ≤ sent
  pub high : sent ≤ from + length (answer total book rule)
  pub all : from < sent → done ≡ length (sweeps total book rule)

-- Some first lines were swept, and their answers were sent, after so many bytes, and no byte more; or the next line is on
-- its way. So the clears of each line whose answer was sent whole are done, and no others but some first ones of the next.
pub record IsAhead (IsThere : List Series → Type 0) (total : ℕ) (book : List Series) (input : List ℕ) (from sent : ℕ) : Type 0 where
  pub first : FirstRules total book input
  pub state : (IsThere (left_by total book input first) × (sent ≡ from + length (said_to total book input first)))
      ⊎ AnswersNext IsThere total (length first.front) (left_by total book input first) first.rest
      (from + length (said_to total book input first)) sent
