-- What is done of one line, and what calls move. Private contracts are stated by these words.
use Rattle.std.specs.Prelude.{◌≡◌, ℕ, ◌+◌, ◌*◌, ◌<◌, ◌≤◌, ◌⊎◌, List, [], length, take, Option, Some, Result, IfErr, OnOk, ⊤}
use Rattle.block_disk.specs.Counts.{HasRisen}
use Rattle.block_disk.specs.Streams.{sent_after, PartSent}
use Rattle.block_disk.specs.View.{Image, View, sent_now}
use Rattle.gate_pages.specs.Pages.{GoesOn}
use Rattle.gate_pages.specs.declared.pages.Pages.{Ghosts}
use Rattle.line_runs.specs.Moments.{Through}
use Rattle.run_ends.specs.declared.ending.End.{End}
use Rattle.run_ends.specs.declared.ending.End.TheVariants.{NoMemory, ReadFault, SendFault, DiskFault, DamagedPage, BadInput, InputTooLong}
use Rattle.run_ends.specs.declared.ending.End.TheVariants.{NoSeries}
use Rattle.series_book.specs.declared.one_series.Series.{Series}
use Rattle.series_book.specs.EditLists.{after_edits}
use Rattle.series_catalog.specs.declared.stored_series.StoredSeries.{StoredSeries}
use Rattle.series_store.specs.Shown as shown
use Rattle.series_store.specs.declared.store.Store.{Store}
use Rattle.store_commands.specs.Sides.{Side}
use Rattle.stored_book.specs.Damage.{IsBadForRequest}
use Rattle.stored_book.specs.Standing.{StandsForBook}
use Rattle.retention.specs.Drops.{book_swept}
use Rattle.retention.specs.Sweeping.{IsAfterSome}
use Rattle.retention.specs.Moving.{clear_reads}
use Rattle.retention.specs.Sweeps.{LacksNamed, NamesNone, sweeps}
use Rattle.retention.specs.declared.rule.Rule.{Rule}
use Rattle.retention.specs.declared.sweep_error.SweepError.{SweepError}
use Rattle.retention.specs.declared.sweep_error.SweepError.TheVariants as sweep
use Rattle.retain_command.specs.Answers.{answer, swept_text}
use Rattle.retain_command.specs.Rules.{Spells, SaysNone}

-- what an error of a sweep is for the line at this offset
abbrev pub end_at : ℕ → SweepError → End
end_at at sweep.UnknownSeries = NoSeries at
end_at at sweep.DiskFault = DiskFault
end_at at (sweep.Damaged page) = DamagedPage page
end_at at sweep.NoMemory = NoMemory

-- the text of an answer wasn't sent, or not all of it
abbrev pub TextStops : List ℕ → Option (List ℕ) → Option (List ℕ) → End → Type 0
TextStops text before now NoMemory = now ≡ before
TextStops text before now SendFault = PartSent text before now
TextStops text before now end = ⊥

-- ---- one rule

-- the rule was swept, and its answer was sent
pub record RuleDone (total : ℕ) (book : List Series) (rule : Rule) (image : Image) (before now : Option (List ℕ)) : Type 0 where
  pub there : NamesNone book rule → ⊥
  pub stands : StandsForBook image total (book_swept total book rule)
  pub sent : now ≡ sent_after (answer total book rule) before

-- it was swept, and a part of its answer was sent
pub record RuleCut (total : ℕ) (book : List Series) (rule : Rule) (image : Image) (before now : Option (List ℕ)) : Type 0 where
  pub there : NamesNone book rule → ⊥
  pub stands : StandsForBook image total (book_swept total book rule)
  pub part : PartSent (answer total book rule) before now

-- some first clears of it were done
pub record RuleSome (total : ℕ) (book : List Series) (rule : Rule) (image : Image) (before now : Option (List ℕ)) : Type 0 where
  pub there : NamesNone book rule → ⊥
  pub some : IsAfterSome total book rule image
  pub unsent : now ≡ before

-- its series isn't there
pub record RuleUnknown (total : ℕ) (book : List Series) (rule : Rule) (image : Image) (before now : Option (List ℕ)) : Type 0 where
  pub none : NamesNone book rule
  pub stands : StandsForBook image total book
  pub unsent : now ≡ before

-- why it wasn't answered
abbrev pub RuleStops : ℕ → List Series → Rule → ℕ → Image → Option (List ℕ) → Option (List ℕ) → End → Type 0
RuleStops total book rule at image before now NoMemory = RuleSome total book rule image before now
RuleStops total book rule at image before now SendFault = RuleCut total book rule image before now
RuleStops total book rule at image before now DiskFault = now ≡ before
RuleStops total book rule at image before now (NoSeries place) = (place ≡ at) × RuleUnknown total book rule image before now
RuleStops total book rule at image before now end = ⊥

-- what a crash leaves meanwhile, and how many bytes were sent
pub record RuleMoment (total : ℕ) (book : List Series) (rule : Rule) (from : ℕ) (image : Image) (sent : ℕ) : Type 0 where
  pub there : NamesNone book rule → ⊥
  pub done : ℕ
  pub few : done ≤ length (sweeps total book rule)
  pub stands : StandsForBook image total (after_edits total book (take done (sweeps total book rule)))
  pub low : from ≤ sent
  pub high : sent ≤ from + length (answer total book rule)
  pub all : from < sent → done ≡ length (sweeps total book rule)

-- so many looks and so many clears, with a look before each, cost no more than this
pub record RuleCosts (looks clears : ℕ) (old new : View) : Type 0 where
  pub reads : new.reads ≤ old.reads + clear_reads * (clears + looks)
  pub syncs : new.syncs ≤ old.syncs + 4 * clears
  pub writes : new.writes ≤ old.writes + 87 * clears

-- what a call does that answers a rule
pub record DoesRule {T : Type 0} (total : ℕ) (book : List Series) (rule : Rule) (at : ℕ) (result : Result T End) (old new : View)
    (before now : Option (List ℕ)) : Type 0 where
  pub costs : RuleCosts 1 (length (sweeps total book rule)) old new
  pub done : OnOk result (RuleDone total book rule new.image before now)
  pub stops : IfErr result (RuleStops total book rule at new.image before now)
  pub moments : Through old new (RuleMoment total book rule (sent_now old))

-- ---- one line

-- nothing was done, and nothing was sent
pub record Untouched (total : ℕ) (book : List Series) (image : Image) (before now : Option (List ℕ)) : Type 0 where
  pub stands : StandsForBook image total book
  pub unsent : now ≡ before

-- the line is empty, or a rule that was answered
abbrev pub LineDone : ℕ → List Series → List ℕ → View → View → Option (List ℕ) → Option (List ℕ) → Type 0
LineDone total book text old new before now =
    ((text ≡ []) × Untouched total book new.image before now × RuleCosts 0 0 old new)
    ⊎ ((rule : Rule) × Spells rule text × RuleDone total book rule new.image before now
    × RuleCosts 1 (length (sweeps total book rule)) old new)

-- it isn't empty and says no rule
pub record LineBad (total : ℕ) (book : List Series) (text : List ℕ) (at place : ℕ) (image : Image)
    (before now : Option (List ℕ)) : Type 0 where
  pub place_is : place ≡ at
  pub some : 0 < length text
  pub none : SaysNone (Some text)
  pub stays : Untouched total book image before now

-- it is a rule that wasn't answered for this reason
abbrev pub SpelledStops : ℕ → List Series → List ℕ → ℕ → Image → Option (List ℕ) → Option (List ℕ) → End → Type 0
SpelledStops total book text at image before now end = (rule : Rule) × Spells rule text × RuleStops total book rule at image before now end

abbrev pub LineStops : ℕ → List Series → List ℕ → ℕ → Image → Option (List ℕ) → Option (List ℕ) → End → Type 0
LineStops total book text at image before now NoMemory = Untouched total book image before now
    ⊎ SpelledStops total book text at image before now NoMemory
LineStops total book text at image before now SendFault = SpelledStops total book text at image before now SendFault
LineStops total book text at image before now DiskFault = now ≡ before
LineStops total book text at image before now (BadInput place) = LineBad total book text at place image before now
LineStops total book text at image before now (NoSeries place) = SpelledStops total book text at image before now (NoSeries place)
LineStops total book text at image before now end = ⊥

-- what a crash leaves meanwhile
abbrev pub LineMoment : ℕ → List Series → List ℕ → ℕ → Image → ℕ → Type 0
LineMoment total book text from image sent = (rule : Rule) × Spells rule text × RuleMoment total book rule from image sent

-- so many clears are those of the rule that the line is, or there are none
abbrev pub NextClears : ℕ → List Series → List ℕ → ℕ → Type 0
NextClears total book text clears = (clears ≡ 0) ⊎ ((rule : Rule) × Spells rule text × (clears ≡ length (sweeps total book rule)))

-- they, and a look, cost no more than this
abbrev pub LineCosts : ℕ → List Series → List ℕ → View → View → Type 0
LineCosts total book text old new = (clears : ℕ) × NextClears total book text clears × RuleCosts 1 clears old new

-- what a call does that answers a line
pub record DoesLine {T : Type 0} (total : ℕ) (book : List Series) (text : List ℕ) (at : ℕ) (result : Result T End) (old new : View)
    (before now : Option (List ℕ)) : Type 0 where
  pub done : OnOk result (LineDone total book text old new before now)
  pub most : LineCosts total book text old new
  pub stops : IfErr result (LineStops total book text at new.image before now)
  pub moments : Through old new (LineMoment total book text (sent_now old))

-- ---- the same over a store

module _ {P : Type 0} {g : Ghosts P} {T : Type 0} (sent : P → Option (List ℕ)) where
  abbrev pub DoesRuleOn : Rule → ℕ → Result T End → Store P g → Store P g → ℕ → List Series → Type 0
  DoesRuleOn rule at result old new total book = DoesRule total book rule at result (shown.view old) (shown.view new)
      (sent (shown.pages old)) (sent (shown.pages new))

  abbrev pub DoesLineOn : List ℕ → ℕ → Result T End → Store P g → Store P g → ℕ → List Series → Type 0
  DoesLineOn text at result old new total book = DoesLine total book text at result (shown.view old) (shown.view new)
      (sent (shown.pages old)) (sent (shown.pages new))

-- ---- what is so of a line, whatever the pages are

-- what is said of a sweep was sent, with some two numbers
abbrev pub SaysSwept : Option (List ℕ) → Option (List ℕ) → Type 0
SaysSwept before now = (clears : ℕ) × (used : ℕ) × (now ≡ sent_after (swept_text clears used) before)

-- a part of it was
abbrev pub SaysPart : Option (List ℕ) → Option (List ℕ) → Type 0
SaysPart before now = (clears : ℕ) × (used : ℕ) × PartSent (swept_text clears used) before now

-- the line is empty and nothing was sent, or it is a rule, and what is said of its sweep was
abbrev pub LineSays : List ℕ → Option (List ℕ) → Option (List ℕ) → Type 0
LineSays text before now = ((text ≡ []) × (now ≡ before)) ⊎ ((rule : Rule) × Spells rule text × SaysSwept before now)

-- why a rule wasn't answered, with the catalog behind it; a page that is called damaged is bad for the rule
abbrev pub RuleFails : Rule → ℕ → (Rule → ℕ → Type 0) → List StoredSeries → Option (List ℕ) → Option (List ℕ) → End → Type 0
RuleFails rule at IsBad catalog before now NoMemory = now ≡ before
RuleFails rule at IsBad catalog before now SendFault = SaysPart before now
RuleFails rule at IsBad catalog before now DiskFault = now ≡ before
RuleFails rule at IsBad catalog before now (DamagedPage page) = IsBad rule page × (now ≡ before)
RuleFails rule at IsBad catalog before now (NoSeries place) = (place ≡ at) × LacksNamed catalog rule × (now ≡ before)
RuleFails rule at IsBad catalog before now end = ⊥

-- it isn't empty and says no rule, and nothing was sent
pub record FailsBad (text : List ℕ) (at place : ℕ) (before now : Option (List ℕ)) : Type 0 where
  pub place_is : place ≡ at
  pub some : 0 < length text
  pub none : SaysNone (Some text)
  pub unsent : now ≡ before

-- why a line wasn't answered
abbrev pub LineFails : List ℕ → ℕ → (Rule → ℕ → Type 0) → List StoredSeries → Option (List ℕ) → Option (List ℕ) → End → Type 0
LineFails text at IsBad catalog before now NoMemory = now ≡ before
LineFails text at IsBad catalog before now (BadInput place) = FailsBad text at place before now
LineFails text at IsBad catalog before now end = (rule : Rule) × Spells rule text × RuleFails rule at IsBad catalog before now end

-- ---- what calls move, whatever the pages are

-- no count falls
pub record Goes (old new : Side) : Type 0 where
  pub is_told : old.told → new.told
  pub was_told : new.told → old.told
  pub size : new.view.size ≡ old.view.size
  pub faults : old.view.faults ≤ new.view.faults
  pub goes_on : GoesOn old.under new.under
  pub total_is : new.total ≡ old.total
  pub reads : old.read_faults ≤ new.read_faults
  pub sends : old.send_faults ≤ new.send_faults

-- why lines weren't swept. A page that is called damaged is one of the store's, and is so where reads give what the pages are.
abbrev pub IsCause : End → Side → Side → Type 0
IsCause NoMemory old new = ⊤
IsCause ReadFault old new = HasRisen old.read_faults new.read_faults
IsCause SendFault old new = HasRisen old.send_faults new.send_faults
IsCause DiskFault old new = HasRisen old.view.faults new.view.faults
IsCause (DamagedPage page) old new = (page < old.total) × (new.told → IsBadForRequest new.view.size new.view.image page)
IsCause (BadInput at) old new = ⊤
IsCause InputTooLong old new = ⊤
IsCause (NoSeries at) old new = ⊤
IsCause end old new = ⊥
