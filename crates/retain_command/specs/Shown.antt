-- The lines of a store's streams, in the words of the store.
use Rattle.std.specs.Prelude.{ℕ, List, IfSome}
use Rattle.block_disk.specs.View.{sent_now}
use Rattle.block_disk.specs.declared.streams.Streams as streams
use Rattle.chart_service.specs.Moments.{Since}
use Rattle.gate_pages.specs.declared.pages.Pages.{Ghosts}
use Rattle.run_ends.specs.declared.ending.End.{End}
use Rattle.retention.specs.Damage.{IsBadForSweep}
use Rattle.retention.specs.declared.rule.Rule.{Rule}
use Rattle.series_book.specs.declared.one_series.Series.{Series}
use Rattle.series_store.specs.Shown as shown
use Rattle.series_store.specs.declared.store.Store.{Store}
use Rattle.stored_book.specs.Standing.{StandsForBook}
use Rattle.retain_command.specs.Answered.{AnswersSo}
use Rattle.retain_command.specs.Doing.{RuleCosts}
use Rattle.retain_command.specs.Sweeping.{EndsSo, Faults, IsAhead, SweepsFew}

module _ {P : Type 0} {g : Ghosts P} (beside : streams.Ghosts P) (total : ℕ) (book : List Series) (old new : Store P g) where
  -- the pages stand for the book
  abbrev Stands : List Series → Type 0
  Stands after = StandsForBook (shown.image new) total after

  -- what was done and sent, by how the run ended
  abbrev pub EndsOn : End → Type 0
  EndsOn end = IfSome (beside.left (shown.pages old))
      (λ input. EndsSo Stands total book input (beside.left (shown.pages new)) (beside.sent (shown.pages old))
      (beside.sent (shown.pages new)) end)

  -- at each moment a crash leaves such a book
  abbrev pub LastsFor : Type 0
  LastsFor = IfSome (beside.left (shown.pages old)) (λ input. IfSome (beside.sent (shown.pages old)) (λ bytes.
      Since (shown.view old) (shown.view new) (λ image sent. IsAhead (λ after. StandsForBook image total after) total book input
      (sent_now (shown.view old)) sent)))

  -- what the sweeps cost
  abbrev pub CostsOn : Type 0
  CostsOn = IfSome (beside.left (shown.pages old)) (λ input. SweepsFew
      (λ rules clears. RuleCosts rules clears (shown.view old) (shown.view new)) total book input)

-- the page is bad for a sweep by the rule, where reads give what the pages are
abbrev pub IsBadOn : {P : Type 0} {g : Ghosts P} → Store P g → Rule → ℕ → Type 0
IsBadOn {P} {g} it rule page = shown.IsTold it → IsBadForSweep rule (shown.view it).size (shown.image it) page

module _ {P : Type 0} {g : Ghosts P} (beside : streams.Ghosts P) (old new : Store P g) where
  -- whatever the pages are: the first line that is no rule is at this place, where the end tells so, or there is a line of which
  -- the catalog lacks the series
  abbrev pub IsAtFault : End → Type 0
  IsAtFault end = IfSome (beside.left (shown.pages old)) (λ input. Faults (shown.catalog new) input end)

  -- and the lines were answered so
  abbrev pub IsAnsweredSo : End → Type 0
  IsAnsweredSo end = IfSome (beside.left (shown.pages old))
      (λ input. AnswersSo (IsBadOn new) input (beside.left (shown.pages new)) (beside.sent (shown.pages old))
      (beside.sent (shown.pages new)) end)
