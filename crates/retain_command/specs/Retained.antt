-- How `retain` ends over the store of a disk.
use Rattle.std.specs.Prelude.{◌≡◌, ◌≢◌, ℕ, ◌+◌, ◌*◌, ◌<◌, List, Option, IfSome, ⊤}
use Rattle.block_disk.specs.Counts.{HasRisen}
use Rattle.block_disk.specs.View.{Honest, View, sent_now}
use Rattle.chart_service.specs.Moments.{Since}
use Rattle.gate_pages.specs.Journal.{page_count}
use Rattle.gate_pages.specs.Pages.{GoesOn}
use Rattle.stored_book.specs.Damage.{IsBadForRequest}
use Rattle.stored_book.specs.Standing.{RecoversTo}
use Rattle.store_commands.specs.Books.{HoldsAgain, OfBook, Holds}
use Rattle.store_commands.specs.Damaged.{IsDamagedAtFirst, IsDamagedLater}
use Rattle.store_commands.specs.InputLines.{FirstLine}
use Rattle.store_commands.specs.Lacking.{LacksRecord}
use Rattle.store_commands.specs.Spending.{Spends}
use Rattle.store_commands.specs.Traffic.{IsLong, Traffic, WasRead}
use Rattle.run_ends.specs.Statuses.{block_of}
use Rattle.run_ends.specs.declared.ending.End.{End}
use Rattle.run_ends.specs.declared.ending.End.TheVariants.{Done, NoMemory, ReadFault, SendFault, DiskFault, DamagedBlock, DamagedPage}
use Rattle.run_ends.specs.declared.ending.End.TheVariants.{BadInput, InputTooLong, TooSmall, NoSeries}
use Rattle.retention.specs.Damage.{IsBadForSweep}
use Rattle.retention.specs.Moving.{clear_reads}
use Rattle.retention.specs.declared.rule.Rule.{Rule}
use Rattle.retain_command.specs.Answered.{AnswersSo}
use Rattle.retain_command.specs.Rules.{SaysNone}
use Rattle.retain_command.specs.Sweeping.{EndsSo, IsAhead, LacksAt, SweepsFew, SweepsAll, SweepsLines, SweepsPart, SweepsSome, SweepsTaken}
use Rattle.retain_command.specs.Sweeping.{SweepsToBad, SweepsToUnknown, SweepsWithin}

-- all lines of the input are rules, they were swept, and their answers were sent
abbrev pub RetainsAll : ℕ → View → View → List ℕ → Option (List ℕ) → Option (List ℕ) → Type 0
RetainsAll count old new input before now = OfBook count old (λ total book. SweepsAll (Holds count total new) total book input before now)

-- some first lines were swept and answered, and of the one behind them some first clears may have been done
abbrev pub RetainsSome : ℕ → View → View → List ℕ → Option (List ℕ) → Option (List ℕ) → Type 0
RetainsSome count old new input before now = OfBook count old (λ total book. SweepsSome (Holds count total new) total book input before now)

-- all lines whose line feeds were among the bytes taken were swept and answered, where the bytes left are told
abbrev pub RetainsTaken : ℕ → View → View → List ℕ → Option (List ℕ) → Option (List ℕ) → Option (List ℕ) → Type 0
RetainsTaken count old new input left before now = OfBook count old
    (λ total book. SweepsTaken (Holds count total new) total book input before now left)

-- those that ended among the first 2^32 bytes, and there is a byte more
abbrev pub RetainsWithin : ℕ → View → View → List ℕ → Option (List ℕ) → Option (List ℕ) → Type 0
RetainsWithin count old new input before now = OfBook count old
    (λ total book. SweepsWithin (Holds count total new) total book input before now)

-- some first lines were swept, and their answers were sent, but for a part of the last one's
abbrev pub RetainsPart : ℕ → View → View → List ℕ → Option (List ℕ) → Option (List ℕ) → Type 0
RetainsPart count old new input before now = OfBook count old (λ total book. SweepsPart (Holds count total new) total book input before now)

-- the answers to some first lines were sent, at a fault of the disk: what it holds then is said by the moments of the run
abbrev pub RetainsLines : ℕ → View → List ℕ → Option (List ℕ) → Option (List ℕ) → Type 0
RetainsLines count old input before now = OfBook count old (λ total book. SweepsLines total book input before now)

-- the lines before the first bad one, which begins at this place, were swept and answered
abbrev pub RetainsToBad : ℕ → View → View → List ℕ → ℕ → Option (List ℕ) → Option (List ℕ) → Type 0
RetainsToBad count old new input place before now = OfBook count old
    (λ total book. SweepsToBad (Holds count total new) total book input before now place)

-- those before the first that names a series which isn't in the book
abbrev pub RetainsToUnknown : ℕ → View → View → List ℕ → ℕ → Option (List ℕ) → Option (List ℕ) → Type 0
RetainsToUnknown count old new input place before now = OfBook count old
    (λ total book. SweepsToUnknown (Holds count total new) total book input before now place)

-- At each moment a crash leaves an image that recovers to the book behind the lines whose answers were sent whole by then,
-- and behind some first clears of the next one.
abbrev pub LeavesSwept : ℕ → List ℕ → View → View → Type 0
LeavesSwept count input old new =
    OfBook count old (λ total book. Since old new (λ image sent. IsAhead (λ after. RecoversTo count image total after) total book input
    (sent_now old) sent))

-- behind an opening no more was read, synced and written than a commit and a look for each clear, and a look for each rule
abbrev pub RetainsFew : ℕ → View → View → List ℕ → Type 0
RetainsFew count old new input =
    OfBook count old (λ total book. SweepsFew (λ rules clears. Spends count (clear_reads * (clears + rules)) (4 * clears)
    (87 * clears) old new) total book input)

-- Whatever the disk holds: the line at the place is the first that is no rule, or the catalog on the disk then lacks the series
-- that it names.
abbrev pub IsAtLine : ℕ → View → List ℕ → End → Type 0
IsAtLine count new input (BadInput at) = FirstLine SaysNone input at
IsAtLine count new input (NoSeries at) = LacksAt (LacksRecord count new) input at
IsAtLine count new input end = ⊤

-- the page is bad for a sweep by the rule, as the disk is then
abbrev pub IsBadBy : ℕ → View → Rule → ℕ → Type 0
IsBadBy count new rule page = IsDamagedLater (IsBadForSweep rule) count new (block_of page)

-- Why `retain` ended, whatever the disk holds. Where its store wasn't opened no input was taken and nothing was sent.
abbrev pub IsRetainCause : End → View → View → Traffic → Type 0
IsRetainCause Done old new t = WasRead t.left t.left_now
IsRetainCause NoMemory old new t = ⊤
IsRetainCause ReadFault old new t = HasRisen t.reads t.reads_now
IsRetainCause SendFault old new t = HasRisen t.sends t.sends_now
IsRetainCause DiskFault old new t = HasRisen old.faults new.faults
IsRetainCause (DamagedBlock block) old new t = IsDamagedAtFirst old block × ((t.left_now ≡ t.left) × (t.sent_now ≡ t.sent))
IsRetainCause (DamagedPage page) old new t = IsDamagedLater IsBadForRequest (page_count old.size) new (block_of page)
IsRetainCause (BadInput at) old new t = ⊤
IsRetainCause InputTooLong old new t = IsLong t.left
IsRetainCause (TooSmall blocks) old new t = (blocks ≡ old.size) × (old.size < 128)
IsRetainCause (NoSeries at) old new t = ⊤
IsRetainCause end old new t = ⊥

-- Why `retain` ended, what it did and sent by the book that the disk held, and what the disk holds: but for a fault of the
-- disk, of which the moments tell, a book again. Whatever the disk holds, the lines were answered so.
pub record RetainEnds (old new : View) (t : Traffic) (end : End) : Type 0 where
  pub cause : IsRetainCause end old new t
  pub does : IfSome t.left (λ input. OfBook (page_count old.size) old
      (λ total book. EndsSo (Holds (page_count old.size) total new) total book input t.left_now t.sent t.sent_now end))
  pub holds : end ≢ DiskFault → IfSome t.left (λ input. HoldsAgain (page_count old.size) old new)
  pub crash : IfSome t.left (λ input. IfSome t.sent (λ bytes. LeavesSwept (page_count old.size) input old new))
  pub costs : IfSome t.left (RetainsFew (page_count old.size) old new)
  pub faulty : IfSome t.left (λ input. IsAtLine (page_count old.size) new input end)
  pub answered : IfSome t.left (λ input. AnswersSo (IsBadBy (page_count old.size) new) input t.left_now t.sent t.sent_now end)
  -- reads give what a crash may leave, where they did
  pub honest : Honest old → Honest new
  pub goes_on : GoesOn old new
