-- The page of `retain`: each line of the input is a rule that is swept over the store's book, and it is answered.
use Rattle.std.specs.Prelude.{ℕ, ◌≤◌, ◌^◌, List, length}
use Rattle.block_disk.specs.Counts.{HasRisen}
use Rattle.block_disk.specs.View.{View}
use Rattle.chart_service.specs.Serving.{told}
use Rattle.disk_store.specs.Held.{HoldsBook}
use Rattle.gate_pages.specs.Journal.{page_count}
use Rattle.retain_command.specs.Answered.{AnswersSo}
use Rattle.retain_command.specs.Answers.{AreRules}
use Rattle.retain_command.specs.Retained.{IsAtLine, LeavesSwept, RetainsAll, RetainsLines, RetainsPart, RetainsSome, RetainsTaken}
use Rattle.retain_command.specs.Retained.{RetainsToBad}
use Rattle.retain_command.specs.Retained.{RetainsFew, RetainsToUnknown, RetainsWithin}
use Rattle.retention.specs.Damage.{IsBadForSweep}
use Rattle.retention.specs.declared.rule.Rule.{Rule}
use Rattle.run_ends.specs.declared.ending.End.{End}
use Rattle.run_ends.specs.declared.ending.End.TheVariants.{Done, NoMemory, ReadFault, SendFault, DiskFault, DamagedBlock, DamagedPage}
use Rattle.run_ends.specs.declared.ending.End.TheVariants.{BadInput, InputTooLong, TooSmall, NoSeries}
use Rattle.series_book.specs.declared.one_series.Series.{Series}
use Rattle.stored_book.specs.Damage.{IsBadForRequest}
use Rattle.chart_program.specs.Course.{AtEachMoment, Course, FoundDamaged, FoundPage, HasFewBlocks, HeldNoBook, IsDoneOrCut, IsLonger}
use Rattle.chart_program.specs.Course.{IsShort}
use Rattle.chart_program.specs.Course.{OfInput, OverStore, Told, count}

-- what it did and sent, by how it ended; at a fault of the disk what that holds is said by the moments
abbrev pub RetainDoes : Course → End → Type 0
RetainDoes c Done = IsShort c × Told c RetainsAll
RetainDoes c NoMemory = Told c RetainsSome
RetainDoes c ReadFault = Told c (λ count old new input. RetainsTaken count old new input c.left_now)
RetainDoes c SendFault = Told c RetainsPart
RetainDoes c DiskFault = Told c (λ count old new. RetainsLines count old)
RetainDoes c (DamagedBlock block) = FoundDamaged c block × OfInput c (λ input. HeldNoBook c)
RetainDoes c (DamagedPage page) = FoundPage IsBadForRequest c c.new page × OfInput c (λ input. HeldNoBook c)
RetainDoes c (BadInput at) = Told c (λ count old new input. RetainsToBad count old new input at)
RetainDoes c InputTooLong = IsLonger c × Told c RetainsWithin
RetainDoes c (TooSmall blocks) = HasFewBlocks c blocks
RetainDoes c (NoSeries at) = Told c (λ count old new input. RetainsToUnknown count old new input at)
RetainDoes c end = ⊥

-- The lines are no more than it takes, the disk holds a book, each line that isn't empty is a rule, a series that it names is
-- there, and no call of the disk failed.
pub record AreRetained (old new : View) (input : List ℕ) : Type 0 where
  pub short : length input ≤ 2 ^ 32
  pub total : ℕ
  pub book : List Series
  pub holds : HoldsBook (page_count old.size) total book old
  pub rules : List Rule
  pub are : AreRules total book (told input) rules
  pub whole : HasRisen old.faults new.faults → ⊥

-- The same, and what is so however it ended. Behind an opening each clear is one commit, and comes behind a look. Whatever the
-- disk holds, a line that is told is the first that is no rule, or names a series that the catalog lacks, and each line before it,
-- or every line where the command was done, was answered as a rule that it spells.
pub record OfRetain (c : Course) (end : End) : Type 0 where
  pub does : RetainDoes c end
  pub store : OverStore c end
  pub crash : AtEachMoment c LeavesSwept
  pub costs : OfInput c (RetainsFew (count c) c.old c.new)
  pub line : OfInput c (λ input. IsAtLine (count c) c.new input end)
  pub answered : OfInput c (λ input. AnswersSo (λ rule. FoundPage (IsBadForSweep rule) c c.new) input c.left_now c.sent c.sent_now end)
  pub good : OfInput c (λ input. AreRetained c.old c.new input → IsDoneOrCut end)
