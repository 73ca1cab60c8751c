-- The page of `serve`: the frames that answer the lines of the input over the store's book are sent.
use Rattle.std.specs.Prelude.{ℕ, ◌≤◌, ◌^◌, List, length}
use Rattle.block_disk.specs.Counts.{HasRisen}
use Rattle.block_disk.specs.View.{View}
use Rattle.disk_store.specs.Held.{HoldsBook}
use Rattle.gate_pages.specs.Journal.{page_count}
use Rattle.run_ends.specs.declared.ending.End.{End}
use Rattle.run_ends.specs.declared.ending.End.TheVariants.{Done, NoMemory, ReadFault, SendFault, DiskFault, DamagedBlock, DamagedPage}
use Rattle.run_ends.specs.declared.ending.End.TheVariants.{InputTooLong, TooSmall}
use Rattle.series_book.specs.declared.one_series.Series.{Series}
use Rattle.stored_book.specs.Damage.{IsBadForRequest}
use Rattle.chart_program.specs.Blamed.{IsBlamed}
use Rattle.chart_program.specs.Course.{AtEachMoment, Course, FoundDamaged, FoundPage, HasFewBlocks, HeldNoBook, IsDoneOrCut, IsLonger}
use Rattle.chart_program.specs.Course.{IsShort}
use Rattle.chart_program.specs.Course.{OfInput, OverStore, Told, ToldLeft}
use Rattle.chart_program.specs.LineAnswers.{AreSpellings, NoneIsPassed}
use Rattle.chart_program.specs.Served.{AnswersAll, AnswersFront, AnswersLines, AnswersSome, AnswersTaken, AnswersWithin, LeavesBooks}
use Rattle.chart_program.specs.Served.{ReadsServing, Says, Spelled, SyncsServing}

-- What a command did and sent that says so to lines, by how it ended: with the book that the disk holds at first. At a fault of
-- the disk what that holds is said by the moments.
abbrev pub ServeDoes : Says → Course → End → Type 0
ServeDoes IsText c Done = IsShort c × Told c (AnswersAll IsText)
ServeDoes IsText c NoMemory = Told c (AnswersSome IsText)
ServeDoes IsText c ReadFault = ToldLeft c (AnswersTaken IsText)
ServeDoes IsText c SendFault = Told c (AnswersFront IsText)
ServeDoes IsText c DiskFault = Told c (λ count old new. AnswersLines IsText count old)
ServeDoes IsText c (DamagedBlock block) = FoundDamaged c block × OfInput c (λ input. HeldNoBook c)
ServeDoes IsText c (DamagedPage page) = FoundPage IsBadForRequest c c.new page × OfInput c (λ input. HeldNoBook c)
ServeDoes IsText c InputTooLong = IsLonger c × Told c (AnswersWithin IsText)
ServeDoes IsText c (TooSmall blocks) = HasFewBlocks c blocks
ServeDoes IsText c end = ⊥

-- the lines are no more than it takes, the disk holds a book, and no call of the disk failed
pub record AreLines (old new : View) (input : List ℕ) : Type 0 where
  pub short : length input ≤ 2 ^ 32
  pub total : ℕ
  pub book : List Series
  pub holds : HoldsBook (page_count old.size) total book old
  pub whole : HasRisen old.faults new.faults → ⊥

-- What is so however a command ended that says so to lines. Blocks are read by the opening and the lines alone, and so the disk
-- is synced.
pub record ServesLines (IsText : Says) (c : Course) (end : End) : Type 0 where
  pub store : OverStore c end
  pub crash : AtEachMoment c (LeavesBooks IsText)
  pub reads : OfInput c (ReadsServing c.old c.new)
  pub syncs : OfInput c (SyncsServing c.old c.new)
  pub good : OfInput c (λ input. AreLines c.old c.new input → IsDoneOrCut end)

-- The spellings of the frames are sent. Whatever the disk holds, no line was passed over where the command was done, and a page is
-- called damaged by the line behind the answered ones.
abbrev pub OfServe : Course → End → Type 0
OfServe c end = ServeDoes Spelled c end × ServesLines Spelled c end × NoneIsPassed AreSpellings c end × IsBlamed AreSpellings c end
