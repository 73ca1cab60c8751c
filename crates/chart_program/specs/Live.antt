-- The page of `live`: each line of the input is answered over the store's book, and behind an edit its pushes are made.
use Rattle.chart_service.specs.Blaming.{Blames}
use Rattle.live_command.specs.Ended.{LeavesLived, LivesAll, LivesLines, LivesPart, LivesSome, LivesTaken, LivesWithin, ReadsLiving}
use Rattle.live_command.specs.Ended.{SyncsLiving}
use Rattle.live_service.specs.Kinds.{MayAnswerLive}
use Rattle.live_service.specs.Pushing.{followed_after}
use Rattle.run_ends.specs.declared.ending.End.{End}
use Rattle.run_ends.specs.declared.ending.End.TheVariants.{Done, NoMemory, ReadFault, SendFault, DiskFault, DamagedBlock, DamagedPage}
use Rattle.run_ends.specs.declared.ending.End.TheVariants.{InputTooLong, TooSmall}
use Rattle.stored_book.specs.Damage.{IsBadForRequest}
use Rattle.chart_program.specs.Course.{AtEachMoment, Course, FoundDamaged, FoundPage, HasFewBlocks, HeldNoBook, IsDoneOrCut, IsLonger}
use Rattle.chart_program.specs.Course.{IsShort}
use Rattle.chart_program.specs.Course.{OfInput, OverStore, Told}
use Rattle.chart_program.specs.LineAnswers.{IsBlamedBy, NoneIsPassedBy}
use Rattle.chart_program.specs.Serve.{AreLines}

-- what it did and sent, by how it ended; at a fault of the disk what that holds is said by the moments
abbrev pub LiveDoes : Course → End → Type 0
LiveDoes c Done = IsShort c × Told c LivesAll
LiveDoes c NoMemory = Told c LivesSome
LiveDoes c ReadFault = Told c (λ count old new input. LivesTaken count old new input c.left_now)
LiveDoes c SendFault = Told c LivesPart
LiveDoes c DiskFault = Told c (λ count old new. LivesLines count old)
LiveDoes c (DamagedBlock block) = FoundDamaged c block × OfInput c (λ input. HeldNoBook c)
LiveDoes c (DamagedPage page) = FoundPage IsBadForRequest c c.new page × OfInput c (λ input. HeldNoBook c)
LiveDoes c InputTooLong = IsLonger c × Told c LivesWithin
LiveDoes c (TooSmall blocks) = HasFewBlocks c blocks
LiveDoes c end = ⊥

-- The same, and what is so however it ended. Blocks are read by the opening, the lines and the pushes alone, and the disk is
-- synced by the opening and by edits.
pub record OfLive (c : Course) (end : End) : Type 0 where
  pub does : LiveDoes c end
  pub store : OverStore c end
  pub crash : AtEachMoment c LeavesLived
  pub reads : OfInput c (ReadsLiving c.old c.new)
  pub syncs : OfInput c (SyncsLiving c.old c.new)
  pub good : OfInput c (λ input. AreLines c.old c.new input → IsDoneOrCut end)
  -- whatever the disk holds, where it was done no line was passed over, and each push showed a view of a followed session
  pub passed : NoneIsPassedBy MayAnswerLive followed_after c end
  -- and a page is called damaged by the line behind the answered ones, or by a push to a session that is followed then
  pub blamed : IsBlamedBy MayAnswerLive followed_after Blames c end
