-- The page of `list`: a line is sent for each series of the store's book.
use Rattle.std.specs.Prelude.{◌≡◌}
use Rattle.run_ends.specs.declared.ending.End.{End}
use Rattle.run_ends.specs.declared.ending.End.TheVariants.{Done, NoMemory, SendFault, DiskFault, DamagedBlock, TooSmall}
use Rattle.store_commands.specs.Listed.{ListsRecords, ReadsOpening, SendsList, SendsListPart}
use Rattle.chart_program.specs.Course.{Course, FoundDamaged, HasFewBlocks, HeldNoBook, IsDoneOrCut, KeptBook, OverStore, SentNothing}
use Rattle.chart_program.specs.Course.{WritesLittle}
use Rattle.chart_program.specs.Course.{StandsOn, TookNothing, count}

-- what it sent, by how it ended
abbrev pub ListDoes : Course → End → Type 0
ListDoes c Done = SendsList (count c) c.old c.sent c.sent_now
ListDoes c NoMemory = SentNothing c
ListDoes c SendFault = SendsListPart (count c) c.old c.sent c.sent_now
ListDoes c DiskFault = SentNothing c
ListDoes c (DamagedBlock block) = FoundDamaged c block × HeldNoBook c
ListDoes c (TooSmall blocks) = HasFewBlocks c blocks
ListDoes c end = ⊥

-- the same, and what is so however it ended: no more blocks are read than by an opening
pub record OfList (c : Course) (end : End) : Type 0 where
  pub does : ListDoes c end
  pub store : OverStore c end
  pub untaken : TookNothing c
  pub kept : KeptBook c
  pub few : WritesLittle c
  pub records : end ≡ Done → ListsRecords (count c) c.old c.sent c.sent_now
  pub reads : ReadsOpening c.old c.new
  pub good : StandsOn c.old c.new → IsDoneOrCut end
