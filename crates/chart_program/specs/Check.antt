-- The page of `check`: every page of the store is read, and what its book holds is counted.
use Rattle.run_ends.specs.declared.ending.End.{End}
use Rattle.run_ends.specs.declared.ending.End.TheVariants.{Done, NoMemory, SendFault, DiskFault, DamagedBlock, DamagedPage, TooSmall}
use Rattle.store_commands.specs.Checked.{IsBadForCheck, ReadsStore, SendsCounts, SendsCountsPart}
use Rattle.chart_program.specs.Course.{Course, FoundDamaged, FoundPage, HasFewBlocks, HeldNoBook, IsDoneOrCut, KeptBook, OverStore}
use Rattle.chart_program.specs.Course.{WritesLittle}
use Rattle.chart_program.specs.Course.{SentNothing, StandsOn, TookNothing, count}

-- what it sent, by how it ended
abbrev pub CheckDoes : Course → End → Type 0
CheckDoes c Done = SendsCounts (count c) c.old c.sent c.sent_now
CheckDoes c NoMemory = SentNothing c
CheckDoes c SendFault = SendsCountsPart (count c) c.old c.sent c.sent_now
CheckDoes c DiskFault = SentNothing c
CheckDoes c (DamagedBlock block) = FoundDamaged c block × HeldNoBook c
CheckDoes c (DamagedPage page) = FoundPage IsBadForCheck c c.old page × HeldNoBook c × SentNothing c
CheckDoes c (TooSmall blocks) = HasFewBlocks c blocks
CheckDoes c end = ⊥

-- the same, and what is so however it ended
pub record OfCheck (c : Course) (end : End) : Type 0 where
  pub does : CheckDoes c end
  pub store : OverStore c end
  pub untaken : TookNothing c
  pub kept : KeptBook c
  pub reads : ReadsStore (count c) c.old c.new
  pub few : WritesLittle c
  pub good : StandsOn c.old c.new → IsDoneOrCut end
