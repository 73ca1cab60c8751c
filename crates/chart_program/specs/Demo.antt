-- The page of `demo SEED N`: the workload of the seed, of so many rounds, is answered over the store's book, and summed up.
use Rattle.std.specs.Prelude.{ℕ}
use Rattle.chart_client.specs.declared.errors.ClientError.TheVariants as client
use Rattle.demo_workload.specs.Ending.{MeetsKey}
use Rattle.demo_workload.specs.Reading.{ReadsDemo}
use Rattle.demo_workload.specs.Workload.{workload}
use Rattle.run_ends.specs.declared.ending.End.{End}
use Rattle.run_ends.specs.declared.ending.End.TheVariants.{Done, NoMemory, SendFault, DiskFault, DamagedBlock, DamagedPage, Missing}
use Rattle.run_ends.specs.declared.ending.End.TheVariants.{BadCoefficient, TooSmall}
use Rattle.stored_book.specs.Damage.{IsBadForRequest}
use Rattle.store_commands.specs.Books.{FromBook, OfBook}
use Rattle.demo_workload.specs.Demonstrated.{AnswersFirst, CostsDemo, LeavesDemo, SendsSummary, SendsSummaryPart}
use Rattle.chart_program.specs.Course.{Course, FoundDamaged, FoundPage, HasFewBlocks, HeldNoBook, IsDoneOrCut, OverStore, SentNothing}
use Rattle.chart_program.specs.Course.{StandsOn, TookNothing, count}

-- what it did and sent, by how it ended
abbrev pub DemoDoes : ℕ → ℕ → Course → End → Type 0
DemoDoes seed rounds c Done =
    FromBook (count c) c.old c.new (λ start state. SendsSummary (workload seed rounds) start state c.sent c.sent_now)
DemoDoes seed rounds c NoMemory = FromBook (count c) c.old c.new (AnswersFirst (workload seed rounds)) × SentNothing c
DemoDoes seed rounds c SendFault =
    FromBook (count c) c.old c.new (λ start state. SendsSummaryPart (workload seed rounds) start state c.sent c.sent_now)
DemoDoes seed rounds c DiskFault = SentNothing c
DemoDoes seed rounds c (DamagedBlock block) = FoundDamaged c block × HeldNoBook c
DemoDoes seed rounds c (DamagedPage page) = FoundPage IsBadForRequest c c.new page × HeldNoBook c × SentNothing c
DemoDoes seed rounds c (Missing number) = HeldNoBook c × MeetsKey client.Missing number × SentNothing c
DemoDoes seed rounds c (BadCoefficient number) = HeldNoBook c × MeetsKey client.BadCoefficient number × SentNothing c
DemoDoes seed rounds c (TooSmall blocks) = HasFewBlocks c blocks
DemoDoes seed rounds c end = ⊥

-- The same, and what is so however it ended. Behind an opening each request is one commit at most, and where the disk holds a
-- book each reads no more blocks than it may.
pub record OfDemo (seed rounds : ℕ) (c : Course) (end : End) : Type 0 where
  pub does : DemoDoes seed rounds c end
  pub store : OverStore c end
  pub untaken : TookNothing c
  pub crash : LeavesDemo (workload seed rounds) (count c) c.old c.new
  pub costs : CostsDemo rounds c.old c.new
  pub reads : OfBook (count c) c.old (λ total book. ReadsDemo rounds c.old c.new)
  pub good : StandsOn c.old c.new → IsDoneOrCut end
