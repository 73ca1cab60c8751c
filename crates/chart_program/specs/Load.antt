-- The page of `load NAME`: the rows of the input are stored in the series of this name of the store's book, and counted.
use Rattle.std.specs.Prelude.{◌≡◌, ℕ, ◌≤◌, ◌^◌, List, length, Contains}
use Rattle.block_disk.specs.Counts.{HasRisen}
use Rattle.block_disk.specs.View.{Image, View}
use Rattle.disk_store.specs.Held.{HoldsBook}
use Rattle.gate_pages.specs.Journal.{page_count}
use Rattle.run_ends.specs.declared.ending.End.{End}
use Rattle.run_ends.specs.declared.ending.End.TheVariants.{Done, NoMemory, ReadFault, SendFault, DiskFault, DamagedBlock, DamagedPage}
use Rattle.run_ends.specs.declared.ending.End.TheVariants.{BadInput, InputTooLong, TooSmall, UnknownSeries, Refused}
use Rattle.series_book.specs.declared.one_series.Series.{Series}
use Rattle.series_book.specs.declared.refusals.Refusal.{Refusal}
use Rattle.series_load.specs.Ends.{IsAtBad, IsAtRefusal}
use Rattle.series_load.specs.Sets.{IsNamed}
use Rattle.stored_book.specs.Damage.{IsBadForEdit}
use Rattle.store_commands.specs.Lacking.{LacksRecord}
use Rattle.store_commands.specs.Loaded.{HasNone, IsAtLine, LeavesLoads, LeavesUnnamed, LoadsAll, LoadsAndSendsPart, LoadsSome, LoadsTaken}
use Rattle.store_commands.specs.Loaded.{LoadsToBad}
use Rattle.store_commands.specs.Loaded.{LoadsFew, LoadsWithin, RefusesRun, TellsReadings, Unnamed, unnamed_ends}
use Rattle.chart_program.specs.Course.{AtEachMoment, Course, FoundDamaged, FoundPage, HasFewBlocks, HeldNoBook, IsDoneOrCut, IsLonger}
use Rattle.chart_program.specs.Course.{IsShort}
use Rattle.chart_program.specs.Course.{KeptBook, OfInput, OfLeft, OverStore, SentNothing, Told, TookNothing, count}

-- what it did and sent, by how it ended; at a fault of the disk what that holds is said by the moments
abbrev pub LoadDoes : List ℕ → Course → End → Type 0
LoadDoes name c Done = IsShort c × Told c (LoadsAll name)
LoadDoes name c NoMemory = OfInput c (LoadsSome name (count c) c.old c.new) × SentNothing c
LoadDoes name c ReadFault = OfInput c (λ input. OfLeft c (LoadsTaken name (count c) c.old c.new input)) × SentNothing c
LoadDoes name c SendFault = Told c (LoadsAndSendsPart name)
LoadDoes name c DiskFault = SentNothing c
LoadDoes name c (DamagedBlock block) = FoundDamaged c block × HeldNoBook c
LoadDoes name c (DamagedPage page) = FoundPage IsBadForEdit c c.new page × HeldNoBook c × SentNothing c
LoadDoes name c (BadInput at) = OfInput c (λ input. LoadsToBad name (count c) c.old c.new input at) × SentNothing c
LoadDoes name c InputTooLong = IsLonger c × OfInput c (LoadsWithin name (count c) c.old c.new) × SentNothing c
LoadDoes name c (TooSmall blocks) = HasFewBlocks c blocks
LoadDoes name c UnknownSeries = HasNone (count c) c.old name × KeptBook c × TookNothing c × SentNothing c
LoadDoes name c (Refused at refusal) = OfInput c (λ input. RefusesRun name (count c) c.old c.new input at refusal) × SentNothing c
LoadDoes name c end = ⊥

-- The lines are no more than it takes, the disk's book has a series of the name, no line is bad and no set of the runs is
-- refused, and no call of the disk failed.
pub record AreReadings (name : List ℕ) (old new : View) (input : List ℕ) : Type 0 where
  pub short : length input ≤ 2 ^ 32
  pub total : ℕ
  pub book : List Series
  pub holds : HoldsBook (page_count old.size) total book old
  pub series : Series
  pub named : IsNamed book name series
  pub none_bad : (place : ℕ) (image : Image) → IsAtBad total name book series input place image → ⊥
  pub none_refused : (at : ℕ) (refusal : Refusal) (image : Image) → IsAtRefusal total name book series input at refusal image → ⊥
  pub whole : HasRisen old.faults new.faults → ⊥

-- The same, and what is so however it ended. Where no series has the name, it says so, unless a call of the disk failed or there
-- was no memory. Behind an opening each set is one commit at most. Whatever the disk holds, a line that is told is the first bad
-- one, and where a load is done no line is bad, and the number of the readings was sent.
pub record OfLoad (name : List ℕ) (c : Course) (end : End) : Type 0 where
  pub does : LoadDoes name c end
  pub store : OverStore c end
  pub unnamed : Unnamed (count c) c.old name (λ total book. Contains unnamed_ends end)
  pub lacks : end ≡ UnknownSeries → LacksRecord (count c) c.old name
  pub crash : AtEachMoment c (λ count input old new. LeavesLoads name count input old new × LeavesUnnamed name count old new)
  pub costs : OfInput c (LoadsFew name (count c) c.old c.new)
  pub line : OfInput c (λ input. IsAtLine name (count c) c.old input end)
  pub read : OfInput c (λ input. TellsReadings name (count c) c.old input c.sent c.sent_now end)
  pub good : OfInput c (λ input. AreReadings name c.old c.new input → IsDoneOrCut end)
