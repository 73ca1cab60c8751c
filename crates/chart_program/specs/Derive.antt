-- The page of `derive`: each line of the input asks for a picture of a sum of two series of the store's book, and it is sent.
use Rattle.std.specs.Prelude.{ℕ, ◌≤◌, ◌^◌, List, length}
use Rattle.block_disk.specs.Counts.{HasRisen}
use Rattle.block_disk.specs.View.{View}
use Rattle.chart_service.specs.Serving.{told}
use Rattle.derive_command.specs.Derived.{IsBadForChart, DerivesAll, DerivesFirst, DerivesPart, DerivesTaken, DerivesToBad, DerivesToRefused}
use Rattle.derive_command.specs.Derived.{DerivesWithin}
use Rattle.derive_command.specs.Catalogs.{by_disk}
use Rattle.derive_command.specs.Lines.{AreUnrefused, EndsAnyhow}
use Rattle.disk_store.specs.Held.{HoldsBook}
use Rattle.gate_pages.specs.Journal.{page_count}
use Rattle.run_ends.specs.Statuses.{refused_at}
use Rattle.run_ends.specs.declared.ending.End.{End}
use Rattle.run_ends.specs.declared.ending.End.TheVariants.{Done, NoMemory, ReadFault, SendFault, DiskFault, DamagedBlock, DamagedPage}
use Rattle.run_ends.specs.declared.ending.End.TheVariants.{BadInput, InputTooLong, TooSmall, RefusedLine}
use Rattle.series_book.specs.declared.one_series.Series.{Series}
use Rattle.chart_program.specs.Course.{Course, FoundDamaged, FoundPage, HasFewBlocks, HeldNoBook, IsDoneOrCut, IsLonger, IsShort, KeptBook}
use Rattle.chart_program.specs.Course.{OfInput, WritesLittle}
use Rattle.chart_program.specs.Course.{OverStore, Told, count}

-- what it sent, by how it ended
abbrev pub DeriveDoes : Course → End → Type 0
DeriveDoes c Done = IsShort c × Told c (λ count old new. DerivesAll count old)
DeriveDoes c NoMemory = Told c (λ count old new. DerivesFirst count old)
DeriveDoes c ReadFault = Told c (λ count old new input. DerivesTaken count old input c.left_now)
DeriveDoes c SendFault = Told c (λ count old new. DerivesPart count old)
DeriveDoes c DiskFault = Told c (λ count old new. DerivesFirst count old)
DeriveDoes c (DamagedBlock block) = FoundDamaged c block × OfInput c (λ input. HeldNoBook c)
DeriveDoes c (DamagedPage page) = FoundPage IsBadForChart c c.new page × OfInput c (λ input. HeldNoBook c)
DeriveDoes c (BadInput at) = Told c (λ count old new input. DerivesToBad count old input at)
DeriveDoes c InputTooLong = IsLonger c × Told c (λ count old new. DerivesWithin count old)
DeriveDoes c (TooSmall blocks) = HasFewBlocks c blocks
DeriveDoes c (RefusedLine at refusal) = Told c (λ count old new input. DerivesToRefused count old input (refused_at at refusal))
DeriveDoes c end = ⊥

-- The lines are no more than it takes, the disk holds a book, each line that isn't empty is a request that isn't refused, and no
-- call of the disk failed.
pub record AreDerived (old new : View) (input : List ℕ) : Type 0 where
  pub short : length input ≤ 2 ^ 32
  pub total : ℕ
  pub book : List Series
  pub holds : HoldsBook (page_count old.size) total book old
  pub requests : AreUnrefused book (told input)
  pub whole : HasRisen old.faults new.faults → ⊥

-- The same, and what is so however it ended. Whatever the disk holds, a picture of its size answered each line before the one that
-- stopped the run, which is no request, is refused by its numbers and the records, or names the series of the page.
pub record OfDerive (c : Course) (end : End) : Type 0 where
  pub does : DeriveDoes c end
  pub store : OverStore c end
  pub kept : KeptBook c
  pub lines : OfInput c (λ input. EndsAnyhow (by_disk (count c) c.new) input c.left_now c.sent c.sent_now end)
  pub few : WritesLittle c
  pub good : OfInput c (λ input. AreDerived c.old c.new input → IsDoneOrCut end)
