-- The page of `host`: each line of the input is answered over the store's book, edits that stand ready together, and
-- behind a line or a group its pushes are made.
use Rattle.std.specs.Prelude.{◌≡◌, ℕ, List, Option}
use Rattle.block_disk.specs.View.{View}
use Rattle.host_command.specs.Ended.{CostsHosting, LeavesHosted}
use Rattle.hosted_lines.specs.Answers.{MayAnswerHost, followed_behind}
use Rattle.hosted_lines.specs.Blaming.{BlamesHost}
use Rattle.hosted_lines.specs.HostCauses.{IsBadForHost}
use Rattle.hosted_lines.specs.Input.{most_bytes}
use Rattle.hosted_lines.specs.Running.{SendsAll, SendsLines, SendsPart, SendsSome, SendsTaken, SendsWithin}
use Rattle.hosted_lines.specs.Begun.{begun_live}
use Rattle.run_ends.specs.declared.ending.End.{End}
use Rattle.run_ends.specs.declared.ending.End.TheVariants.{Done, NoMemory, ReadFault, SendFault, DiskFault}
use Rattle.run_ends.specs.declared.ending.End.TheVariants.{DamagedBlock, DamagedPage, InputTooLong, TooMuch, TooSmall}
use Rattle.store_commands.specs.Books.{Holds, OfBook}
use Rattle.store_commands.specs.Traffic.{IsPast, WasReadWithin}
use Rattle.chart_program.specs.Course.{AtEachMoment, Course, FoundDamaged, FoundPage, HasFewBlocks, HeldNoBook}
use Rattle.chart_program.specs.Course.{IsDoneOrCut, OfInput, OverStore, Told}
use Rattle.chart_program.specs.LineAnswers.{IsBlamedBy, NoneIsPassedBy}
use Rattle.chart_program.specs.Serve.{AreLines}

-- all lines of the input are answered, all pushes are made, and all these frames were sent
abbrev pub HostsAll : ℕ → View → View → List ℕ → Option (List ℕ) → Option (List ℕ) → Type 0
HostsAll count old new input before now =
    OfBook count old (λ total book. SendsAll (Holds count total new) input (begun_live total book) before now)

-- some first lines are answered, and all these frames were sent but some last ones, at most 64
abbrev pub HostsSome : ℕ → View → View → List ℕ → Option (List ℕ) → Option (List ℕ) → Type 0
HostsSome count old new input before now =
    OfBook count old (λ total book. SendsSome (Holds count total new) input (begun_live total book) before now)

-- all lines whose line feeds were among the bytes taken are, and all their pushes made, where the bytes left are told
abbrev pub HostsTaken : ℕ → View → View → List ℕ → Option (List ℕ) → Option (List ℕ) → Option (List ℕ) → Type 0
HostsTaken count old new input left before now =
    OfBook count old (λ total book. SendsTaken (Holds count total new) input (begun_live total book) before now left)

-- some first lines are answered; of one of the last frames, at most 64, a part was sent, and of those behind it nothing
abbrev pub HostsPart : ℕ → View → View → List ℕ → Option (List ℕ) → Option (List ℕ) → Type 0
HostsPart count old new input before now =
    OfBook count old (λ total book. SendsPart (Holds count total new) input (begun_live total book) before now)

-- some first lines are answered, and all these frames were sent, at a fault of the disk
abbrev pub HostsLines : ℕ → View → List ℕ → Option (List ℕ) → Option (List ℕ) → Type 0
HostsLines count old input before now = OfBook count old (λ total book. SendsLines input (begun_live total book) before now)

-- all lines that ended among the first 2^63 - 1 bytes are answered, and there is a byte more
abbrev pub HostsWithin : ℕ → View → View → List ℕ → Option (List ℕ) → Option (List ℕ) → Type 0
HostsWithin count old new input before now =
    OfBook count old (λ total book. SendsWithin (Holds count total new) input (begun_live total book) before now)

-- how a run ended by what the hosting of its lines says: past the most bytes it names their number
abbrev pub hosting_end : End → End
hosting_end InputTooLong = TooMuch most_bytes
hosting_end end = end

-- what it did and sent, by how it ended; at a fault of the disk what that holds is said by the moments
abbrev pub HostDoes : Course → End → Type 0
HostDoes c Done = WasReadWithin most_bytes c.left c.left_now × Told c HostsAll
HostDoes c NoMemory = Told c HostsSome
HostDoes c ReadFault = Told c (λ count old new input. HostsTaken count old new input c.left_now)
HostDoes c SendFault = Told c HostsPart
HostDoes c DiskFault = Told c (λ count old new. HostsLines count old)
HostDoes c (DamagedBlock block) = FoundDamaged c block × OfInput c (λ input. HeldNoBook c)
HostDoes c (DamagedPage page) = FoundPage IsBadForHost c c.new page × OfInput c (λ input. HeldNoBook c)
HostDoes c (TooMuch most) = (most ≡ most_bytes) × IsPast most_bytes c.left × Told c HostsWithin
HostDoes c (TooSmall blocks) = HasFewBlocks c blocks
HostDoes c end = ⊥

-- The same, and what is so however it ended. Blocks are read, and the disk is synced, by the opening, the lines, the
-- groups of edits and the pushes alone, by each as seldom as it may.
pub record OfHost (c : Course) (end : End) : Type 0 where
  pub does : HostDoes c end
  pub store : OverStore c end
  pub crash : AtEachMoment c LeavesHosted
  pub costs : OfInput c (CostsHosting c.old c.new)
  pub good : OfInput c (λ input. AreLines c.old c.new input → IsDoneOrCut end)
  -- whatever the disk holds, where it was done no line was passed over, and each push showed a view of a followed session
  pub passed : NoneIsPassedBy MayAnswerHost followed_behind c end
  -- and a page is called damaged by the line behind the answered ones, or by a push to a session that is followed then
  pub blamed : IsBlamedBy MayAnswerHost followed_behind BlamesHost c end
