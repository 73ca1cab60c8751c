-- How a check of the disk's store ends.
use Rattle.std.specs.Prelude.{◌≡◌, ℕ, ◌+◌, ◌<◌, ◌≤◌, ◌⊎◌, List, ◌++◌, Option, codes}
use Rattle.std.specs.Fmt.{decimal}
use Rattle.block_disk.specs.Counts.{HasRisen}
use Rattle.block_disk.specs.Streams.{sent_after}
use Rattle.block_disk.specs.View.{Image, View, Honest}
use Rattle.gate_pages.specs.Journal.{page_count}
use Rattle.gate_pages.specs.Pages.{GoesOn}
use Rattle.page_space.specs.declared.superblock.Superblock.{Superblock}
use Rattle.page_space.specs.Layout.{superblock_page, IsSuperblock}
use Rattle.path_repair.specs.Damage.{HasBadLink}
use Rattle.series_store.specs.Counting.{AreCounts, AreNumbers, AreSound, HasBadTree}
use Rattle.series_store.specs.declared.counts.Counts.{Counts}
use Rattle.disk_store.specs.Held.{HoldsBook}
use Rattle.disk_store.specs.Openings.{WritesFew}
use Rattle.stored_book.specs.Damage.{SaysNumbers}
use Rattle.stored_book.specs.Standing.{AreCatalog, book_pages}
use Rattle.run_ends.specs.Statuses.{block_of}
use Rattle.run_ends.specs.declared.ending.End.{End}
use Rattle.run_ends.specs.declared.ending.End.TheVariants.{Done, SendFault, DamagedPage}
use Rattle.store_commands.specs.Damaged.{IsDamagedLater}
use Rattle.store_commands.specs.Unopened.{IsUnopenedEnd}
use Rattle.store_commands.specs.Books.{OfBook, Never, LeavesSame, SendsPartOf}

-- the three lines of a check
unfoldable pub counts_text : Counts → List ℕ
counts_text counts =
    codes "series " ++ (decimal counts.series ++ (codes
    "\nvalues " ++ (decimal counts.values ++ (codes
    "\npages " ++ (decimal counts.used ++ (codes " of " ++ (decimal counts.total ++ codes "\n")))))))

-- The pages for which the disk stands are sound, in version 2, all of them: page 0 has these numbers, in range, which are those
-- that were counted, the pages of the catalog keep their layout, and those of the trees and of the chain are right for their places.
pub record AreWhole (count : ℕ) (disk : View) (counts : Counts) : Type 0 where
  pub superblock : Superblock
  pub numbers : AreNumbers superblock counts
  pub rules : IsSuperblock count superblock
  pub spelled : Honest disk → book_pages count disk.image 0 ≡ superblock_page superblock
  pub catalog : Honest disk → AreCatalog (book_pages count disk.image) superblock.fresh superblock.series
  pub sound : Honest disk → AreSound (book_pages count disk.image) superblock

-- the counts were sent, which are those of the book that the disk holds
pub record SendsCounts (count : ℕ) (disk : View) (before now : Option (List ℕ)) : Type 0 where
  pub counts : Counts
  pub of_book : OfBook count disk (λ total book. AreCounts total book counts)
  pub whole : AreWhole count disk counts
  pub sent : now ≡ sent_after (counts_text counts) before

-- the same, of which the first bytes were sent
pub record SendsCountsPart (count : ℕ) (disk : View) (before now : Option (List ℕ)) : Type 0 where
  pub counts : Counts
  pub of_book : OfBook count disk (λ total book. AreCounts total book counts)
  pub whole : AreWhole count disk counts
  pub sent : SendsPartOf (counts_text counts) before now

-- the page is below the total that page 0 says, and is one of the trees or of the chain that is bad for its place
abbrev pub IsBadForCheck : ℕ → Image → ℕ → Type 0
IsBadForCheck count image page = SaysNumbers count image (λ s. (page < s.total)
    × (HasBadTree image s page ⊎ HasBadLink image s s.chain page))

-- at most the blocks were read that an opening reads, and each page of the store once
abbrev pub ReadsStore : ℕ → View → View → Type 0
ReadsStore count old new = OfBook count old (λ total book. new.reads ≤ old.reads + 200 + total)

-- what a check sent, and why it ended
abbrev pub IsCheckEnd : End → View → View → Option (List ℕ) → Option (List ℕ) → ℕ → ℕ → Type 0
IsCheckEnd Done old new before now sends sends_now = SendsCounts (page_count old.size) old before now
IsCheckEnd SendFault old new before now sends sends_now = HasRisen sends sends_now × SendsCountsPart (page_count old.size) old before now
IsCheckEnd (DamagedPage page) old new before now sends sends_now =
    IsDamagedLater IsBadForCheck (page_count old.size) old (block_of page) × Never (page_count old.size) old × (now ≡ before)
IsCheckEnd end old new before now sends sends_now = IsUnopenedEnd end old new × (now ≡ before)

-- the same, and what it left
pub record CheckEnds (old new : View) (before now : Option (List ℕ)) (sends sends_now : ℕ) (end : End) : Type 0 where
  pub is : IsCheckEnd end old new before now sends sends_now
  pub crash : LeavesSame (page_count old.size) old new
  pub holds : OfBook (page_count old.size) old (λ total book. HoldsBook (page_count old.size) total book new)
  pub reads : ReadsStore (page_count old.size) old new
  -- it syncs and writes no more than an opening
  pub few : WritesFew (page_count old.size) old new
  -- reads give what a crash may leave, where they did
  pub honest : Honest old → Honest new
  pub goes_on : GoesOn old new
