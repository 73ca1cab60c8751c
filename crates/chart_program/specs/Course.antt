-- What a run of a command began with and what it left, of which the command's page speaks, and what pages have in common.
use Rattle.std.specs.Prelude.{ℕ, ◌≡◌, ◌<◌, List, Option, IfSome, ⊤}
use Rattle.block_disk.specs.Counts.{HasRisen}
use Rattle.block_disk.specs.View.{Image, View}
use Rattle.disk_store.specs.Held.{HoldsBook}
use Rattle.disk_store.specs.Openings.{WritesFew}
use Rattle.gate_pages.specs.Journal.{page_count}
use Rattle.gate_pages.specs.Pages.{GoesOn}
use Rattle.run_ends.specs.Statuses.{block_of, code_of}
use Rattle.run_ends.specs.declared.ending.End.{End}
use Rattle.run_ends.specs.declared.ending.End.TheVariants.{Done, NoMemory, ReadFault, SendFault}
use Rattle.series_book.specs.declared.one_series.Series.{Series}
use Rattle.store_commands.specs.Away.{IsTurnedAway}
use Rattle.store_commands.specs.Books.{LeavesSame, Never, OfBook}
use Rattle.store_commands.specs.Damaged.{IsDamagedAtFirst, IsDamagedLater}
use Rattle.store_commands.specs.Traffic.{IsLong, WasRead}

-- the disk before and now; and the bytes left to take and those sent, where they are told, before and now
pub record Course : Type 1 where
  pub old : View
  pub new : View
  pub left : Option (List ℕ)
  pub left_now : Option (List ℕ)
  pub sent : Option (List ℕ)
  pub sent_now : Option (List ℕ)

-- that from an old world to a new one
abbrev pub course : {W : Type 0} → (W → View) → (W → Option (List ℕ)) → (W → Option (List ℕ)) → W → W → Course
course view left sent old new = record {
  old = view old;
  new = view new;
  left = left old;
  left_now = left new;
  sent = sent old;
  sent_now = sent new;
}

-- how many pages a store of the disk has
abbrev pub count : Course → ℕ
count c = page_count c.old.size

-- ---- the streams

abbrev pub TookNothing : Course → Type 0
TookNothing c = c.left_now ≡ c.left

abbrev pub SentNothing : Course → Type 0
SentNothing c = c.sent_now ≡ c.sent

-- this is so of the input, where it is told
abbrev pub OfInput : Course → (List ℕ → Type 0) → Type 0
OfInput c IsSo = IfSome c.left IsSo

-- this is so of the bytes that are left to take, where they are told
abbrev pub OfLeft : Course → (List ℕ → Type 0) → Type 0
OfLeft c IsSo = IfSome c.left_now IsSo

-- and of what was sent for it: of the number of pages, the disk before and now, the input, and the bytes sent before and now
abbrev pub Told : Course → (ℕ → View → View → List ℕ → Option (List ℕ) → Option (List ℕ) → Type 0) → Type 0
Told c IsSo = IfSome c.left (λ input. IsSo (count c) c.old c.new input c.sent c.sent_now)

-- the same where the bytes are told that are left to take: they stand behind the input
abbrev pub ToldLeft : Course → (ℕ → View → View → List ℕ → List ℕ → Option (List ℕ) → Option (List ℕ) → Type 0) → Type 0
ToldLeft c IsSo =
    IfSome c.left (λ input. IfSome c.left_now (λ bytes. IsSo (count c) c.old c.new input bytes c.sent c.sent_now))

-- the input is at most 2^32 bytes, and was read to its end: nothing of it is left
abbrev pub IsShort : Course → Type 0
IsShort c = WasRead c.left c.left_now

-- it has more bytes than that
abbrev pub IsLonger : Course → Type 0
IsLonger c = IsLong c.left

-- ---- the disk

-- the disk held no book: where it does, this end never comes
abbrev pub HeldNoBook : Course → Type 0
HeldNoBook c = Never (count c) c.old

-- no store was opened, since this block is damaged; no input was taken, and nothing was sent
pub record FoundDamaged (c : Course) (block : ℕ) : Type 0 where
  pub at_first : IsDamagedAtFirst c.old block
  pub took_nothing : TookNothing c
  pub sent_nothing : SentNothing c

-- this page of an open store is damaged, by what is bad of the pages of this disk
abbrev pub FoundPage : (ℕ → Image → ℕ → Type 0) → Course → View → ℕ → Type 0
FoundPage IsBad c disk page = IsDamagedLater IsBad (count c) disk (block_of page)

-- the disk has too few blocks for a store: so many
abbrev pub HasFewBlocks : Course → ℕ → Type 0
HasFewBlocks c blocks = (blocks ≡ c.old.size) × (c.old.size < 128)

-- the book stays: the disk holds it afterwards, and a crash leaves it at each moment
pub record KeptBook (c : Course) : Type 0 where
  pub holds : OfBook (count c) c.old (λ total book. HoldsBook (count c) total book c.new)
  pub crash : LeavesSame (count c) c.old c.new

-- it syncs and writes no more than an opening: nothing is written behind a closed gate, unless the store is of version 1
abbrev pub WritesLittle : Course → Type 0
WritesLittle c = WritesFew (count c) c.old c.new

-- what a crash leaves at each moment, where the input and the bytes sent before are told
abbrev pub AtEachMoment : Course → (ℕ → List ℕ → View → View → Type 0) → Type 0
AtEachMoment c Leaves = IfSome c.left (λ input. IfSome c.sent (λ bytes. Leaves (count c) input c.old c.new))

-- A command over a store: time goes on, and a disk that is too small for a store turns the command away, which then takes
-- no input and sends nothing.
pub record OverStore (c : Course) (end : End) : Type 0 where
  pub goes_on : GoesOn c.old c.new
  pub away : c.old.size < 128 → IsTurnedAway c.left c.left_now c.sent c.sent_now (code_of end)

-- ---- good input

-- the disk holds a book, and no call of it failed
pub record StandsOn (old new : View) : Type 0 where
  pub total : ℕ
  pub book : List Series
  pub holds : HoldsBook (page_count old.size) total book old
  pub whole : HasRisen old.faults new.faults → ⊥

-- the command was done, unless a stream failed or there was no memory
abbrev pub IsDoneOrCut : End → Type 0
IsDoneOrCut Done = ⊤
IsDoneOrCut NoMemory = ⊤
IsDoneOrCut ReadFault = ⊤
IsDoneOrCut SendFault = ⊤
IsDoneOrCut end = ⊥
