-- How `derive` ends over the store of a disk.
use Rattle.std.specs.Prelude.{◌≡◌, ℕ, ◌<◌, List, Option, IfSome, ⊤}
use Rattle.block_disk.specs.Counts.{HasRisen}
use Rattle.block_disk.specs.View.{Honest, View}
use Rattle.disk_store.specs.Held.{HoldsBook}
use Rattle.disk_store.specs.Openings.{WritesFew}
use Rattle.gate_pages.specs.Journal.{page_count}
use Rattle.gate_pages.specs.Pages.{GoesOn}
use Rattle.run_ends.specs.Statuses.{block_of, refused_at}
use Rattle.run_ends.specs.declared.ending.End.{End}
use Rattle.run_ends.specs.declared.ending.End.TheVariants.{Done, NoMemory, ReadFault, SendFault, DiskFault, DamagedBlock, DamagedPage}
use Rattle.run_ends.specs.declared.ending.End.TheVariants.{BadInput, InputTooLong, TooSmall, RefusedLine}
use Rattle.series_book.specs.declared.one_series.Series.{Series}
pub use Rattle.series_pair.specs.Damage.{IsBadForChart}
use Rattle.store_commands.specs.Books.{LeavesSame, OfBook}
use Rattle.store_commands.specs.Damaged.{IsDamagedAtFirst, IsDamagedLater}
use Rattle.store_commands.specs.Traffic.{IsLong, Traffic, WasRead}
use Rattle.derive_command.specs.Answers.{by_book, number_of}
use Rattle.derive_command.specs.Catalogs.{by_disk}
use Rattle.derive_command.specs.Lines.{DrawsAll, DrawsFirst, DrawsPart, DrawsTaken, DrawsToBad, DrawsToRefused, DrawsWithin, EndsAnyhow}
use Rattle.derive_command.specs.Lines.{EndsSo}
use Rattle.derive_command.specs.declared.derive_refusal.DeriveRefusal.{DeriveRefusal}

-- all lines of the input are requests, and their answers, by the book that the disk holds, were sent
abbrev pub DerivesAll : ℕ → View → List ℕ → Option (List ℕ) → Option (List ℕ) → Type 0
DerivesAll count disk input before now = OfBook count disk (λ total book. DrawsAll (by_book book) input before now)

-- the answers to some first lines were sent, and no byte more
abbrev pub DerivesFirst : ℕ → View → List ℕ → Option (List ℕ) → Option (List ℕ) → Type 0
DerivesFirst count disk input before now = OfBook count disk (λ total book. DrawsFirst (by_book book) input before now)

-- those to all lines whose line feeds were among the bytes taken, where the bytes left are told
abbrev pub DerivesTaken : ℕ → View → List ℕ → Option (List ℕ) → Option (List ℕ) → Option (List ℕ) → Type 0
DerivesTaken count disk input left before now = OfBook count disk (λ total book. DrawsTaken (by_book book) input before now left)

-- those to the lines that ended among the first 2^32 bytes, and there is a byte more
abbrev pub DerivesWithin : ℕ → View → List ℕ → Option (List ℕ) → Option (List ℕ) → Type 0
DerivesWithin count disk input before now = OfBook count disk (λ total book. DrawsWithin (by_book book) input before now)

-- those to some first lines, and a part of the next one's
abbrev pub DerivesPart : ℕ → View → List ℕ → Option (List ℕ) → Option (List ℕ) → Type 0
DerivesPart count disk input before now = OfBook count disk (λ total book. DrawsPart (by_book book) input before now)

-- those to the lines before the first bad one, which begins at this place
abbrev pub DerivesToBad : ℕ → View → List ℕ → ℕ → Option (List ℕ) → Option (List ℕ) → Type 0
DerivesToBad count disk input place before now = OfBook count disk (λ total book. DrawsToBad (by_book book) input before now place)

-- A line that begins at the offset is refused, and the place is 256 times the offset and the number of the refusal.
pub record IsRefusedAt (book : List Series) (input : List ℕ) (before now : Option (List ℕ)) (place : ℕ) : Type 0 where
  pub at : ℕ
  pub refusal : DeriveRefusal
  pub place_is : place ≡ refused_at at (number_of refusal)
  pub draws : DrawsToRefused (by_book book) input before now at refusal

-- the answers to the lines before the first that is refused
abbrev pub DerivesToRefused : ℕ → View → List ℕ → ℕ → Option (List ℕ) → Option (List ℕ) → Type 0
DerivesToRefused count disk input place before now = OfBook count disk (λ total book. IsRefusedAt book input before now place)

-- Why `derive` ended, whatever the disk holds. Where its store wasn't opened no input was taken and nothing was sent.
abbrev pub IsDeriveCause : End → View → View → Traffic → Type 0
IsDeriveCause Done old new t = WasRead t.left t.left_now
IsDeriveCause NoMemory old new t = ⊤
IsDeriveCause ReadFault old new t = HasRisen t.reads t.reads_now
IsDeriveCause SendFault old new t = HasRisen t.sends t.sends_now
IsDeriveCause DiskFault old new t = HasRisen old.faults new.faults
IsDeriveCause (DamagedBlock block) old new t = IsDamagedAtFirst old block × ((t.left_now ≡ t.left) × (t.sent_now ≡ t.sent))
IsDeriveCause (DamagedPage page) old new t = IsDamagedLater IsBadForChart (page_count old.size) new (block_of page)
IsDeriveCause (BadInput at) old new t = ⊤
IsDeriveCause InputTooLong old new t = IsLong t.left
IsDeriveCause (TooSmall blocks) old new t = (blocks ≡ old.size) × (old.size < 128)
IsDeriveCause (RefusedLine at refusal) old new t = ⊤
IsDeriveCause end old new t = ⊥

-- Why `derive` ended, and what it sent by the book that the disk holds, which stays: at each moment a crash leaves it.
pub record DeriveEnds (old new : View) (t : Traffic) (end : End) : Type 0 where
  pub cause : IsDeriveCause end old new t
  pub sent : IfSome t.left (λ input. OfBook (page_count old.size) old
      (λ total book. EndsSo (by_book book) input t.left_now t.sent t.sent_now end))
  pub crash : LeavesSame (page_count old.size) old new
  pub holds : OfBook (page_count old.size) old (λ total book. HoldsBook (page_count old.size) total book new)
  -- whatever the disk holds, by the records of its catalog
  pub lines : IfSome t.left (λ input. EndsAnyhow (by_disk (page_count old.size) new) input t.left_now t.sent t.sent_now end)
  -- it syncs and writes no more than an opening
  pub few : WritesFew (page_count old.size) old new
  -- reads give what a crash may leave, where they did
  pub honest : Honest old → Honest new
  pub goes_on : GoesOn old new
