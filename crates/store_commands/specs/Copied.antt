-- A series is copied: what an export of it sent is loaded into another one.
use Rattle.std.specs.Prelude.{ℕ, ◌^◌, ◌<◌, List, length, ⊤}
use Rattle.block_disk.specs.View.{View}
use Rattle.gate_pages.specs.Journal.{page_count}
use Rattle.run_ends.specs.declared.ending.End.{End}
use Rattle.run_ends.specs.declared.ending.End.TheVariants.{Done, NoMemory, ReadFault, SendFault, DiskFault, InputTooLong}
use Rattle.series_book.specs.declared.one_series.Series.{Series}
use Rattle.series_export.specs.RoundTrips.{IsBegunAs, StandsForSame}
use Rattle.series_export.specs.Room.{HasRoomFor}
use Rattle.disk_store.specs.Held.{HoldsBook}
use Rattle.store_commands.specs.Books.{HoldsPages}
use Rattle.store_commands.specs.Loaded.{OfSeries}

-- Where the second series was new, of the start, step and scale of the first one, it holds the same now.
abbrev pub IsCopied : List ℕ → List ℕ → ℕ → ℕ → View → View → View → Type 0
IsCopied name copy source_count count source old new = OfSeries source_count source name (λ total book series.
    OfSeries count old copy (λ total' book' begun. IsBegunAs series begun → HoldsPages count total' (StandsForSame total' copy series) new))

-- the disk holds a book with room for the series, and a new series of this name for it
pub record HoldsRoomFor (name : List ℕ) (series : Series) (disk : View) : Type 0 where
  pub total : ℕ
  pub book : List Series
  pub holds : HoldsBook (page_count disk.size) total book disk
  pub room : HasRoomFor total name book series

-- All of the bytes was loaded and the series holds the same, or memory ran out, or a call of the streams or of the disk
-- failed. More than 2^32 bytes may be too many.
abbrev pub EndsFitting : List ℕ → Series → List ℕ → View → View → End → Type 0
EndsFitting name series bytes old new Done = (total : ℕ) × HoldsPages (page_count old.size) total (StandsForSame total name series) new
EndsFitting name series bytes old new NoMemory = ⊤
EndsFitting name series bytes old new ReadFault = ⊤
EndsFitting name series bytes old new SendFault = ⊤
EndsFitting name series bytes old new DiskFault = ⊤
EndsFitting name series bytes old new InputTooLong = 2 ^ 32 < length bytes
EndsFitting name series bytes old new end = ⊥

-- so it is where the second disk has room for the first one's series
abbrev pub FitsInto : List ℕ → List ℕ → ℕ → View → View → View → List ℕ → End → Type 0
FitsInto name copy source_count source old new bytes end = OfSeries source_count source name
    (λ total book series. HoldsRoomFor copy series old → EndsFitting copy series bytes old new end)
