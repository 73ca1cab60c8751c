-- How a load of the input into a series of the disk's store ends.
use Rattle.std.specs.Prelude.{◌≡◌, ℕ, ◌*◌, ◌<◌, ◌≤◌, List, [], ◌∷◌, ◌++◌, length, Contains, Option, Some, None, IfSome, codes, ⊤}
use Rattle.std.specs.Fmt.{decimal}
use Rattle.block_disk.specs.Counts.{HasRisen}
use Rattle.block_disk.specs.Streams.{sent_after}
use Rattle.block_disk.specs.View.{Honest, Image, View, sent_now}
use Rattle.gate_pages.specs.GatePages.{IsReadable}
use Rattle.gate_pages.specs.Journal.{page_count}
use Rattle.gate_pages.specs.Pages.{GoesOn}
use Rattle.series_book.specs.declared.one_series.Series.{Series}
use Rattle.series_book.specs.declared.refusals.Refusal.{Refusal}
use Rattle.series_book.specs.Edits.{id_of}
use Rattle.series_book.specs.Refusals.{number_of}
use Rattle.disk_store.specs.Held.{HoldsBook}
use Rattle.stored_book.specs.Damage.{IsBadForEdit}
use Rattle.stored_book.specs.Standing.{KeepsOldStore, book_pages, RecoversTo}
use Rattle.chart_service.specs.Moments.{Since}
use Rattle.series_load.specs.Runs.{Run, AreFirst}
use Rattle.series_load.specs.Sets.{IsNamed, IsAfterSome, Loads, OfRefusal}
use Rattle.series_load.specs.Ends.{IsLoaded, IsAtBad, IsAtRefusal, IsBadLine, IsRead, IsTaken, IsPast}
use Rattle.run_ends.specs.Statuses.{block_of, refused_at}
use Rattle.run_ends.specs.declared.ending.End.{End}
use Rattle.run_ends.specs.declared.ending.End.TheVariants.{Done, NoMemory, ReadFault, SendFault, DiskFault, DamagedPage}
use Rattle.run_ends.specs.declared.ending.End.TheVariants.{BadInput, InputTooLong, UnknownSeries, Refused}
use Rattle.store_commands.specs.Traffic.{IsLong, Traffic, WasRead}
use Rattle.store_commands.specs.Damaged.{IsDamagedLater}
use Rattle.store_commands.specs.Lacking.{LacksRecord, TellsScale}
use Rattle.store_commands.specs.Spending.{Spends}
use Rattle.store_commands.specs.Unopened.{IsUnopenedEnd}
use Rattle.store_commands.specs.Books.{OfBook, Never, LeavesSame, SendsPartOf, HoldsPages}

-- what is said of a load of so many readings
abbrev pub loaded_text : ℕ → List ℕ
loaded_text readings = codes "loaded " ++ (decimal readings ++ codes "\n")

-- this is so of the book that the disk holds, and of its series of this name
abbrev pub OfSeries : ℕ → View → List ℕ → (ℕ → List Series → Series → Type 0) → Type 0
OfSeries count disk name IsSo = OfBook count disk (λ total book. (series : Series) → IsNamed book name series → IsSo total book series)

-- the book that the disk holds has no series of this name
abbrev pub HasNone : ℕ → View → List ℕ → Type 0
HasNone count disk name = OfSeries count disk name (λ total book series. ⊥)

-- where it has none, a command tells so unless a call of the disk fails or there is no memory
abbrev pub unnamed_ends : List End
unnamed_ends = NoMemory ∷ DiskFault ∷ UnknownSeries ∷ []

-- this is so where the book that the disk holds has no series of this name
abbrev pub Unnamed : ℕ → View → List ℕ → (ℕ → List Series → Type 0) → Type 0
Unnamed count disk name IsSo = OfBook count disk (λ total book. id_of name book ≡ None → IsSo total book)

-- all lines of the input are rows, the sets of their runs were done, and how many readings they have was sent
abbrev pub LoadsAll : List ℕ → ℕ → View → View → List ℕ → Option (List ℕ) → Option (List ℕ) → Type 0
LoadsAll name count old new input before now = OfSeries count old name (λ total book series.
    (readings : ℕ) × HoldsPages count total (IsLoaded total name book series input readings) new
    × (now ≡ sent_after (loaded_text readings) before))

-- the same, of which the first bytes were sent
abbrev pub LoadsAndSendsPart : List ℕ → ℕ → View → View → List ℕ → Option (List ℕ) → Option (List ℕ) → Type 0
LoadsAndSendsPart name count old new input before now = OfSeries count old name (λ total book series.
    (readings : ℕ) × HoldsPages count total (IsLoaded total name book series input readings) new
    × SendsPartOf (loaded_text readings) before now)

-- the disk holds the book after the sets of some first runs of the input
pub record HoldsSome (count total : ℕ) (name : List ℕ) (book : List Series) (series : Series) (input : List ℕ) (disk : View) : Type 0 where
  pub runs : List Run
  pub first : AreFirst series.scale series.step input runs
  pub new : List Series
  pub loads : Loads total name book runs new
  pub holds : HoldsBook count total new disk

-- the sets of some first runs were done
abbrev pub LoadsSome : List ℕ → ℕ → View → View → List ℕ → Type 0
LoadsSome name count old new input = OfSeries count old name (λ total book series. HoldsSome count total name book series input new)

-- the first bad line is the one at this offset, and the sets of the runs before it were done
abbrev pub LoadsToBad : List ℕ → ℕ → View → View → List ℕ → ℕ → Type 0
LoadsToBad name count old new input place = OfSeries count old name
    (λ total book series. HoldsPages count total (IsAtBad total name book series input place) new)

-- the sets of the runs that ended within the whole lines taken were done, and these bytes are left
abbrev pub LoadsTaken : List ℕ → ℕ → View → View → List ℕ → List ℕ → Type 0
LoadsTaken name count old new input bytes = OfSeries count old name
    (λ total book series. HoldsPages count total (IsTaken total name book series input bytes) new)

-- those of the runs that ended within the whole lines among the first 2^32 bytes, and there is a byte more
abbrev pub LoadsWithin : List ℕ → ℕ → View → View → List ℕ → Type 0
LoadsWithin name count old new input = OfSeries count old name
    (λ total book series. HoldsPages count total (IsPast total name book series input) new)

-- The sets of some first runs of the input were done, or tried: each reads 96 blocks at most, and is one commit at most, of four
-- syncs and 131 writes.
pub record SpendsRuns (count : ℕ) (series : Series) (input : List ℕ) (old new : View) : Type 0 where
  pub runs : List Run
  pub first : AreFirst series.scale series.step input runs
  pub spends : Spends count (96 * length runs) (4 * length runs) (131 * length runs) old new

abbrev pub LoadsFew : List ℕ → ℕ → View → View → List ℕ → Type 0
LoadsFew name count old new input = OfSeries count old name (λ total book series. SpendsRuns count series input old new)

-- The sets of some first runs were done, and the next one is refused. The place tells the offset of its run's first line
-- and the refusal's number.
abbrev pub RefusesSet : List ℕ → ℕ → View → View → List ℕ → ℕ → Type 0
RefusesSet name count old new input place = OfSeries count old name (λ total book series.
    (at : ℕ) × (refusal : Refusal) × (place ≡ refused_at at (number_of refusal))
    × HoldsPages count total (IsAtRefusal total name book series input at refusal) new)

-- the same: the run begins at this offset, and its set is refused with this number
abbrev pub RefusesRun : List ℕ → ℕ → View → View → List ℕ → ℕ → ℕ → Type 0
RefusesRun name count old new input at number = OfSeries count old name (λ total book series.
    OfRefusal number (λ refusal. HoldsPages count total (IsAtRefusal total name book series input at refusal) new))

-- The image recovers to the book after the sets of some first runs; once a byte of the answer was sent, after those of all.
pub record IsAheadLoad (count total : ℕ) (name : List ℕ) (book : List Series) (series : Series) (input : List ℕ) (from : ℕ) (image : Image)
    (sent : ℕ) : Type 0 where
  pub readable : IsReadable count image
  pub within : total ≤ count
  pub old : KeepsOldStore count image
  pub some : IsAfterSome total name book series (Some input) (book_pages count image)
  pub all : from < sent → (readings : ℕ) × IsLoaded total name book series input readings (book_pages count image)

-- at each moment from old to new a crash leaves such an image
abbrev pub LeavesLoads : List ℕ → ℕ → List ℕ → View → View → Type 0
LeavesLoads name count input old new = OfSeries count old name
    (λ total book series. Since old new (IsAheadLoad count total name book series input (sent_now old)))

-- where the book has no series of the name, a crash leaves it at each moment
abbrev pub LeavesUnnamed : List ℕ → ℕ → View → View → Type 0
LeavesUnnamed name count old new = Unnamed count old name (λ total book. Since old new (λ image sent. RecoversTo count image total book))

-- Whatever the disk holds: the first bad line of the input is the one at this offset, by the scale that the record of the name
-- says.
pub record IsBadByRecord (count : ℕ) (disk : View) (name : List ℕ) (input : List ℕ) (at : ℕ) : Type 0 where
  pub scale : ℕ
  pub tells : TellsScale count disk name scale
  pub line : IsBadLine scale input at

-- so it is of a line that an end tells
abbrev pub IsAtLine : List ℕ → ℕ → View → List ℕ → End → Type 0
IsAtLine name count disk input (BadInput at) = IsBadByRecord count disk name input at
IsAtLine name count disk input end = ⊤

-- Whatever the disk holds: all lines of the input are rows, by the scale that the record of the name says, and so many of them
-- have a reading.
pub record IsReadByRecord (count : ℕ) (disk : View) (name : List ℕ) (input : List ℕ) (readings : ℕ) : Type 0 where
  pub scale : ℕ
  pub tells : TellsScale count disk name scale
  pub read : IsRead scale input readings

-- where a load was done that number was sent, and where a send failed a part of it
abbrev pub TellsReadings : List ℕ → ℕ → View → List ℕ → Option (List ℕ) → Option (List ℕ) → End → Type 0
TellsReadings name count disk input before now Done =
    (readings : ℕ) × IsReadByRecord count disk name input readings × (now ≡ sent_after (loaded_text readings) before)
TellsReadings name count disk input before now SendFault =
    (readings : ℕ) × IsReadByRecord count disk name input readings × SendsPartOf (loaded_text readings) before now
TellsReadings name count disk input before now end = ⊤

-- why a load ended, and what was done and sent
abbrev pub IsLoadEnd : End → List ℕ → View → View → Traffic → Type 0
IsLoadEnd Done name old new t =
    WasRead t.left t.left_now × IfSome t.left (λ input. LoadsAll name (page_count old.size) old new input t.sent t.sent_now)
IsLoadEnd NoMemory name old new t = IfSome t.left (λ input. LoadsSome name (page_count old.size) old new input) × (t.sent_now ≡ t.sent)
IsLoadEnd ReadFault name old new t =
    HasRisen t.reads t.reads_now × IfSome t.left (λ input. IfSome t.left_now (LoadsTaken name (page_count old.size) old new input))
    × (t.sent_now ≡ t.sent)
IsLoadEnd SendFault name old new t =
    HasRisen t.sends t.sends_now × IfSome t.left (λ input. LoadsAndSendsPart name (page_count old.size) old new input t.sent t.sent_now)
IsLoadEnd DiskFault name old new t = HasRisen old.faults new.faults × (t.sent_now ≡ t.sent)
IsLoadEnd (DamagedPage page) name old new t =
    IsDamagedLater IsBadForEdit (page_count old.size) new (block_of page) × Never (page_count old.size) old × (t.sent_now ≡ t.sent)
IsLoadEnd (BadInput at) name old new t = IfSome t.left (λ input. LoadsToBad name (page_count old.size) old new input at)
    × (t.sent_now ≡ t.sent)
IsLoadEnd InputTooLong name old new t =
    IsLong t.left × IfSome t.left (λ input. LoadsWithin name (page_count old.size) old new input) × (t.sent_now ≡ t.sent)
IsLoadEnd UnknownSeries name old new t =
    HasNone (page_count old.size) old name × OfBook (page_count old.size) old (λ total book. HoldsBook (page_count old.size) total book new)
    × LeavesSame (page_count old.size) old new × (t.left_now ≡ t.left) × (t.sent_now ≡ t.sent)
IsLoadEnd (Refused at number) name old new t =
    IfSome t.left (λ input. RefusesRun name (page_count old.size) old new input at number) × (t.sent_now ≡ t.sent)
IsLoadEnd end name old new t = IsUnopenedEnd end old new × (t.left_now ≡ t.left) × (t.sent_now ≡ t.sent)

-- the same, and what is so however it ended
pub record LoadEnds (name : List ℕ) (old new : View) (t : Traffic) (end : End) : Type 0 where
  pub is : IsLoadEnd end name old new t
  pub unnamed : Unnamed (page_count old.size) old name (λ total book. Contains unnamed_ends end)
  pub lacks : end ≡ UnknownSeries → LacksRecord (page_count old.size) old name
  pub crash : IfSome t.left (λ input. LeavesLoads name (page_count old.size) input old new)
  pub kept : LeavesUnnamed name (page_count old.size) old new
  pub costs : IfSome t.left (LoadsFew name (page_count old.size) old new)
  pub line : IfSome t.left (λ input. IsAtLine name (page_count old.size) old input end)
  pub read : IfSome t.left (λ input. TellsReadings name (page_count old.size) old input t.sent t.sent_now end)
  -- reads give what a crash may leave, where they did
  pub honest : Honest old → Honest new
  pub goes_on : GoesOn old new
