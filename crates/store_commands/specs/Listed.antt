-- How a list of the series of the disk's store ends.
use Rattle.std.specs.Prelude.{◌≡◌, ℕ, ◌+◌, ◌≤◌, List, length, slice_get, flat_map, Option, Some}
use Rattle.block_disk.specs.Counts.{HasRisen}
use Rattle.block_disk.specs.Streams.{sent_after}
use Rattle.block_disk.specs.View.{Honest, Image, View}
use Rattle.catalog_page.specs.Entries.{Entry}
use Rattle.gate_pages.specs.Journal.{page_count}
use Rattle.gate_pages.specs.Pages.{GoesOn}
use Rattle.reading_lines.specs.Lines.{series_line}
use Rattle.series_book.specs.declared.axis.Axis.{Axis}
use Rattle.series_book.specs.declared.one_series.Series.{Series}
use Rattle.page_space.specs.declared.superblock.Superblock.{Superblock}
use Rattle.stored_book.specs.Damage.{SaysNumbers}
use Rattle.stored_book.specs.Records.{entry}
use Rattle.stored_book.specs.Standing.{book_pages}
use Rattle.disk_store.specs.Held.{HoldsBook}
use Rattle.disk_store.specs.Openings.{WritesFew}
use Rattle.store_commands.specs.Books.{OfBook, LeavesSame, SendsPartOf}
use Rattle.run_ends.specs.declared.ending.End.{End}
use Rattle.run_ends.specs.declared.ending.End.TheVariants.{Done, SendFault}
use Rattle.store_commands.specs.Unopened.{IsUnopenedEnd}

-- the axis of a series' slots
abbrev pub axis_of : Series → Axis
axis_of series = record { start = series.start; step = series.step; slots = length series.slots }

-- the line of a series: its name, start, step, scale and number of slots
abbrev pub line_of : Series → List ℕ
line_of series = series_line series.name (axis_of series) series.scale

-- a line for each series of a book, in the order of their creation
abbrev pub list_text : List Series → List ℕ
list_text book = flat_map line_of book

-- the lines of the book that the disk holds were sent
abbrev pub SendsList : ℕ → View → Option (List ℕ) → Option (List ℕ) → Type 0
SendsList count disk before now = OfBook count disk (λ total book. now ≡ sent_after (list_text book) before)

-- the first bytes of them were sent
abbrev pub SendsListPart : ℕ → View → Option (List ℕ) → Option (List ℕ) → Type 0
SendsListPart count disk before now = OfBook count disk (λ total book. SendsPartOf (list_text book) before now)

-- the line of what a record of the catalog says
abbrev pub entry_line : Entry → List ℕ
entry_line e = series_line e.name (record { start = e.start; step = e.step; slots = e.slots }) e.scale

-- the lines of the records that page 0 counts were sent, in order
pub record SendsRecords (image : Image) (s : Superblock) (before now : Option (List ℕ)) : Type 0 where
  pub entries : List Entry
  pub count : length entries ≡ s.series
  pub each : (id : ℕ) (e : Entry) → slice_get entries id ≡ Some e → e ≡ entry image id
  pub sent : now ≡ sent_after (flat_map entry_line entries) before

-- so by the pages for which the disk stands, in version 2, where reads give what a crash may leave: whatever else it holds
abbrev pub ListsRecords : ℕ → View → Option (List ℕ) → Option (List ℕ) → Type 0
ListsRecords count disk before now =
    Honest disk → SaysNumbers count (book_pages count disk.image) (λ s. SendsRecords (book_pages count disk.image) s before now)

-- at most the blocks were read that an opening reads
abbrev pub ReadsOpening : View → View → Type 0
ReadsOpening old new = new.reads ≤ old.reads + 200

-- what a list sent, and why it ended
abbrev pub IsListEnd : End → View → View → Option (List ℕ) → Option (List ℕ) → ℕ → ℕ → Type 0
IsListEnd Done old new before now sends sends_now = SendsList (page_count old.size) old before now
IsListEnd SendFault old new before now sends sends_now = HasRisen sends sends_now × SendsListPart (page_count old.size) old before now
IsListEnd end old new before now sends sends_now = IsUnopenedEnd end old new × (now ≡ before)

-- the same, and what it left
pub record ListEnds (old new : View) (before now : Option (List ℕ)) (sends sends_now : ℕ) (end : End) : Type 0 where
  pub is : IsListEnd end old new before now sends sends_now
  pub records : end ≡ Done → ListsRecords (page_count old.size) old before now
  pub crash : LeavesSame (page_count old.size) old new
  pub holds : OfBook (page_count old.size) old (λ total book. HoldsBook (page_count old.size) total book new)
  pub reads : ReadsOpening old new
  -- it syncs and writes no more than an opening
  pub few : WritesFew (page_count old.size) old new
  -- reads give what a crash may leave, where they did
  pub honest : Honest old → Honest new
  pub goes_on : GoesOn old new
