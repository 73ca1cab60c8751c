-- How an export of a series of the disk's store ends.
use Rattle.std.specs.Prelude.{◌≡◌, ℕ, ◌+◌, ◌<◌, ◌≤◌, ◌⊎◌, List, Contains, Option, ⊤}
use Rattle.block_disk.specs.Counts.{HasRisen}
use Rattle.block_disk.specs.Streams.{sent_after}
use Rattle.block_disk.specs.View.{Honest, Image, View}
use Rattle.gate_pages.specs.Journal.{page_count}
use Rattle.gate_pages.specs.Pages.{GoesOn}
use Rattle.series_book.specs.Pages.{series_pages}
use Rattle.series_export.specs.Exports.{export_text}
use Rattle.series_export.specs.declared.window.Window.{Window}
use Rattle.disk_store.specs.Held.{HoldsBook}
use Rattle.disk_store.specs.Openings.{WritesFew}
use Rattle.stored_book.specs.Damage.{SaysNumbers}
use Rattle.store_commands.specs.Books.{OfBook, Never, LeavesSame, SendsPartOf}
use Rattle.store_commands.specs.Damaged.{IsDamagedAtFirst, IsDamagedLater}
use Rattle.store_commands.specs.Lacking.{HasBadTreeOf, LacksRecord}
use Rattle.run_ends.specs.Statuses.{block_of}
use Rattle.run_ends.specs.declared.ending.End.{End}
use Rattle.run_ends.specs.declared.ending.End.TheVariants.{Done, NoMemory, SendFault, DiskFault, DamagedPage, UnknownSeries}
use Rattle.store_commands.specs.Loaded.{OfSeries, Unnamed}
pub use Rattle.store_commands.specs.Loaded.{HasNone, unnamed_ends}
use Rattle.store_commands.specs.Salvaged.{ReadsHeld, Salvages}
use Rattle.store_commands.specs.Unopened.{IsUnopenedEnd}

-- the text of the series of this name was sent, in the window if there is one
abbrev pub ExportsAll : List ℕ → Option Window → ℕ → View → Option (List ℕ) → Option (List ℕ) → Type 0
ExportsAll name window count disk before now = OfSeries count disk name
    (λ total book series. now ≡ sent_after (export_text series window) before)

-- the first bytes of it were sent
abbrev pub ExportsPart : List ℕ → Option Window → ℕ → View → Option (List ℕ) → Option (List ℕ) → Type 0
ExportsPart name window count disk before now = OfSeries count disk name
    (λ total book series. SendsPartOf (export_text series window) before now)

-- at most the blocks were read that an opening reads, and each page of the series' tree once
abbrev pub ReadsSeries : List ℕ → ℕ → View → View → Type 0
ReadsSeries name count old new = OfSeries count old name (λ total book series. new.reads ≤ old.reads + 200 + series_pages series.slots)

-- the page is below the total that page 0 says, and is one of the tree of the series of this name that is bad for its place
abbrev pub IsBadForExport : List ℕ → ℕ → Image → ℕ → Type 0
IsBadForExport name count image page = SaysNumbers count image (λ s. (page < s.total) × HasBadTreeOf image s name page)

-- no store was opened, and nothing was sent; or a page was found bad as the series was read
abbrev pub IsDamagedForExport : List ℕ → View → Option (List ℕ) → Option (List ℕ) → ℕ → Type 0
IsDamagedForExport name old before now place = (IsDamagedAtFirst old place × (now ≡ before))
    ⊎ IsDamagedLater (IsBadForExport name) (page_count old.size) old place

-- why an export ended, and what it sent where no series was read
abbrev pub IsExportEnd : End → List ℕ → Option Window → View → View → Option (List ℕ) → Option (List ℕ) → ℕ → ℕ → Type 0
IsExportEnd Done name window old new before now sends sends_now = ExportsAll name window (page_count old.size) old before now
IsExportEnd NoMemory name window old new before now sends sends_now = ⊤
IsExportEnd SendFault name window old new before now sends sends_now = HasRisen sends sends_now
IsExportEnd DiskFault name window old new before now sends sends_now = HasRisen old.faults new.faults
IsExportEnd (DamagedPage page) name window old new before now sends sends_now =
    IsDamagedLater (IsBadForExport name) (page_count old.size) old (block_of page) × Never (page_count old.size) old
IsExportEnd UnknownSeries name window old new before now sends sends_now = HasNone (page_count old.size) old name × (now ≡ before)
IsExportEnd end name window old new before now sends sends_now = IsUnopenedEnd end old new × (now ≡ before)

-- the same, and what an export sent and left
pub record ExportEnds (name : List ℕ) (window : Option Window) (old new : View) (before now : Option (List ℕ)) (sends sends_now : ℕ)
    (end : End) : Type 0 where
  pub is : IsExportEnd end name window old new before now sends sends_now
  pub part : ExportsPart name window (page_count old.size) old before now
  pub unnamed : Unnamed (page_count old.size) old name (λ total book. Contains unnamed_ends end)
  pub lacks : end ≡ UnknownSeries → LacksRecord (page_count old.size) old name
  pub crash : LeavesSame (page_count old.size) old new
  pub holds : OfBook (page_count old.size) old (λ total book. HoldsBook (page_count old.size) total book new)
  pub reads : ReadsSeries name (page_count old.size) old new
  -- of a series that the pages hold, whatever else they are
  pub salvaged : Salvages name window (page_count old.size) old before now end
  pub held_reads : ReadsHeld name window (page_count old.size) old new
  -- it syncs and writes no more than an opening
  pub few : WritesFew (page_count old.size) old new
  -- reads give what a crash may leave, where they did
  pub honest : Honest old → Honest new
  pub goes_on : GoesOn old new
