-- What the parts of an export do.
use Rattle.std.specs.Prelude.{ℕ, ◌≡◌, ◌+◌, ◌≤◌, List, Option, Result, Ok, Err, ⊤}
use Rattle.block_disk.specs.Counts.{HasRisen}
use Rattle.block_disk.specs.View.{Honest, View}
use Rattle.block_disk.specs.declared.disk.Disk.{Ghosts}
use Rattle.gate_pages.specs.Pages.{GoesOn}
use Rattle.gate_pages.specs.Shown as gate
use Rattle.gate_pages.specs.declared.gate_pages.GatePages.{GatePages}
use Rattle.run_ends.specs.Statuses.{block_of}
use Rattle.run_ends.specs.declared.ending.End.{End}
use Rattle.run_ends.specs.declared.ending.End.TheVariants as ends
use Rattle.series_book.specs.Pages.{series_pages}
use Rattle.series_export.specs.Exports.{window_pages}
use Rattle.series_export.specs.declared.window.Window.{Window}
use Rattle.series_store.specs.declared.send_errors.SendError.{SendError}
use Rattle.series_store.specs.declared.send_errors.SendError.TheVariants.{SendFault, DiskFault, Damaged, NoMemory}
use Rattle.series_store.specs.Results.{CommitsNone}
use Rattle.disk_store.specs.Held.{HoldsBook}
use Rattle.store_commands.specs.Books.{OfBook, Never, LeavesSame}
use Rattle.store_commands.specs.Damaged.{IsDamagedLater}
use Rattle.store_commands.specs.Exported.{ExportsAll, ExportsPart, HasNone, IsBadForExport}
use Rattle.store_commands.specs.Lacking.{LacksRecord}
use Rattle.store_commands.specs.Loaded.{OfSeries, Unnamed}
use Rattle.store_commands.specs.Salvaged.{OfFitSeries, Salvages}
use Rattle.store_commands.specs.Traffic.{Traffic}

-- the end by what sending a series answers
abbrev pub export_end : Result (Unit {0}) SendError → End
export_end (Ok done) = ends.Done
export_end (Err SendFault) = ends.SendFault
export_end (Err DiskFault) = ends.DiskFault
export_end (Err (Damaged page)) = ends.DamagedPage page
export_end (Err NoMemory) = ends.NoMemory

-- why the export of an opened store ended
abbrev pub EndsExport : End → List ℕ → Option Window → ℕ → View → View → Option (List ℕ) → Option (List ℕ) → ℕ → ℕ → Type 0
EndsExport ends.Done name window count old new before now sends sends_now = ExportsAll name window count old before now
EndsExport ends.NoMemory name window count old new before now sends sends_now = ⊤
EndsExport ends.SendFault name window count old new before now sends sends_now = HasRisen sends sends_now
EndsExport ends.DiskFault name window count old new before now sends sends_now = HasRisen old.faults new.faults
EndsExport (ends.DamagedPage page) name window count old new before now sends sends_now =
    IsDamagedLater (IsBadForExport name) count old (block_of page) × Never count old
EndsExport ends.UnknownSeries name window count old new before now sends sends_now = HasNone count old name × (now ≡ before)
EndsExport end name window count old new before now sends sends_now = ⊥

-- The same, and what it sent and left.
pub record ExportsStore (name : List ℕ) (window : Option Window) (count : ℕ) (old new : View) (before now : Option (List ℕ))
    (sends sends_now : ℕ) (end : End) : Type 0 where
  pub is : EndsExport end name window count old new before now sends sends_now
  pub part : ExportsPart name window count old before now
  pub unnamed : Unnamed count old name (λ total book. end ≡ ends.UnknownSeries)
  pub lacks : end ≡ ends.UnknownSeries → LacksRecord count old name
  pub crash : LeavesSame count old new
  pub holds : OfBook count old (λ total book. HoldsBook count total book new)
  pub reads : OfSeries count old name (λ total book series. new.reads ≤ old.reads + series_pages series.slots)
  pub salvaged : Salvages name window count old before now end
  pub held_reads : OfFitSeries count old name (λ series. new.reads ≤ old.reads + window_pages series window)
  pub unwritten : CommitsNone old new
  -- reads give what a crash may leave, where they did
  pub honest : Honest old → Honest new
  pub goes_on : GoesOn old new

-- the same over the pages of an open store on a world, by what passed through the streams
abbrev pub ExportsOn : {W : Type 0} {disk : Ghosts W} → List ℕ → Option Window → (W → View) → GatePages W disk → W → Traffic → End → Type 0
ExportsOn name window view pages new t end = ExportsStore name window (gate.count pages) (view (gate.disk pages))
    (view new) t.sent t.sent_now t.sends t.sends_now end
