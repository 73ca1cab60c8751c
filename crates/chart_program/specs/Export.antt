-- The page of `export NAME` and `export NAME T0 T1`: the stored values of the series of this name of the store's book are sent.
use Rattle.std.specs.Prelude.{◌≡◌, ℕ, List, Option, Contains}
use Rattle.block_disk.specs.Counts.{HasRisen}
use Rattle.block_disk.specs.View.{View}
use Rattle.disk_store.specs.Held.{HoldsBook}
use Rattle.gate_pages.specs.Journal.{page_count}
use Rattle.run_ends.specs.declared.ending.End.{End}
use Rattle.run_ends.specs.declared.ending.End.TheVariants.{Done, NoMemory, SendFault, DiskFault, DamagedBlock, DamagedPage, TooSmall}
use Rattle.run_ends.specs.declared.ending.End.TheVariants.{UnknownSeries}
use Rattle.series_book.specs.declared.one_series.Series.{Series}
use Rattle.series_export.specs.declared.window.Window.{Window}
use Rattle.series_load.specs.Sets.{IsNamed}
use Rattle.store_commands.specs.Exported.{ExportsAll, ExportsPart, HasNone, IsBadForExport, ReadsSeries, unnamed_ends}
use Rattle.store_commands.specs.Lacking.{LacksRecord}
use Rattle.store_commands.specs.Loaded.{Unnamed}
use Rattle.store_commands.specs.Salvaged.{ReadsHeld, Salvages}
use Rattle.chart_program.specs.Course.{Course, FoundDamaged, FoundPage, HasFewBlocks, HeldNoBook, IsDoneOrCut, KeptBook, OverStore}
use Rattle.chart_program.specs.Course.{WritesLittle}
use Rattle.chart_program.specs.Course.{SentNothing, TookNothing, count}

-- what it sent, by how it ended
abbrev pub ExportDoes : List ℕ → Option Window → Course → End → Type 0
ExportDoes name window c Done = ExportsAll name window (count c) c.old c.sent c.sent_now
ExportDoes name window c NoMemory = ExportsPart name window (count c) c.old c.sent c.sent_now
ExportDoes name window c SendFault = ExportsPart name window (count c) c.old c.sent c.sent_now
ExportDoes name window c DiskFault = ExportsPart name window (count c) c.old c.sent c.sent_now
ExportDoes name window c (DamagedBlock block) = FoundDamaged c block × HeldNoBook c
ExportDoes name window c (DamagedPage page) = FoundPage (IsBadForExport name) c c.old page × HeldNoBook c
ExportDoes name window c (TooSmall blocks) = HasFewBlocks c blocks
ExportDoes name window c UnknownSeries = HasNone (count c) c.old name × SentNothing c
ExportDoes name window c end = ⊥

-- the disk holds a book with a series of this name, and no call of it failed
pub record HoldsNamed (name : List ℕ) (old new : View) : Type 0 where
  pub total : ℕ
  pub book : List Series
  pub holds : HoldsBook (page_count old.size) total book old
  pub series : Series
  pub named : IsNamed book name series
  pub whole : HasRisen old.faults new.faults → ⊥

-- The same, and what is so however it ended. Where no series has the name, it says so, unless a call of the disk failed or there
-- was no memory. No more blocks are read than by an opening, and each page of the series' tree once.
pub record OfExport (name : List ℕ) (window : Option Window) (c : Course) (end : End) : Type 0 where
  pub does : ExportDoes name window c end
  pub store : OverStore c end
  pub untaken : TookNothing c
  pub unnamed : Unnamed (count c) c.old name (λ total book. Contains unnamed_ends end)
  pub lacks : end ≡ UnknownSeries → LacksRecord (count c) c.old name
  pub kept : KeptBook c
  pub few : WritesLittle c
  pub reads : ReadsSeries name (count c) c.old c.new
  -- Of a series that the pages hold where those of its tree fit, whatever else is damaged: with 0 its text was sent, with 7 what
  -- stands before the damaged page, with any other status a front of it; and no page of a whole tree is called damaged.
  pub salvaged : Salvages name window (count c) c.old c.sent c.sent_now end
  pub held_reads : ReadsHeld name window (count c) c.old c.new
  pub good : HoldsNamed name c.old c.new → IsDoneOrCut end
