-- What of a series' export was sent where a page of its tree is damaged.
use Rattle.std.specs.Prelude.{ℕ, ◌≡◌, List, Option, ⊤}
use Rattle.block_disk.specs.Streams.{sent_after}
use Rattle.block_disk.specs.View.{Image}
use Rattle.series_book.specs.declared.one_series.Series.{Series}
use Rattle.series_store.specs.Sending.{IsUnfitIn}
use Rattle.series_store.specs.declared.send_errors.SendError.{SendError}
use Rattle.series_store.specs.declared.send_errors.SendError.TheVariants.{SendFault, DiskFault, Damaged, NoMemory}
use Rattle.series_export.specs.Exports.{export_text, first_slots}
use Rattle.series_export.specs.declared.window.Window.{Window}

-- The page is unfit for its place in the tree that the record of this id names, where its range begins with this slot. Of the
-- series' export in the window all was sent that stands before it, and no more.
pub record ExportsBefore (image : Image) (total id page : ℕ) (series : Series) (window : Option Window)
    (before now : Option (List ℕ)) : Type 0 where
  pub slot : ℕ
  pub from : IsUnfitIn image total id page slot
  pub sent : now ≡ sent_after (export_text (first_slots series slot) window) before

-- so it is where a page is damaged
abbrev pub CutsExport : SendError → Image → ℕ → ℕ → Series → Option Window → Option (List ℕ) → Option (List ℕ) → Type 0
CutsExport SendFault image total id series window before now = ⊤
CutsExport DiskFault image total id series window before now = ⊤
CutsExport (Damaged page) image total id series window before now = ExportsBefore image total id page series window before now
CutsExport NoMemory image total id series window before now = ⊤
