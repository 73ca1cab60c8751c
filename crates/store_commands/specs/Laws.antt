-- The laws of copies: what an export sent is loaded into another series.
use Rattle.std.specs.Prelude.{◌≡◌, ℕ, List, [], Option, None, Some}
use Rattle.block_disk.specs.Streams.{sent_after}
use Rattle.block_disk.specs.View.{View}
use Rattle.series_book.specs.declared.one_series.Series.{Series}
use Rattle.series_export.specs.Exports.{export_text}
use Rattle.series_export.specs.RoundTrips.{StandsForSame}
use Rattle.series_export.specs.declared.window.Window.{Window}
use Rattle.store_commands.specs.Books.{HoldsPages}
use Rattle.store_commands.specs.Copied.{IsCopied, FitsInto}
use Rattle.store_commands.specs.Exported.{ExportsAll}
use Rattle.store_commands.specs.Loaded.{LoadEnds, LoadsAll}
use Rattle.store_commands.specs.Traffic.{Traffic}
use Rattle.run_ends.specs.declared.ending.End.{End}

-- Where all that an export sent was loaded into a new series of the same start, step and scale, that one holds the same.
abbrev pub CopiesHoldTheSame : View → View → View → Type 0
CopiesHoldTheSame source old new =
    (name copy : List ℕ) (source_count count : ℕ) (bytes : List ℕ) (before now : Option (List ℕ))
    → ExportsAll name None source_count source (Some []) (Some bytes) → LoadsAll copy count old new bytes before now
    → IsCopied name copy source_count count source old new

-- An export of a series that holds the same sends the same bytes, in any window.
abbrev pub CopiesExportTheSame : View → Type 0
CopiesExportTheSame new =
    (copy : List ℕ) (count total : ℕ) (series : Series) (window : Option Window) (before now : Option (List ℕ))
    → HoldsPages count total (StandsForSame total copy series) new → ExportsAll copy window count new before now
    → now ≡ sent_after (export_text series window) before

-- Where the old disk has room for the series that an export sent, and a new one for it, a load of the bytes finds no bad line and no set
-- is refused.
abbrev pub CopiesFit : View → View → View → Type 0
CopiesFit source old new =
    (name copy : List ℕ) (source_count : ℕ) (bytes : List ℕ) (t : Traffic) (end : End)
    → ExportsAll name None source_count source (Some []) (Some bytes) → t.left ≡ Some bytes → LoadEnds copy old new t end
    → FitsInto name copy source_count source old new bytes end
