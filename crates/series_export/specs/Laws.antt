-- The laws of exports that are loaded again.
use Rattle.std.specs.Prelude.{◌≡◌, ◌≤◌, ℕ, List, [], ◌++◌, length, Option, None, Some}
use Rattle.block_disk.specs.View.{Image}
use Rattle.series_book.specs.declared.one_series.Series.{Series}
use Rattle.series_book.specs.Books.{IsSeries}
use Rattle.series_book.specs.Pages.{pages_of}
use Rattle.series_load.specs.Ends.{IsLoaded}
use Rattle.series_load.specs.Rows.{Reading, ReadsRows}
use Rattle.series_load.specs.Runs.{Run, AllRuns}
use Rattle.series_load.specs.Sets.{IsNamed, Loads}
use Rattle.series_export.specs.Exports.{stored_values, export_text, header, lines_of}
use Rattle.series_export.specs.Pieces.{AreBefore, Piece, ArePieces, readings_in}
use Rattle.series_export.specs.declared.window.Window.{Window}
use Rattle.series_export.specs.RoundTrips.{values_of, IsBegunAs, HoldsNamed, StandsForSame}
use Rattle.series_export.specs.Room.{HasNewFor, HasRoomFor, AreRunsOf, Accepts, GoesThrough}

-- The sets of rows that read the stored values of a series give a new series the same values at the same slots.
abbrev pub SetsHoldTheSame : Type 0
SetsHoldTheSame =
    (series begun : Series) (rows : List (Option Reading)) (runs : List Run) (total : ℕ) (name : List ℕ) (book new : List Series)
    → 1 ≤ series.step → IsBegunAs series begun → IsNamed book name begun → values_of rows ≡ stored_values series
    → AllRuns series.step rows runs
    → Loads total name book runs new → HoldsNamed new name series

-- The rows of the export of a series read its stored values.
abbrev pub RowsAreTheValues : Type 0
RowsAreTheValues =
    (series : Series) (rows : List (Option Reading))
    → IsSeries series → ReadsRows series.scale (export_text series None) (export_text series None) [] rows
    → values_of rows ≡ stored_values series

-- A load of the whole export into a new series of the same start, step and scale gives it the same values.
abbrev pub LoadedExportsAreTheSame : Type 0
LoadedExportsAreTheSame =
    (total : ℕ) (name : List ℕ) (book : List Series) (series begun : Series) (count : ℕ) (image : Image)
    → IsSeries series → IsBegunAs series begun → IsNamed book name begun
    → IsLoaded total name book begun (export_text series None) count image
    → StandsForSame total name series image

-- Where the sets of the runs are accepted, there was room for them.
abbrev pub RoomIsNeeded : Type 0
RoomIsNeeded =
    (total : ℕ) (name : List ℕ) (book : List Series) (series : Series) (runs : List Run)
    → IsSeries series → HasNewFor name book series → pages_of book ≤ total → AreRunsOf series runs → Accepts total name book runs
    → HasRoomFor total name book series

-- Where there is room, a load of the export goes through.
abbrev pub ExportsGoThrough : Type 0
ExportsGoThrough =
    (total : ℕ) (name : List ℕ) (book : List Series) (series begun : Series)
    → IsSeries series → HasRoomFor total name book series → IsNamed book name begun
    → GoesThrough total name book begun (export_text series None)

-- Of the pieces of a window, one behind the other, comes the export of the window, line by line.
abbrev pub PiecesAreTheExport : Type 0
PiecesAreTheExport =
    (series : Series) (window : Window) (from to : ℕ) (pieces : List Piece)
    → AreBefore series window.from from → AreBefore series window.to to → ArePieces series.slots from to pieces
    → export_text series (Some window) ≡ header ++ lines_of series.scale (readings_in series pieces)

-- And of those of all slots comes the whole export.
abbrev pub PiecesAreTheWholeExport : Type 0
PiecesAreTheWholeExport =
    (series : Series) (pieces : List Piece)
    → ArePieces series.slots 0 (length series.slots) pieces
    → export_text series None ≡ header ++ lines_of series.scale (readings_in series pieces)
