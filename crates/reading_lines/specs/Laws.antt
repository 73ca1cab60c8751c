-- Laws of lines that are read back.
use Rattle.std.specs.Prelude.{◌≡◌, ℕ, ℤ, ◌<◌, ◌^◌, List, [], ◌∷◌, unsigned_abs}
use Rattle.std.specs.List.{slice_split}
use Rattle.std.specs.Fmt.{decimal, signed_decimal}
use Rattle.csv_load.specs.Fields.{is_space}
use Rattle.reading_lines.specs.Lines.{reading_line, series_row, series_line, IsTold}
use Rattle.series_book.specs.declared.axis.Axis.{Axis}

-- Two readings of one line are the same.
abbrev pub LinesTellOneReading : Type 0
LinesTellOneReading =
    (scale : ℕ) (time value later other : ℤ)
    → unsigned_abs time < 10 ^ 19 → unsigned_abs value < 10 ^ 19 → unsigned_abs later < 10 ^ 19 → unsigned_abs other < 10 ^ 19
    → reading_line scale time value ≡ reading_line scale later other → (time ≡ later) × (value ≡ other)

-- The words of the line of a series are its name, start, step, scale and length.
abbrev pub SeriesLinesAreWords : Type 0
SeriesLinesAreWords =
    (name : List ℕ) (axis : Axis) (scale : ℕ)
    → IsTold name axis scale
    → slice_split is_space (series_row name axis scale) ≡ name ∷ signed_decimal axis.start ∷ decimal axis.step ∷ decimal scale ∷ decimal
    axis.slots ∷ []

-- Two series of one line are the same.
abbrev pub LinesTellOneSeries : Type 0
LinesTellOneSeries =
    (name other : List ℕ) (axis later : Axis) (scale places : ℕ)
    → IsTold name axis scale → IsTold other later places → series_line name axis scale ≡ series_line other later places
    → (name ≡ other) × (axis ≡ later) × (scale ≡ places)
