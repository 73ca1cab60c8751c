-- Laws of lines.
use Rattle.std.specs.Prelude.{◌≡◌, ◌≢◌, ℕ, List, [], ◌∷◌, ◌++◌, Some, slice_index}
use Rattle.std.specs.List.{AllPass}
use Rattle.csv_load.specs.Fields.{fields_of_line, trimmed, is_plain}

-- A line without quotes has the fields before and behind its comma, without the spaces around them.
abbrev pub PlainLinesHaveTwoFields : Type 0
PlainLinesHaveTwoFields =
    (time value : List ℕ)
    → AllPass is_plain time → AllPass is_plain value → slice_index (time ++ 44 ∷ value) 0 ≢ 0xEF
    → fields_of_line (time ++ 44 ∷ value) ≡ Some (record { time = trimmed time; value = trimmed value })

-- A carriage return at its end belongs to no field.
abbrev pub CarriageReturnsAreDropped : Type 0
CarriageReturnsAreDropped =
    (time value : List ℕ)
    → AllPass is_plain time → AllPass is_plain value → slice_index (time ++ 44 ∷ value) 0 ≢ 0xEF
    → fields_of_line (time ++ 44 ∷ (value ++ 13 ∷ [])) ≡ Some (record { time = trimmed time; value = trimmed value })
