-- The two fields of a line.
use Rattle.std.specs.Prelude.{ℕ, ◌-◌, Bool, not, ◌==◌, ◌&&◌, List, [], ◌∷◌, length, take, drop, Option, None, Some, option_map}
use Rattle.std.specs.Prelude.{option_and_then}
use Rattle.std.specs.List.{prefix_len, suffix_len}
use Rattle.csv.specs.Reading.{records, default_config, strip_bom}

-- a field for the time and a field for the value
pub record Fields : Type 0 where
  pub time : List ℕ
  pub value : List ℕ

-- the record of a text that has one record
abbrev pub only_record : List (List (List ℕ)) → Option (List (List ℕ))
only_record [] = None
only_record (fields ∷ []) = Some fields
only_record (fields ∷ other ∷ others) = None

-- the fields of a record that has two fields
abbrev pub pair_of : List (List ℕ) → Option Fields
pair_of [] = None
pair_of (time ∷ []) = None
pair_of (time ∷ value ∷ []) = Some (record { time = time; value = value })
pair_of (time ∷ value ∷ other ∷ others) = None

-- the byte means nothing to `csv`: it is no comma, no double quote and no end of a line
abbrev pub is_plain : ℕ → Bool
is_plain byte = not (byte == 44) && not (byte == 34) && not (byte == 10) && not (byte == 13)

-- the byte is a space
abbrev pub is_space : ℕ → Bool
is_space byte = byte == 32

-- a text without the spaces at its front, and without those at its end
abbrev pub without_front : List ℕ → List ℕ
without_front text = drop (prefix_len is_space text) text

abbrev pub without_end : List ℕ → List ℕ
without_end text = take (length text - suffix_len is_space text) text

-- a field without the spaces at its ends
unfoldable pub trimmed : List ℕ → List ℕ
trimmed field = without_end (without_front field)

abbrev pub trimmed_fields : Fields → Fields
trimmed_fields fields = record { time = trimmed fields.time; value = trimmed fields.value }

-- the fields of a line: those of the one record that `csv` reads of it, where it has two
unfoldable pub fields_of_line : List ℕ → Option Fields
fields_of_line line =
    option_map trimmed_fields (option_and_then pair_of (only_record (records default_config (strip_bom line))))
