-- The lines of a list of bytes.
use Rattle.std.specs.Prelude.{ℕ, ◌-◌, ◌≢◌, ◌==◌, Bool, nat_lt, if◌then◌else◌, List, [], ◌∷◌, Option, None, Some, length, take, map, All}
use Rattle.std.specs.Prelude.{slice_index}
use Rattle.std.specs.List.{slice_split}

-- a line feed ends a line
abbrev pub is_line_feed : ℕ → Bool
is_line_feed byte = byte == 10

-- no byte is a line feed
abbrev pub NoLineFeed : List ℕ → Type 0
NoLineFeed bytes = All (λ byte. byte ≢ 10) bytes

-- without the last part, if that is empty
abbrev pub without_empty_end : List (List ℕ) → List (List ℕ)
without_empty_end [] = []
without_empty_end ([] ∷ []) = []
without_empty_end (part ∷ parts) = part ∷ without_empty_end parts

-- The bytes, split at each line feed. A rest behind the last one is a line too, unless it is empty.
unfoldable pub split_lines : List ℕ → List (List ℕ)
split_lines bytes = without_empty_end (slice_split is_line_feed bytes)

-- one carriage return at the end is dropped
abbrev pub without_return : List ℕ → List ℕ
without_return line = if slice_index line (length line - 1) == 13 then take (length line - 1) line else line

-- What a line says. More than 8,192 bytes are too long, and say nothing.
abbrev pub text_of : List ℕ → Option (List ℕ)
text_of line = if nat_lt 8192 (length line) then None else Some (without_return line)

-- what each line says, None where it is too long
unfoldable pub lines : List ℕ → List (Option (List ℕ))
lines bytes = map text_of (split_lines bytes)
