use Rattle.std.specs.Prelude.{ℕ, ◌+◌, Bool, ◌==◌, nat_le, if◌then◌else◌, List, [], length, drop}
use Rattle.std.specs.List.{slice_split, before_first}

-- the byte between two tokens
abbrev pub is_space : ℕ → Bool
is_space byte = byte == 32

-- the tokens of a line: the pieces between its spaces, empty ones too
abbrev pub tokens : List ℕ → List (List ℕ)
tokens line = slice_split is_space line

-- a line that is read up to an offset: that of the next token, or one more than the length where no
-- token is left
pub record Cursor : Type 0 where
  pub line : List ℕ
  pub at : ℕ

-- the tokens that are left
unfoldable pub tokens_left : Cursor → List (List ℕ)
tokens_left cursor = if nat_le cursor.at (length cursor.line) then tokens (drop cursor.at cursor.line) else []

-- the next token, where one is left
unfoldable pub next_token : Cursor → List ℕ
next_token cursor = before_first is_space (drop cursor.at cursor.line)

-- the cursor past the next token
abbrev pub past_token : Cursor → Cursor
past_token cursor = record { line = cursor.line; at = cursor.at + length (next_token cursor) + 1 }
