-- What the definition of lines comes to.
use Rattle.std.specs.Prelude.{ℕ, ◌≡◌, ◌≢◌, List, [], ◌∷◌, ◌++◌}
use Rattle.std.specs.List.{before_first, after_first, flat_map}
use Rattle.chart_world.specs.Lines.{is_line_feed, split_lines, text_of, lines, NoLineFeed}

-- a line with its line feed
abbrev pub with_line_feed : List ℕ → List ℕ
with_line_feed line = line ++ 10 ∷ []

-- The first line stands before the first line feed, and the others are those of the bytes behind it.
abbrev pub FirstLine : Type 0
FirstLine = (bytes : List ℕ) → bytes ≢ [] → lines bytes ≡ text_of (before_first is_line_feed bytes) ∷ lines (after_first is_line_feed bytes)

-- Bytes that end in a line feed are their lines, each with its line feed.
abbrev pub JoinedLines : Type 0
JoinedLines = (bytes : List ℕ) → flat_map with_line_feed (split_lines (with_line_feed bytes)) ≡ with_line_feed bytes

-- A rest behind the last line feed is a line of its own.
abbrev pub RestLine : Type 0
RestLine = (bytes rest : List ℕ) → NoLineFeed rest → rest ≢ []
    → split_lines (with_line_feed bytes ++ rest) ≡ split_lines (with_line_feed bytes) ++ rest ∷ []
