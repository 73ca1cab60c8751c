-- The lines of an input with their places.
use Rattle.std.specs.Prelude.{ℕ, ◌+◌, List, [], ◌∷◌, length, Option}
use Rattle.std.specs.List.{filter}
use Rattle.chart_world.specs.Fronts.{says}
use Rattle.chart_world.specs.Lines.{split_lines, text_of}

-- a line: the offset of its first byte, and what it says, None where it is too long
pub record PlacedLine : Type 0 where
  pub at : ℕ
  pub text : Option (List ℕ)

-- these lines, of which the first begins at this offset; a line feed stands behind each
abbrev pub placed_from : ℕ → List (List ℕ) → List PlacedLine
placed_from at [] = []
placed_from at (line ∷ later) = record { at = at; text = text_of line } ∷ placed_from (at + length line + 1) later

-- the lines that aren't empty
unfoldable pub told : List ℕ → List PlacedLine
told bytes = filter (λ line. says line.text) (placed_from 0 (split_lines bytes))
