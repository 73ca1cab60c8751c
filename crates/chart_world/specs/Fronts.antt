-- Fronts of an input that are whole lines, and how far a reader of its lines has come.
use Rattle.std.specs.Prelude.{◌≡◌, ◌⊎◌, ℕ, ◌+◌, Bool, true, false, IsTrue, List, [], ◌∷◌, ◌++◌, length, take, Option, None, Some, IfSome}
use Rattle.std.specs.List.{position_or_len}
use Rattle.block_disk.specs.Streams.{left_after}
use Rattle.chart_world.specs.Lines.{is_line_feed}
use Rattle.chart_world.specs.Reading.{Reading, IsNone, unread, told_lines, with_first, behind_first, input_length}

-- the line says something: it isn't empty, or it is too long
abbrev pub says : Option (List ℕ) → Bool
says None = true
says (Some []) = false
says (Some (byte ∷ bytes)) = true

-- no byte, or whole lines with their line feeds
abbrev pub IsWhole : List ℕ → Type 0
IsWhole bytes = (bytes ≡ []) ⊎ ((before : List ℕ) × (bytes ≡ before ++ 10 ∷ []))

-- The input begins with these bytes, and this stands behind them. Each of their lines has its line
-- feed, or the input ends with it.
pub record BeginsWith (input front rest : List ℕ) : Type 0 where
  pub split : input ≡ front ++ rest
  pub whole : IsWhole front ⊎ (rest ≡ [])

-- the first line with its line feed, or all that is left
abbrev pub first_piece : List ℕ → List ℕ
first_piece bytes = take (position_or_len is_line_feed bytes + 1) bytes

-- what a step of the reader of lines gives: the line is the first of those that were unread
pub record Gives (old new : Reading) (left left' : Option (List ℕ)) (line : Option (List ℕ)) : Type 0 where
  pub first : told_lines (unread old left) ≡ with_first line (told_lines (unread new left'))
  pub rest : unread new left' ≡ behind_first (unread old left)
  pub counted : old.taken ≡ old.given + length old.pending
  pub counted_new : new.taken ≡ new.given + length new.pending
  pub total : input_length new.taken left' ≡ input_length old.taken left

-- The reader stands in this input, where that is told: the bytes it has given are the front, and the unread ones the rest. Until
-- a take finds the end the front is whole lines, and behind the end nothing is left.
pub record StandsIn (input : Option (List ℕ)) (reading : Reading) (left : Option (List ℕ)) : Type 0 where
  pub behind : unread reading left ≡ left_after reading.given input
  pub whole : reading.ended ≡ false → IfSome input (λ bytes. IsWhole (take reading.given bytes))
  pub nothing : IsTrue reading.ended → IsNone left
