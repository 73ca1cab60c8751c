-- How far a reader of lines has come in its input.
use Rattle.std.specs.Prelude.{ℕ, ◌≡◌, ◌⊎◌, ◌<◌, ◌+◌, ◌-◌, ◌^◌, Bool, true, false, List, [], ◌∷◌, ◌++◌, Contains, Option, None, Some, length}
use Rattle.std.specs.Prelude.{take, IfSome}
use Rattle.std.specs.List.{after_first, position_or_len}
use Rattle.block_disk.specs.Counts.{HasGrown}
use Rattle.chart_world.specs.Lines.{is_line_feed, lines, NoLineFeed}

pub record Reading : Type 0 where
  -- the bytes of the lines that were given, with what ended them
  pub given : ℕ
  -- the bytes behind them that were taken
  pub pending : List ℕ
  -- all bytes that were taken
  pub taken : ℕ
  -- what the last line says, and where it began
  pub line : List ℕ
  pub offset : ℕ
  -- no call has answered a fault
  pub usable : Bool
  -- a take has found the end of the input
  pub ended : Bool
  -- lines come from so many first bytes of the input, and no others
  pub limit : ℕ

-- before the first call
abbrev pub unread_up_to : ℕ → Reading
unread_up_to limit = record { given = 0; pending = []; taken = 0; line = []; offset = 0; usable = true; ended = false; limit = limit }

-- the same of the first 2^32 bytes
abbrev pub unread_input : Reading
unread_input = unread_up_to (2 ^ 32)

-- these bytes and those behind them, where those are told
abbrev pub in_front_of : List ℕ → Option (List ℕ) → Option (List ℕ)
in_front_of pending None = None
in_front_of pending (Some left) = Some (pending ++ left)

-- the next line is pending, up to its line feed, which is within the limit
abbrev pub HasLine : Reading → Type 0
HasLine reading = Contains (take (reading.limit - reading.given) reading.pending) 10

-- The bytes behind the lines that were given, where the stream tells what is left to take.
abbrev pub unread : Reading → Option (List ℕ) → Option (List ℕ)
unread reading left = in_front_of reading.pending left

-- the lines of these bytes, where they are told
abbrev pub told_lines : Option (List ℕ) → Option (List (Option (List ℕ)))
told_lines None = None
told_lines (Some bytes) = Some (lines bytes)

-- a line in front of those
abbrev pub with_first : Option (List ℕ) → Option (List (Option (List ℕ))) → Option (List (Option (List ℕ)))
with_first line None = None
with_first line (Some later) = Some (line ∷ later)

-- what stands behind the first line, where the bytes are told
abbrev pub behind_first : Option (List ℕ) → Option (List ℕ)
behind_first None = None
behind_first (Some bytes) = Some (after_first is_line_feed bytes)

-- the length of the whole input, where the stream tells what is left
abbrev pub input_length : ℕ → Option (List ℕ) → Option ℕ
input_length taken None = None
input_length taken (Some left) = Some (taken + length left)

-- no line feed stands among the first bytes, where they are told
abbrev pub NoLineIn : ℕ → Option (List ℕ) → Type 0
NoLineIn count bytes = IfSome bytes (λ told. NoLineFeed (take count told))

-- the count of pieces has risen, or all of the input is read, where it is told
abbrev pub Took : ℕ → ℕ → Option (List ℕ) → Type 0
Took before now bytes = HasGrown before now ⊎ IfSome bytes (λ told. told ≡ [])

-- the next line is pending behind so many bytes
pub record HasLineAt (before : ℕ) (reading : Reading) : Type 0 where
  pub place : before ≡ position_or_len is_line_feed reading.pending
  pub within : before < length reading.pending
  pub early : reading.given + before < reading.limit

-- a line feed ends the first line of these bytes, where they are told
abbrev pub HasFeed : Option (List ℕ) → Type 0
HasFeed bytes = IfSome bytes (λ told. position_or_len is_line_feed told < length told)

-- there is no byte, where these are told
abbrev pub IsNone : Option (List ℕ) → Type 0
IsNone bytes = IfSome bytes (λ told. told ≡ [])

-- the input, where it is told, was read to its end: nothing is left
abbrev pub IsReadUp : Option (List ℕ) → Option (List ℕ) → Type 0
IsReadUp input left = IfSome input (λ bytes. left ≡ Some [])
