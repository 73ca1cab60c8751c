-- What a take and a send do to the bytes left and to the bytes sent.
use Rattle.std.specs.Prelude.{ℕ, ◌≡◌, ◌≤◌, ◌++◌, List, [], Option, None, Some, length, take, drop}

-- a take's count and the front of its buffer are right for these bytes left
pub record Given (count : ℕ) (bytes buf : List ℕ) : Type 0 where
  pub within : count ≤ length bytes
  pub front : take count buf ≡ take count bytes
  -- nothing is given only at the end
  pub ends : count ≡ 0 → bytes ≡ []

-- the bytes left, where they are told, after this many were taken
abbrev pub left_after : ℕ → Option (List ℕ) → Option (List ℕ)
left_after count None = None
left_after count (Some bytes) = Some (drop count bytes)

-- the bytes sent, where they are told, after this piece
abbrev pub sent_after : List ℕ → Option (List ℕ) → Option (List ℕ)
sent_after piece None = None
sent_after piece (Some bytes) = Some (bytes ++ piece)

-- some front of the piece was sent
pub record PartSent (piece : List ℕ) (before now : Option (List ℕ)) : Type 0 where
  pub count : ℕ
  pub within : count ≤ length piece
  pub sent : now ≡ sent_after (take count piece) before
