-- What passed through the streams of a world from one moment to another.
use Rattle.std.specs.Prelude.{ℕ, ◌≡◌, ◌<◌, ◌≤◌, ◌^◌, List, [], length, Option, Some, IfSome}

-- the bytes left to take and those sent, where they are told, and the counts of faults, before and now
pub record Traffic : Type 0 where
  pub left : Option (List ℕ)
  pub left_now : Option (List ℕ)
  pub sent : Option (List ℕ)
  pub sent_now : Option (List ℕ)
  pub reads : ℕ
  pub reads_now : ℕ
  pub sends : ℕ
  pub sends_now : ℕ

-- that from an old world to a new one
abbrev pub traffic : {W : Type 0} → (W → Option (List ℕ)) → (W → Option (List ℕ)) → (W → ℕ) → (W → ℕ) → W → W → Traffic
traffic left sent read_faults send_faults old new = record {
  left = left old;
  left_now = left new;
  sent = sent old;
  sent_now = sent new;
  reads = read_faults old;
  reads_now = read_faults new;
  sends = send_faults old;
  sends_now = send_faults new;
}

-- the input, where it is told, is at most so many bytes, and was read to its end
abbrev pub WasReadWithin : ℕ → Option (List ℕ) → Option (List ℕ) → Type 0
WasReadWithin most left left' = IfSome left (λ input. (length input ≤ most) × (left' ≡ Some []))

-- it has more bytes than that
abbrev pub IsPast : ℕ → Option (List ℕ) → Type 0
IsPast most left = IfSome left (λ input. most < length input)

-- the same of 2^32 bytes
abbrev pub WasRead : Option (List ℕ) → Option (List ℕ) → Type 0
WasRead left left' = WasReadWithin (2 ^ 32) left left'

abbrev pub IsLong : Option (List ℕ) → Type 0
IsLong left = IsPast (2 ^ 32) left
