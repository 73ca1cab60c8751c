-- A stream whose front has been given as frames.
use Rattle.std.specs.Prelude.{ℕ, List}

-- What a decoder holds: how many bytes of the stream it has given as frames, and the bytes that were fed
-- and not given yet.
pub record Pending : Type 0 where
  pub given : ℕ
  pub rest : List ℕ

abbrev pub held : ℕ → List ℕ → Pending
held given rest = record { given = given; rest = rest }
