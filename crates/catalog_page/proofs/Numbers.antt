-- Numbers and the bytes that they stand in.
use Rattle.std.proofs.Common.{◌≡◌, ℕ, ◌+◌, ◌<◌, ◌≤◌, List, get_or, ap}
use Rattle.std.specs.Int.{w64, cast_signed}
use Rattle.node_page.specs.Fields.{signed_at}
use Rattle.node_page.proofs.Bytes.{number_same}

-- a signed number depends on its own bytes alone
pub signed_same : (at : ℕ) (old new : List ℕ) → ((k : ℕ) → at ≤ k → k < at + 8 → get_or new k 0 ≡ get_or old k 0)
    → signed_at new at ≡ signed_at old at
unfolding signed_at
signed_same at old new same = ap (cast_signed w64) (number_same 8 at old new same)
