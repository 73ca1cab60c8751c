-- The place of the first byte that passes a test.
use Rattle.std.proofs.Common.{◌≡◌, ℕ, ◌≤◌, Some, None}
use Rattle.std.proofs.lemmas.Bool.Decides.{nat_tests}
use lib.Dec.{ltb}
use Rattle.std.proofs.Common.{cond, arith}

pub place_found : (n m k : ℕ) → Some k ≡ cond (ltb n m) (Some n) None → k ≡ n
place_found n m k found = grind (arith, nat_tests)

pub place_missing : (n m : ℕ) → None ≡ cond (ltb n m) (Some n) None → m ≤ n
place_missing n m missing = grind (arith, nat_tests)
