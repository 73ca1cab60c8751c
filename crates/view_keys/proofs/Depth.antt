-- The tree over a list's slots is high enough.
use Rattle.std.proofs.Common.{ℕ, ◌^◌, ◌≤◌, arith}
use Rattle.std.proofs.lemmas.Bool.Decides.{nat_tests}
use Rattle.om3_coeff.specs.Keys.{page_levels, height}

pub deep : (n : ℕ) → n ≤ 2 ^ 35 → n ≤ 2 ^ height n
unfolding page_levels
deep n few = grind (arith, nat_tests)
