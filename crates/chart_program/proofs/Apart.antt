-- Numbers that are not one.
use Rattle.std.proofs.Common.{◌≡◌, ℕ, false}
use Rattle.std.proofs.Math.Dec.{eqb}
use Rattle.std.proofs.lemmas.Bool.{eqb-false}

-- no number is two
pub apart : {n m : ℕ} {P : Type 0} → n ≡ m → eqb n m ≡ false → P
apart {n} {m} is differ = absurd (eqb-false n m differ is)
