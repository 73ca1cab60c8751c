-- Lines of an input that a reader gives.
use Rattle.std.proofs.Common.{ℕ, List, Option, Some, None, IfSome}

-- what is so of each input is so of one that is told
pub any_told : (o : Option (List ℕ)) (P : List ℕ → Type 0) → ((input : List ℕ) → P input) → IfSome o P
any_told None P all = tt
any_told (Some input) P all = all input

-- what is so is so of one that is told
pub told_any : {Q : Type 0} → Q → (o : Option (List ℕ)) → IfSome o (λ bytes. Q)
told_any {Q} is None = tt
told_any {Q} is (Some bytes) = is
