-- The tokens of a line.
use Rattle.std.proofs.Common.{◌≡◌, ℕ, ◌<◌, List, ◌∷◌, length, Option, Some, None, IfSome, true, arith}
use Rattle.std.specs.Prelude.{is_some}
use Rattle.std.proofs.lemmas.List.Splits.{length-slice_split}
use Rattle.request_lines.specs.Tokens.{is_space, tokens}

-- they are one at least
pub some_token : (bytes : List ℕ) → 0 < length (tokens bytes)
some_token bytes = omega (arith, length-slice_split is_space bytes)

-- the same tokens, the first and the others
pub first_same : (one other : List ℕ) (ones others : List (List ℕ)) → one ∷ ones ≡ other ∷ others → one ≡ other
first_same one other ones others is = cc

pub rest_same : (one other : List ℕ) (ones others : List (List ℕ)) → one ∷ ones ≡ other ∷ others → ones ≡ others
rest_same one other ones others is = cc

-- what holds of what is there
pub of_some : {T : Type 0} (o : Option T) (P : T → Type 0) (X : Type 0) → is_some o ≡ true → IfSome o P → ((t : T) → P t → X) → X
of_some {T} None P X some is more = cc
of_some {T} (Some t) P X some is more = more t is
