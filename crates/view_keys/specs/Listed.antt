-- Lists of keys with their coefficients: from the top level down, then from left to right.
use Rattle.std.specs.Prelude.{◌≡◌, ◌<◌, ◌⊎◌, List, [], ◌∷◌, map, All, Contains, Option, Some, ⊤}
use Rattle.om3_coeff.specs.declared.key.Key.{Key}
use Rattle.om3_coeff.specs.declared.coef.Coef.{Coef}

-- a higher level comes first, and on one level the lower index
abbrev pub ComesBefore : Key → Key → Type 0
ComesBefore a b = (b.level < a.level) ⊎ ((a.level ≡ b.level) × (a.index < b.index))

-- each pair comes before all pairs behind it
abbrev pub AreInOrder : List (Key × Coef) → Type 0
AreInOrder [] = ⊤
AreInOrder (e ∷ es) = All (λ later. ComesBefore e.0 later.0) es × AreInOrder es

abbrev pub keys_of : List (Key × Coef) → List Key
keys_of es = map (λ e. e.0) es

-- the list of all keys of a kind, each once and in order, with their coefficients
pub record IsListOf (Kind : Key → Type 0) (coef_of : Key → Option Coef) (es : List (Key × Coef)) : Type 0 where
  pub order : AreInOrder es
  pub each : All (λ e. Kind e.0) es
  pub all : (k : Key) → Kind k → Contains (keys_of es) k
  pub coefs : All (λ e. coef_of e.0 ≡ Some e.1) es
