-- The order of keys, as a number.
use Rattle.std.specs.Prelude.{ℕ, ◌+◌, ◌-◌, ◌*◌, ◌^◌, ◌<◌, ◌≤◌, List, All}
use Rattle.om3_coeff.specs.declared.key.Key.{Key}
use Rattle.om3_coeff.specs.declared.coef.Coef.{Coef}

-- the greater number comes later: first the higher levels, and on one level the lower indices
abbrev pub order_number : Key → ℕ
order_number k = (255 - k.level) * 2 ^ 64 + k.index

-- a key whose level and index are those of 8 and 64 bits
pub record IsSmallKey (k : Key) : Type 0 where
  pub level : k.level ≤ 255
  pub index : k.index < 2 ^ 64

abbrev pub AreSmallKeys : List (Key × Coef) → Type 0
AreSmallKeys es = All (λ e. IsSmallKey e.0) es
