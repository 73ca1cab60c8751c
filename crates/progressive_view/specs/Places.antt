-- Where a key stands in a list in order.
use Rattle.std.specs.Prelude.{ℕ, suc, ◌<◌, ◌≤◌, Bool, ◌||◌, ◌&&◌, ◌==◌, nat_lt, if◌then◌else◌, List, [], ◌∷◌, length, get_or, Option, None}
use Rattle.std.specs.Prelude.{Some}
use Rattle.om3_coeff.specs.declared.key.Key.{Key}
use Rattle.om3_coeff.specs.declared.coef.Coef.{Coef}
use Rattle.view_keys.specs.Listed.{ComesBefore}

-- the entries before the place come before the key, and those from there on don't
pub record IsPlace (list : List (Key × Coef)) (k : Key) (place : ℕ) : Type 0 where
  pub within : place ≤ length list
  pub before : (i : ℕ) (d : Key × Coef) → i < place → ComesBefore (get_or list i d).0 k
  pub behind : (i : ℕ) (d : Key × Coef) → place ≤ i → i < length list → ComesBefore (get_or list i d).0 k → ⊥

-- ComesBefore as a test
unfoldable pub precedes : Key → Key → Bool
precedes a b = nat_lt b.level a.level || (a.level == b.level && nat_lt a.index b.index)

-- the place of a key
abbrev pub place_in : List (Key × Coef) → Key → ℕ
place_in [] k = 0
place_in (e ∷ es) k = if precedes e.0 k then suc (place_in es k) else 0

-- the coefficient of an entry, if it is the key's
abbrev pub coef_if : Option (Key × Coef) → Key → Option Coef
coef_if None k = None
coef_if (Some e) k = if e.0.level == k.level && e.0.index == k.index then Some e.1 else None
