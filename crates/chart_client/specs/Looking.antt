-- How far a look-up of a key among entries in order has come.
use Rattle.std.specs.Prelude.{ℕ, ◌<◌, ◌≤◌, List, length, get_or}
use Rattle.om3_coeff.specs.declared.key.Key.{Key}
use Rattle.om3_coeff.specs.declared.coef.Coef.{Coef}
use Rattle.view_keys.specs.Listed.{ComesBefore}

-- the entries before one place come before the key, and those from another place on don't
pub record Narrowed (list : List (Key × Coef)) (key : Key) (from to : ℕ) : Type 0 where
  pub order : from ≤ to
  pub within : to ≤ length list
  pub before : (i : ℕ) (d : Key × Coef) → i < from → ComesBefore (get_or list i d).0 key
  pub behind : (i : ℕ) (d : Key × Coef) → to ≤ i → i < length list → ComesBefore (get_or list i d).0 key → ⊥
