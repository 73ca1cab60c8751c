-- A slot behind slots.
use Rattle.std.proofs.Common.{◌≡◌, ℤ, Option, None, Some, IfSome, subst}
use Rattle.whole_number.specs.Range.{IsValue}

same_value : (u v : ℤ) → Some (Some u) ≡ Some (Some v) → u ≡ v
same_value u v h = cc

is_held : (held : Option ℤ) (w : ℤ) → IfSome held IsValue → Some held ≡ Some (Some w) → IsValue w
is_held None w small h = absurd (cc)
is_held (Some v) w small h = subst IsValue (same_value v w h) small
