-- The keys that a view wants by what is seen of a series: by its root and told coefficients alone.
use Rattle.std.specs.Prelude.{ℕ, ℤ, ◌≡◌, ◌<◌, ◌≤◌, ◌⊎◌, Option, Some}
use Rattle.chart_grid.specs.declared.axis.Axis.{Axis}
use Rattle.chart_grid.specs.declared.grid.Grid.{Grid}
use Rattle.chart_grid.specs.Slots.{IsInColumn}
use Rattle.om3_coeff.specs.declared.key.Key.{Key}
use Rattle.om3_coeff.specs.declared.span.Span.{Span}
use Rattle.om3_coeff.specs.declared.coef.Coef.{Coef}
use Rattle.om3_coeff.specs.Keys.{first_slot, end_slot, height, IsNode}
use Rattle.om3_coeff.specs.Known.{known, IsKnownClear}
use Rattle.view_keys.specs.Ranges.{IsWithin, IsCut}
use Rattle.view_keys.specs.Flat.{IsFlat}

-- what is seen of a series: the span of all its slots, and the coefficients that are told
pub record Seen : Type 0 where
  pub root : Option Span
  pub told : Key → Option Coef

-- all slots of column c that lie before the key's range are known to hold nothing
abbrev pub IsClearBefore : Seen → Axis → Grid → ℕ → Key → Type 0
IsClearBefore seen axis grid c k =
    (i : ℕ) → IsInColumn axis grid c i → i < first_slot k → IsKnownClear seen.root seen.told (height axis.slots) i

-- all that lie behind it are
abbrev pub IsClearBehind : Seen → Axis → Grid → ℕ → Key → Type 0
IsClearBehind seen axis grid c k =
    (i : ℕ) → IsInColumn axis grid c i → end_slot k ≤ i → IsKnownClear seen.root seen.told (height axis.slots) i

-- A view over the range lo to hi wants a key whose span is seen where, for some column, its range meets
-- the column's slots and isn't within them, or is within them, its span isn't of one height, and all of
-- them before it, or all behind it, are known to hold nothing.
pub record IsWanted (seen : Seen) (axis : Axis) (grid : Grid) (lo hi : ℤ) (k : Key) : Type 0 where
  pub node : IsNode (height axis.slots) k
  pub span : Span
  pub known_so : known seen.root seen.told (height axis.slots) k ≡ Some (Some span)
  pub column : ℕ
  pub shown : column < grid.w
  pub reason : IsCut axis grid column k
      ⊎ (IsWithin axis grid column k × (IsFlat lo hi grid.h span → ⊥)
      × (IsClearBefore seen axis grid column k ⊎ IsClearBehind seen axis grid column k))
