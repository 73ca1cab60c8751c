-- A view, with what is seen of its series.
use Rattle.std.specs.Prelude.{ℕ, ℤ, ◌≡◌, Option, Some}
use Rattle.chart_grid.specs.declared.axis.Axis.{Axis}
use Rattle.chart_grid.specs.declared.grid.Grid.{Grid}
use Rattle.chart_grid.specs.Slots.{IsInColumn}
use Rattle.om3_coeff.specs.declared.key.Key.{Key}
use Rattle.om3_coeff.specs.declared.span.Span.{Span}
use Rattle.om3_coeff.specs.declared.coef.Coef.{Coef}
use Rattle.om3_coeff.specs.Keys.{height, IsKey}
use Rattle.om3_coeff.specs.Known.{known}
use Rattle.view_keys.specs.Ranges.{IsInRange}

-- the times of the slots, the window and the canvas, the range of values lo to hi that is drawn, the
-- span of all slots, and the coefficients that are told
pub record Scene : Type 0 where
  pub axis : Axis
  pub grid : Grid
  pub lo : ℤ
  pub hi : ℤ
  pub root : Option Span
  pub told : Key → Option Coef

-- the same view with other coefficients
abbrev pub with_told : Scene → (Key → Option Coef) → Scene
with_told scene told = record { axis = scene.axis; grid = scene.grid; lo = scene.lo; hi = scene.hi; root = scene.root; told = told }

-- all that is told by the one is told by the other
abbrev pub IsToldBy : (Key → Option Coef) → (Key → Option Coef) → Type 0
IsToldBy told more = (k : Key) (c : Coef) → told k ≡ Some c → more k ≡ Some c

-- what the root and the told coefficients show of a key
abbrev pub known_in : Scene → Key → Option (Option Span)
known_in scene k = known scene.root scene.told (height scene.axis.slots) k

-- the key is seen with this span
pub record IsSeen (scene : Scene) (k : Key) (s : Span) : Type 0 where
  pub key : IsKey (height scene.axis.slots) k
  pub span : known_in scene k ≡ Some (Some s)

-- a slot of the key's range is drawn in column c
pub record IsDrawnIn (axis : Axis) (grid : Grid) (k : Key) (c : ℕ) : Type 0 where
  pub slot : ℕ
  pub in_range : IsInRange k slot
  pub in_column : IsInColumn axis grid c slot
