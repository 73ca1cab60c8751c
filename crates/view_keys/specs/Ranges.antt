-- How the range of a key lies to the slots of a column.
use Rattle.std.specs.Prelude.{ℕ, ◌<◌, ◌≤◌}
use Rattle.chart_grid.specs.declared.axis.Axis.{Axis}
use Rattle.chart_grid.specs.declared.grid.Grid.{Grid}
use Rattle.chart_grid.specs.Slots.{IsInColumn}
use Rattle.om3_coeff.specs.declared.key.Key.{Key}
use Rattle.om3_coeff.specs.Keys.{first_slot, end_slot}

-- slot i lies in the key's range
pub record IsInRange (k : Key) (i : ℕ) : Type 0 where
  pub from : first_slot k ≤ i
  pub to : i < end_slot k

-- all slots of the key's range are slots of column c
abbrev pub IsWithin : Axis → Grid → ℕ → Key → Type 0
IsWithin axis grid c k = (i : ℕ) → IsInRange k i → IsInColumn axis grid c i

-- the key's range meets the slots of column c, and isn't within them
pub record IsCut (axis : Axis) (grid : Grid) (c : ℕ) (k : Key) : Type 0 where
  pub slot : ℕ
  pub in_range : IsInRange k slot
  pub in_column : IsInColumn axis grid c slot
  pub other : ℕ
  pub other_in_range : IsInRange k other
  pub outside : IsInColumn axis grid c other → ⊥
