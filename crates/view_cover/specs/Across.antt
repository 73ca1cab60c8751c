-- Keys whose range lies across an end of a column's slots.
use Rattle.std.specs.Prelude.{ℕ, ◌-◌, ◌==◌, Bool, false, not, ◌||◌, nat_lt, nat_le, if◌then◌else◌}
use Rattle.chart_grid.specs.declared.axis.Axis.{Axis}
use Rattle.chart_grid.specs.declared.grid.Grid.{Grid}
use Rattle.chart_grid.specs.Projection.{column}
use Rattle.chart_grid.specs.Slots.{slot_time}
use Rattle.om3_coeff.specs.declared.key.Key.{Key}
use Rattle.om3_coeff.specs.Keys.{first_slot, end_slot}
use Rattle.view_keys.specs.Ranges.{IsCut}
use Rattle.view_cover.specs.declared.scope.Scope.{Scope}

-- the key's range meets the slots of some column, and isn't within them
pub record IsAcross (axis : Axis) (grid : Grid) (k : Key) : Type 0 where
  pub column : ℕ
  pub cut : IsCut axis grid column k

-- the same as a test, by the slots of the window
unfoldable pub is_across : Scope → Key → Bool
is_across w k =
    if nat_le (end_slot k) w.from || nat_le w.end (first_slot k) then false
    else (if nat_lt (first_slot k) w.from || nat_lt w.end (end_slot k) then nat_lt w.from w.end
    else not (column w.grid (slot_time w.axis (first_slot k)) == column w.grid (slot_time w.axis (end_slot k - 1))))
