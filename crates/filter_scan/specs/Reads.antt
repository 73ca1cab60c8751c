-- How many blocks the rows of a window read at most.
use Rattle.std.specs.Prelude.{ℕ, ℤ, ◌+◌, ◌-◌, ◌*◌, ◌≤◌}
use Rattle.chart_grid.specs.Slots.{AreSlotsBefore}
use Rattle.chart_grid.specs.declared.axis.Axis.{Axis}
use Rattle.om3_coeff.specs.Keys.{height}

-- one for each slot with a time from t0 on and before t1, and two for each level of the tree of all slots
abbrev pub ReadsWindow : Axis → ℤ → ℤ → ℕ → ℕ → Type 0
ReadsWindow axis t0 t1 old new =
    (from to : ℕ) → AreSlotsBefore axis t0 from → AreSlotsBefore axis t1 to → new ≤ old + ((to - from) + 2 * height axis.slots)
