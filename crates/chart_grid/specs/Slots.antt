use Rattle.std.specs.Prelude.{ℕ, ℤ, pos, ◌≡◌, ◌*◌, ◌<◌, ◌≤◌, ◌+ℤ◌, ◌<ℤ◌, ◌↔◌}
use Rattle.std.specs.Int.{div_ceil}
use Rattle.chart_grid.specs.Numbers.{distance}
use Rattle.chart_grid.specs.Projection.{InWindow, column}
use Rattle.chart_grid.specs.declared.axis.Axis.{Axis}
use Rattle.chart_grid.specs.declared.grid.Grid.{Grid}

-- the time of slot i
abbrev pub slot_time : Axis → ℕ → ℤ
slot_time a i = a.start +ℤ pos (i * a.step)

-- slot i is drawn in column c: it is below the axis' length, and its time lies in the window and
-- has that column
pub record IsInColumn (a : Axis) (g : Grid) (c i : ℕ) : Type 0 where
  pub slot : i < a.slots
  pub shown : InWindow g (slot_time a i)
  pub place : column g (slot_time a i) ≡ c

-- the first n slots are those whose time is before t
pub record AreSlotsBefore (a : Axis) (t : ℤ) (n : ℕ) : Type 0 where
  pub within : n ≤ a.slots
  pub before : (i : ℕ) → i < a.slots → (i < n) ↔ (slot_time a i <ℤ t)

-- where column c begins: t0 + c * (t1 - t0) / w, rounded up
abbrev pub border : Grid → ℕ → ℤ
border g c = g.t0 +ℤ pos (div_ceil (c * distance g.t0 g.t1) g.w)
