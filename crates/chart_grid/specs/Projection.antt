use Rattle.std.specs.Prelude.{ℕ, ℤ, pos, ◌≡◌, ◌-◌, ◌*◌, ◌/◌, ◌-ℤ◌, ◌*ℤ◌, ◌≤ℤ◌, ◌<ℤ◌, int_lt, if◌then◌else◌}
use Rattle.chart_grid.specs.Numbers.{distance, floor_div}
use Rattle.chart_grid.specs.declared.grid.Grid.{Grid}

-- the time t lies in the window of g
pub record InWindow (g : Grid) (t : ℤ) : Type 0 where
  pub from : g.t0 ≤ℤ t
  pub to : t <ℤ g.t1

-- the column of a time of the window: (t - t0) * w / (t1 - t0), rounded down
abbrev pub column : Grid → ℤ → ℕ
column g t = distance g.t0 t * g.w / distance g.t0 g.t1

-- the height of a value over the range lo to hi on h rows: (v - lo) * (h - 1) / (hi - lo), rounded
-- towards minus infinity, and 0 where the range is one value
abbrev pub height : ℤ → ℤ → ℤ → ℕ → ℤ
height v lo hi h =
    if int_lt lo hi then floor_div ((v -ℤ lo) *ℤ pos (h - 1)) (distance lo hi) else pos 0

-- g is drawn over the times from t0 to below t1
pub record ShowsWindow (g : Grid) (t0 t1 : ℤ) : Type 0 where
  pub from : g.t0 ≡ t0
  pub to : g.t1 ≡ t1

-- g is drawn on w columns and h rows
pub record HasCanvas (g : Grid) (w h : ℕ) : Type 0 where
  pub columns : g.w ≡ w
  pub rows : g.h ≡ h
