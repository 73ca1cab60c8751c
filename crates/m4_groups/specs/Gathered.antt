use Rattle.std.specs.Prelude.{ℤ, ◌≡◌, ◌<ℤ◌, List, Option, map, length, slice_get, ◌-◌, Some, IfSome}
use Rattle.chart_grid.specs.declared.grid.Grid.{Grid}
use Rattle.m4_groups.specs.declared.row.Row.{Row}
use Rattle.m4_groups.specs.Points.{AreInOrder}
use Rattle.m4_groups.specs.Rows.{AreRowsOf}
use Rattle.m4_groups.specs.Folded.{put_last}
use Rattle.chart_grid.specs.Projection.{column}

-- what was gathered of a list of points: its rows so far, and the time of its last point
pub record Gathered : Type 0 where
  pub grid : Grid
  pub rows : List Row
  pub latest : Option ℤ

-- the time t is later than all that was gathered
abbrev pub IsLater : Gathered → ℤ → Type 0
IsLater s t = IfSome s.latest (λ u. u <ℤ t)

-- s is what was gathered of these points
pub record IsGathered (points : List (ℤ × ℤ)) (s : Gathered) : Type 0 where
  pub order : AreInOrder s.grid points
  pub rows : AreRowsOf s.grid points s.rows
  pub latest : s.latest ≡ slice_get (map (λ p. p.0) points) (length points - 1)

-- what was gathered, with a later point
abbrev pub with_point : Gathered → ℤ → ℤ → Gathered
with_point s t v = record { grid = s.grid; rows = put_last s.rows (record { x = column s.grid t; y = v }); latest = Some t }
