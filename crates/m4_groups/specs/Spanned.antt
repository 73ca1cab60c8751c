-- Which times fall into the last row.
use Rattle.std.specs.Prelude.{ℕ, ℤ, ◌≡◌, ◌≤ℤ◌, ◌<ℤ◌, ◌↔◌, List, [], ◌∷◌, Option, None, Some}
use Rattle.chart_grid.specs.Projection.{InWindow, column}
use Rattle.m4_groups.specs.declared.row.Row.{Row}
use Rattle.m4_groups.specs.declared.groups.Groups.TheInside.{Inside}

-- the column of the last row, where there is one
abbrev pub last_column : List Row → Option ℕ
last_column [] = None
last_column (r ∷ []) = Some r.column
last_column (r ∷ (q ∷ rs)) = last_column (q ∷ rs)

-- a time of the window has the last row's column just where it lies from `from` on and before `next`
pub record IsSpanned (g : Inside) : Type 0 where
  pub own : (t : ℤ) → InWindow g.grid t → ((g.from ≤ℤ t) × (t <ℤ g.next)) ↔ (last_column g.rows.items ≡ Some (column g.grid t))
