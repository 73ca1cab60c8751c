use Rattle.std.specs.Prelude.{ℕ, ℤ, ◌<ℤ◌, ◌==◌, List, map, filter, All, AllPairs}
use Rattle.chart_grid.specs.declared.grid.Grid.{Grid}
use Rattle.chart_grid.specs.Projection.{InWindow, column, height}
use Rattle.line_raster.specs.declared.position.Point.{Point}

-- The points of a series, each a time and a value: the times lie in the grid's window, and each is
-- later than those before it.
pub record AreInOrder (g : Grid) (points : List (ℤ × ℤ)) : Type 0 where
  pub shown : All (λ p. InWindow g p.0) points
  pub rising : AllPairs (λ p q. p.0 <ℤ q.0) points

-- each point as its column and its value
abbrev pub spots : Grid → List (ℤ × ℤ) → List Point
spots g points = map (λ p. record { x = column g p.0; y = p.1 }) points

-- each point as its column and its height over the range lo to hi
abbrev pub pixels : Grid → ℤ → ℤ → List (ℤ × ℤ) → List Point
pixels g lo hi points = map (λ p. record { x = column g p.0; y = height p.1 lo hi g.h }) points

-- the values of the column c, in order
abbrev pub values_in : ℕ → List Point → List ℤ
values_in c xs = map (λ s. s.y) (filter (λ s. s.x == c) xs)
