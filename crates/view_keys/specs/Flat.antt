-- Which spans fall on one height of the canvas.
use Rattle.std.specs.Prelude.{ℕ, ℤ, ◌≡◌}
use Rattle.chart_grid.specs.Projection.{height}
use Rattle.om3_coeff.specs.declared.span.Span.{Span}

-- over the range lo to hi on h rows the least and the greatest value of the span have one height
abbrev pub IsFlat : ℤ → ℤ → ℕ → Span → Type 0
IsFlat lo hi h s = height s.min lo hi h ≡ height s.max lo hi h
