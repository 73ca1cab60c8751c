-- Which of the three ways a segment goes, and that its pixels are those of that way.
use Rattle.std.proofs.Common.{◌≡◌, ℕ, ℤ, ◌<◌, ◌≤◌, ◌↔◌, inl, inr, arith}
use Rattle.std.proofs.lemmas.Int.{ints}
use Rattle.line_raster.specs.declared.position.Point.{Point}
use Rattle.line_raster.specs.Segment.{On, InColumn, InRow, InFill, rows, columns}

-- higher than wide
pub on_steep : (p q : Point) (x : ℕ) (y : ℤ) → columns p q < rows p q → InRow p q x y ↔ On p q x y
on_steep p q x y high = (
  (λ h. inr (inr h)),
  (λ h. elim h [
    | inl dot ↦ absurd (omega (arith, dot.no_rows, high))
    | inr more ↦ elim more [ inl flat ↦ absurd (omega (arith, flat.wide, high)) | inr steep ↦ steep ]
  ]),
)

-- not higher than wide, and wide
pub on_flat : (p q : Point) (x : ℕ) (y : ℤ) → rows p q ≤ columns p q → 0 < columns p q → InColumn p q x y ↔ On p q x y
on_flat p q x y wide some = (
  (λ h. inr (inl h)),
  (λ h. elim h [
    | inl dot ↦ absurd (omega (arith, dot.no_columns, some))
    | inr more ↦ elim more [ inl flat ↦ flat | inr steep ↦ absurd (omega (arith, steep.high, wide)) ]
  ]),
)

-- a dot
pub on_dot : (p q : Point) (at : ℤ) (x : ℕ) (y : ℤ) → at ≡ p.y → rows p q ≤ columns p q → columns p q ≡ 0
    → InFill p.x at at x y ↔ On p q x y
on_dot p q at x y is_at wide none = (
  (λ h. inl (record {
    no_columns = none;
    no_rows = omega (arith, wide, none);
    column = h.here;
    row = omega (arith, ints, is_at, h.above, h.below);
  })),
  (λ h. elim h [
    | inl dot ↦ record { here = dot.column; above = omega (arith, ints, is_at, dot.row); below = omega (arith, ints, is_at, dot.row) }
    | inr more ↦ elim more [ inl flat ↦ absurd (omega (arith, flat.some, none)) | inr steep ↦ absurd (omega (arith, steep.high, wide)) ]
  ]),
)
