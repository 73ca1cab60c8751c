use Rattle.std.proofs.Common.{ℕ, ℤ, pos, ◌≡◌, ◌+◌, ◌≤◌, ◌≤ℤ◌, ◌↔◌, sym, subst₂, rules, arith}
use Rattle.std.specs.Int.{w128}
use Rattle.std.proofs.lemmas.Int.{to_z-of_z}
use Rattle.line_raster.specs.Canvas.{Adds}
use Rattle.line_raster.specs.Segment.{InFill}
use Rattle.line_raster.proofs.Drawn.{no_column, next_column, last_column}
use Rattle.view_cover.specs.declared.area.Area.{Area}
use Rattle.view_cover.specs.Area.{InArea}
use Rattle.view_cover.proofs.area.fill.Goals as goal

pub loop-x-init : goal.loop-x-init
loop-x-init c = no_column (λ a b. InArea c.args.area a (pos b)) c.args.area.left c.args.bitmap.now (λ x y h. h.from)

-- a column of the rectangle
in_column : (area : Area) (at : ℕ) → area.left ≤ at → at ≤ area.right → (x y : ℕ)
    → InFill at area.low area.high x (pos y) ↔ (InArea area x (pos y) × (x ≡ at))
in_column area at from to x y = (
  (λ h. (record { from = omega (arith, from, h.here); to = omega (arith, to, h.here); above = h.above; below = h.below }, h.here)),
  (λ h. record { here = h.1; above = h.0.above; below = h.0.below }),
)

pub column_fill-requires-clause-order : goal.column_fill-requires-clause-order
column_fill-requires-clause-order c =
    let P : ℤ → ℤ → Type 0 = λ a b. a ≤ℤ b in
    subst₂ P (sym (to_z-of_z w128 c.args.area.low (search rules))) (sym (to_z-of_z w128 c.args.area.high (search rules))) c.requires.order

pub loop-x-preserved : goal.loop-x-preserved
loop-x-preserved c =
    let P : ℤ → ℤ → Type 0 = λ l h. Adds (λ x y. InFill c.loop-x.x l h x (pos y)) c.loop-x.bitmap c.column_fill.new.bitmap in
    let one : Adds (λ x y. InFill c.loop-x.x c.args.area.low c.args.area.high x (pos y)) c.loop-x.bitmap c.column_fill.new.bitmap =
    subst₂ P (to_z-of_z w128 c.args.area.low (search rules)) (to_z-of_z w128 c.args.area.high (search rules)) c.column_fill.ensures in
    next_column (λ a b. InArea c.args.area a (pos b)) _ c.loop-x.x (c.loop-x.x + 1) _ _ _ (omega arith) c.loop-x.invariant one
    (λ x y column row. in_column c.args.area c.loop-x.x c.loop-x.auto.x (omega (arith, c.loop-x-test.true)) x y)

pub returns : goal.returns
returns c = last_column (λ a b. InArea c.args.area a (pos b)) c.loop-x.x _ _ c.loop-x.invariant
    (λ x y h. omega (arith, h.to, c.loop-x-test.false))
