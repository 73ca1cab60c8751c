use Rattle.std.proofs.Common.{ℤ, pos, ◌≡◌, ◌≤ℤ◌, ◌∙◌, ap, sym, SFits, w64, rules, subst₂}
use Rattle.std.specs.Int.{w128}
use Rattle.std.proofs.lemmas.Int.{to_z-of_z}
use Rattle.chart_grid.specs.Projection.{height}
use Rattle.chart_grid.proofs.Heights.{height-rising}
use Rattle.line_raster.specs.Canvas.{Adds}
use Rattle.line_raster.specs.Segment.{InFill}
use Rattle.line_raster.specs.declared.position.Point.{Point}
use Rattle.m4_groups.proofs.drawing.fill.Goals as goal

pub column_fill-requires-clause-order : goal.column_fill-requires-clause-order
column_fill-requires-clause-order c =
    let least_fits : SFits w64 c.args.row.now.least = search rules in
    let greatest_fits : SFits w64 c.args.row.now.greatest = search rules in
    let P : ℤ → ℤ → Type 0 = λ a b. a ≤ℤ b in
    let low : c.place-low.result.y ≡ height c.args.row.now.least c.args.scale.lo c.args.scale.hi c.args.scale.h =
    ap (λ (p : Point). p.y) (simp to_z-of_z at c.place-low.ensures.point) in
    let high : c.place-high.result.y ≡ height c.args.row.now.greatest c.args.scale.lo c.args.scale.hi c.args.scale.h =
    ap (λ (p : Point). p.y) (simp to_z-of_z at c.place-high.ensures.point) in
    subst₂ P
    (sym (to_z-of_z w128 c.place-low.result.y (search rules) ∙ low))
    (sym (to_z-of_z w128 c.place-high.result.y (search rules) ∙ high))
    (height-rising c.args.row.now.least c.args.row.now.greatest c.args.scale.lo c.args.scale.hi c.args.scale.h c.requires.order)

pub returns : goal.returns
returns c =
    let least_fits : SFits w64 c.args.row.now.least = search rules in
    let greatest_fits : SFits w64 c.args.row.now.greatest = search rules in
    let P : ℤ → ℤ → Type 0 = λ l g. Adds (λ x y. InFill c.args.row.now.column l g x (pos y)) c.args.bitmap.now c.column_fill.new.bitmap in
    let low : c.place-low.result.y ≡ height c.args.row.now.least c.args.scale.lo c.args.scale.hi c.args.scale.h =
    ap (λ (p : Point). p.y) (simp to_z-of_z at c.place-low.ensures.point) in
    let high : c.place-high.result.y ≡ height c.args.row.now.greatest c.args.scale.lo c.args.scale.hi c.args.scale.h =
    ap (λ (p : Point). p.y) (simp to_z-of_z at c.place-high.ensures.point) in
    subst₂ P
    (to_z-of_z w128 c.place-low.result.y (search rules) ∙ low)
    (to_z-of_z w128 c.place-high.result.y (search rules) ∙ high)
    c.column_fill.ensures
