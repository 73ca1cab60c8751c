use Rattle.std.proofs.Common.{◌≡◌, ℕ, ℤ, ◌≤◌, ◌↔◌, Option, None, Some, le_refl, sym, subst}
use Rattle.chart_grid.specs.declared.grid.Grid.{Grid}
use Rattle.chart_grid.specs.Projection.{column}
use Rattle.line_raster.specs.declared.position.Point.{Point}
use Rattle.line_raster.specs.Segment.{On}
use Rattle.plain_chart.specs.declared.sample.Sample.{Sample}
use Rattle.plain_chart.specs.declared.value_range.ValueRange.{ValueRange}
use Rattle.plain_chart.specs.Chart.{place, Joins}
use Rattle.plain_chart.proofs.Places.{placed_before}
use Rattle.plain_chart.proofs.Rastering.{on_itself}
use Rattle.plain_chart.proofs.drawing.start_of.Goals as goal

joins_first : (g : Grid) (range : ValueRange) (last : Option Sample) (s : Sample) (p : Point) → last ≡ None → p ≡ place g range s
    → (x : ℕ) (y : ℤ) → On p (place g range s) x y ↔ Joins g range last (Some s) x y
joins_first g range last s p none is x y =
    let P : Option Sample → Type 0 = λ o. On p (place g range s) x y ↔ Joins g range o (Some s) x y in
    let Q : Point → Type 0 = λ q. On q (place g range s) x y ↔ Joins g range None (Some s) x y in
    subst P (sym none) (subst Q (sym is) (on_itself (place g range s) x y))

joins_next : (g : Grid) (range : ValueRange) (last : Option Sample) (r s : Sample) (p : Point) → last ≡ Some r → p ≡ place g range r
    → (x : ℕ) (y : ℤ) → On p (place g range s) x y ↔ Joins g range last (Some s) x y
joins_next g range last r s p some is x y =
    let P : Option Sample → Type 0 = λ o. On p (place g range s) x y ↔ Joins g range o (Some s) x y in
    let Q : Point → Type 0 = λ q. On q (place g range s) x y ↔ Joins g range (Some r) (Some s) x y in
    subst P (sym some) (subst Q (sym is) (λ on. on, λ on. on))

pub returns-in-None-clause-column : goal.returns-in-None-clause-column
returns-in-None-clause-column c =
    let X : Point → Type 0 = λ q. q.x ≤ column c.args.grid c.args.sample.time in
    subst X (sym c.point_of.ensures.value) (le_refl _)

pub returns-in-None-clause-joins : goal.returns-in-None-clause-joins
returns-in-None-clause-joins c = joins_first c.args.grid c.args.range c.args.last c.args.sample c.point_of.result c.in-None.is
    c.point_of.ensures.value

pub returns-in-Some-clause-joins : goal.returns-in-Some-clause-joins
returns-in-Some-clause-joins c =
    joins_next c.args.grid c.args.range c.args.last c.in-Some.last c.args.sample c.point_of-in-Some.result c.in-Some.is
    c.point_of-in-Some.ensures.value

pub returns-in-Some-clause-column : goal.returns-in-Some-clause-column
returns-in-Some-clause-column c =
    placed_before c.args.grid c.args.range c.args.last c.in-Some.last c.args.sample c.point_of-in-Some.result
    c.in-Some.is c.requires.from c.requires.order c.point_of-in-Some.ensures.value
