use Rattle.std.proofs.Common.{◌≡◌, ◌≤ℤ◌, ◌<ℤ◌, ◌↔◌, Some, arith, subst}
use Rattle.std.proofs.lemmas.Int.{ints}
use Rattle.chart_grid.specs.Projection.{InWindow, column}
use Rattle.m4_groups.specs.Gathered.{Gathered}
use Rattle.m4_groups.specs.Spanned.{last_column}
use Rattle.m4_groups.proofs.groups.Groups.is_in_last.Goals as goal

pub returns-then-self-t : goal.returns-then-self-t
returns-then-self-t c =
    let P : Gathered → Type 0 = λ s. InWindow s.grid c.args.t
    → ((c.self.inside.from ≤ℤ c.args.t) × (c.args.t <ℤ c.self.inside.next)) ↔ (last_column s.rows ≡ Some (column s.grid c.args.t)) in
    let own = subst P c.self.view_is (c.self.invariant.own c.args.t) c.requires in (
      (λ h. own.0 (grind (arith, ints, c.if-self-t.true), grind (arith, ints, h))),
      (λ e. let ends = own.1 e in grind (arith, ints, ends.1)),
    )

pub returns-else-self-t : goal.returns-else-self-t
returns-else-self-t c =
    let P : Gathered → Type 0 = λ s. InWindow s.grid c.args.t
    → ((c.self.inside.from ≤ℤ c.args.t) × (c.args.t <ℤ c.self.inside.next)) ↔ (last_column s.rows ≡ Some (column s.grid c.args.t)) in
    let own = subst P c.self.view_is (c.self.invariant.own c.args.t) c.requires in (
      (λ h. absurd (grind (arith, ints, h, c.if-self-t.false))),
      (λ e. let ends = own.1 e in grind (arith, ints, ends.0)),
    )
