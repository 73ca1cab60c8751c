use Rattle.std.proofs.Common.{ℤ, SFits, w64, rules, arith, sym, subst}
use Rattle.std.proofs.lemmas.Int.{ints}
use Rattle.chart_grid.specs.Projection.{InWindow}
use Rattle.view_cover.proofs.Drawn.{slot-shown, steps-fit}
use Rattle.view_cover.proofs.scope.Scope.time_of.Goals as goal

pub overflow_mul-slot : goal.overflow_mul-slot
overflow_mul-slot c =
    let start : SFits w64 c.args.self.now.axis.start = search rules in
    record { fits = steps-fit c.args.self.now c.args.slot c.from.result start c.requires.from c.requires.end c.from.ensures }

pub returns-clause-time : goal.returns-clause-time
returns-clause-time c = grind (arith, ints)

pub returns-clause-shown : goal.returns-clause-shown
returns-clause-shown c =
    let Shown : ℤ → Type 0 = λ t. InWindow c.args.self.now.grid t in
    subst Shown (sym (returns-clause-time c)) (slot-shown c.args.self.now c.args.slot c.requires.from c.requires.end)
