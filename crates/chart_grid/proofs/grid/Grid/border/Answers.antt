use Rattle.std.proofs.Common.{pos, ◌*◌, ◌∙◌, ◌+ℤ◌, SFits, w64, rules, ap}
use Rattle.std.specs.Int.{div_ceil}
use Rattle.std.proofs.lemmas.Int.{to_z-of_z}
use Rattle.chart_grid.proofs.Slots.{parts_at}
use Rattle.chart_grid.proofs.grid.Grid.border.Goals as goal

pub returns-clause-parts : goal.returns-clause-parts
returns-clause-parts c =
    let from_fits : SFits w64 c.args.self.now.t0 = search rules in
    let to_fits : SFits w64 c.args.self.now.t1 = search rules in
    parts_at c.args.self.now c.args.c _
    (to_z-of_z w64 c.later.result (search rules)
    ∙ simp to_z-of_z at c.later.ensures
    ∙ ap (λ n. c.args.self.now.t0 +ℤ pos n)
    (c.steps_to.ensures.value ∙ ap (λ n. div_ceil (c.args.c * n) c.args.self.now.w) (simp to_z-of_z at c.gap.ensures)))
