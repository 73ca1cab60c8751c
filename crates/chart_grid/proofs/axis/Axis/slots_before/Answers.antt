use Rattle.std.proofs.Common.{◌≤ℤ◌, ◌∙◌, min, ap, SFits, w64, rules, arith}
use Rattle.std.specs.Int.{div_ceil}
use Rattle.std.proofs.lemmas.Int.{ints, to_z-of_z}
use Rattle.chart_grid.proofs.Slots.{some-before}
use Rattle.chart_grid.proofs.axis.Axis.slots_before.Goals as goal

pub returns : goal.returns
returns c =
    let start_fits : SFits w64 c.args.self.now.start = search rules in
    let time_fits : SFits w64 c.args.t = c.ranges.t in
    let late : c.args.self.now.start ≤ℤ c.args.t = grind (arith, ints) in
    some-before c.args.self.now c.args.t c.gap.result c.min.result c.requires late (simp to_z-of_z at c.gap.ensures)
    (c.min.ensures ∙ ap (λ n. min n c.args.self.now.slots) (c.div_ceil.ensures ∙ ap (λ n. div_ceil c.gap.result n) c.from.ensures))
