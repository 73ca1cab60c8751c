use Rattle.std.proofs.Common.{sym, subst, rules, arith, w64}
use Rattle.std.proofs.lemmas.Int.{ints, to_z-of_z}
use Rattle.derived_chart.specs.Points.{IsShift}
use Rattle.derived_chart.proofs.TimeLemmas.{no_shift, later_shift}
use Rattle.derived_chart.proofs.grids.shift_between.Goals as goal

pub returns-then-gap-step-ne0-clause-none : goal.returns-then-gap-step-ne0-clause-none
returns-then-gap-step-ne0-clause-none c = no_shift c.args.x c.args.y c.abs_diff-gap.result c.from-step.result c.requires.first
    c.requires.second c.abs_diff-gap.ensures c.from-step.ensures c.if-gap-step-ne0.true

pub returns-then-x-y-clause-shift : goal.returns-then-x-y-clause-shift
returns-then-x-y-clause-shift c =
    subst (IsShift c.args.x c.args.y) (sym (to_z-of_z w64 c.below.result (search rules)))
    (later_shift c.args.x c.args.y c.abs_diff-gap.result c.from-step.result c.below.result c.requires.first c.requires.second
    c.abs_diff-gap.ensures c.if-y-x.false c.from-step.ensures c.if-gap-step-ne0.false
    (omega (arith, ints, c.if-x-y.true)) c.below.ensures)
