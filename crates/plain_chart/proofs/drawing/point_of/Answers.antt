use Rattle.std.proofs.Common.{ℤ, ◌≤◌, ◌^◌, subst, sym, arith, rules}
use Rattle.std.specs.Prelude.{unsigned_abs, FitsSigned}
use Rattle.std.specs.Int.{w128}
use Rattle.std.proofs.lemmas.Int.{to_z-of_z}
use Rattle.plain_chart.proofs.Places.{height-size}
use Rattle.plain_chart.proofs.drawing.point_of.Goals as goal

pub returns-clause-height : goal.returns-clause-height
returns-clause-height c =
    let small = height-size c.args.sample.value c.args.range.lo c.args.range.hi c.args.grid.h c.requires.drawable.value c.requires.scale.low
    c.requires.scale.order (omega arith) in
    let S : ℤ → Type 0 = λ z. unsigned_abs z ≤ 10 ^ 22 in
    let f : FitsSigned w128 c.height_at.result = search rules in
    subst S (sym (to_z-of_z w128 c.height_at.result f)) (subst S (sym c.height_at.ensures) small)
