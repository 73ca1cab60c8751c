use Rattle.std.proofs.Common.{true, false, refl}
use mir.Val.{SFits}
use Rattle.std.specs.Int.{w64, w128}
use Rattle.std.proofs.Common.{rules}
use Rattle.std.proofs.lemmas.Int.{to_z-of_z}
use Rattle.value_filter.proofs.Compared.{widened, always_same, once_same, always_not, once_not}
use Rattle.value_filter.proofs.atoms.Comparison.on_interval.Goals as goal

pub returns-then-is_always : goal.returns-then-is_always
returns-then-is_always c =
    let low : SFits w64 c.args.interval.0 = search rules in
    let high : SFits w64 c.args.interval.1 = search rules in
    always_same c.args.self _ _ _ c.args.interval.0 c.args.interval.1 c.args.number true
    (widened _ _ c.from-low.ensures low) (widened _ _ c.from-high.ensures high) (to_z-of_z w128 c.args.number c.ranges.number)
    (c.if-is_always.ensures.always refl)

pub returns-then-is_always-2 : goal.returns-then-is_always-2
returns-then-is_always-2 c =
    let low : SFits w64 c.args.interval.0 = search rules in
    let high : SFits w64 c.args.interval.1 = search rules in
    always_not c.args.self c.opposite.result c.args.interval c.args.number c.opposite.ensures
    (always_same c.opposite.result _ _ _ c.args.interval.0 c.args.interval.1 c.args.number true
    (widened _ _ c.from-low.ensures low) (widened _ _ c.from-high.ensures high) (to_z-of_z w128 c.args.number c.ranges.number)
    (c.if-is_always-2.ensures.always refl))

pub returns : goal.returns
returns c =
    let low : SFits w64 c.args.interval.0 = search rules in
    let high : SFits w64 c.args.interval.1 = search rules in (
      once_not c.args.self c.opposite.result c.args.interval c.args.number c.opposite.ensures
          (once_same c.opposite.result _ _ _ c.args.interval.0 c.args.interval.1 c.args.number false
          (widened _ _ c.from-low.ensures low) (widened _ _ c.from-high.ensures high) (to_z-of_z w128 c.args.number c.ranges.number)
          (c.if-is_always-2.ensures.once refl)),
      once_same c.args.self _ _ _ c.args.interval.0 c.args.interval.1 c.args.number false
          (widened _ _ c.from-low.ensures low) (widened _ _ c.from-high.ensures high) (to_z-of_z w128 c.args.number c.ranges.number)
          (c.if-is_always.ensures.once refl),
    )
