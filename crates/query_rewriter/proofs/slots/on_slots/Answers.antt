use Rattle.std.proofs.Common.{rules, arith, ◌-◌, ℤ, subst, SFits, w64}
use mir.Val.{to_z, of_z}
use Rattle.std.proofs.lemmas.Int.{ints, to_z-of_z}
use Rattle.value_filter.specs.Steps.{expression_of}
use Rattle.value_filter.specs.Boxes.{IsAnswer}
use Rattle.query_rewriter.proofs.Windows.{time_rises}
use Rattle.query_rewriter.proofs.Answered.{says}
use Rattle.query_rewriter.proofs.slots.on_slots.Goals as goal

pub returns : goal.returns
returns c =
    let from : SFits w64 c.time_of-from.result = search rules in
    let to : SFits w64 c.time_of-to.result = search rules in
    let first : ℤ = to_z w64 (of_z w64 c.time_of-from.result) in
    let P : ℤ → Type 0 = λ x. IsAnswer (expression_of c.args.filter.now) (first, x) c.args.values c.on_box.result in
    let Q : ℤ → Type 0 = λ x. IsAnswer (expression_of c.args.filter.now) (x, c.time_of-to.result) c.args.values c.on_box.result in
    says (expression_of c.args.filter.now) c.args.axis c.args.slots.0 c.args.slots.1 c.args.values c.time_of-from.result c.time_of-to.result
    c.on_box.result
    c.time_of-from.ensures c.time_of-to.ensures
    (λ t v is. c.answers_hold_everywhere.ensures.all (expression_of c.args.filter.now) (
      c.time_of-from.result,
      c.time_of-to.result,
    ) c.args.values is t v)
    (λ t v is. c.answers_hold_everywhere.ensures.nothing (expression_of c.args.filter.now) (
      c.time_of-from.result,
      c.time_of-to.result,
    ) c.args.values is t v)
    (subst Q (to_z-of_z w64 c.time_of-from.result from) (subst P (to_z-of_z w64 c.time_of-to.result to) c.on_box.ensures))

pub time_of-from-requires : goal.time_of-from-requires
time_of-from-requires c = c.requires.shown.each c.args.slots.0 (omega arith) c.requires.some

pub time_of-to-requires : goal.time_of-to-requires
time_of-to-requires c = c.requires.shown.each (c.args.slots.1 - 1) (omega (arith, c.requires.some)) (omega (arith, c.requires.some))

pub on_box-requires-clause-times : goal.on_box-requires-clause-times
on_box-requires-clause-times c =
    let rises = time_rises c.args.axis c.args.slots.0 (c.args.slots.1 - 1) (omega (arith, c.requires.some)) in
    omega (arith, ints, c.time_of-from.ensures, c.time_of-to.ensures, rises)
