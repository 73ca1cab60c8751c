use Rattle.std.proofs.Common.{[], List, sym, ◌∙◌, subst}
use Rattle.value_filter.specs.declared.steps.Step.{Step}
use Rattle.value_filter.specs.Steps.{expression_of, AreOfExpression}
use Rattle.value_filter.specs.Boxes.{IsAnswer}
use Rattle.value_filter.specs.declared.box_answers.BoxAnswer.{BoxAnswer}
use Rattle.value_filter.specs.Telling.{AreAnswers}
use Rattle.value_filter.proofs.Told.{next_step, all_told, are_of, answers_have_room, some_left, last_answer}
use Rattle.value_filter.proofs.filters.Filter.on_box.Goals as goal

pub take-requires-clause-room : goal.take-requires-clause-room
take-requires-clause-room c =
    let i = c.loop-step.invariant in
    let n = next_step c.deref-step-items.result.now c.loop-step.step-index _ i.0 _ c.loop-step-test.true i.2 in
    answers_have_room _ i.0 n.0 c.args.times c.args.values c.loop-step.answers i.1 n.1

pub loop-step-init : goal.loop-step-init
loop-step-init c =
    let P : List Step → Type 0 = λ steps. AreOfExpression steps in
    let Q : List BoxAnswer → Type 0 = λ answers. AreAnswers [] c.args.times c.args.values answers in (
      [],
      subst Q (sym c.new-answers.ensures) tt,
      are_of c.deref-step-items.result.now
          (subst P (sym c.deref-step-items.ensures.value) c.self.invariant),
    )

pub loop-step-preserved : goal.loop-step-preserved
loop-step-preserved c =
    let i = c.loop-step.invariant in
    let n = next_step c.deref-step-items.result.now c.loop-step.step-index _ i.0 _ c.loop-step-test.true i.2 in
    (n.0, c.take.ensures i.0 n.0 i.1 n.1, n.2)

pub pop-requires : goal.pop-requires
pop-requires c =
    let i = c.loop-step.invariant in
    some_left i.0 _ c.args.times c.args.values c.loop-step.answers
    (all_told c.deref-step-items.result.now c.loop-step.step-index i.0 _ c.loop-step-test.false i.2) i.1

pub returns : goal.returns
returns c =
    let i = c.loop-step.invariant in
    let P : List Step → Type 0 = λ steps. IsAnswer (expression_of steps) c.args.times c.args.values c.pop.result in
    subst P (c.deref-step-items.ensures.value ∙ c.self.view_is)
    (last_answer i.0 (expression_of c.deref-step-items.result.now) c.args.times c.args.values c.loop-step.answers c.pop.result _
    (all_told c.deref-step-items.result.now c.loop-step.step-index i.0 _ c.loop-step-test.false i.2) i.1 c.pop.ensures.answer)
