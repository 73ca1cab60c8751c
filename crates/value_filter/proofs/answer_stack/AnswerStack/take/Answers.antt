use Rattle.value_filter.proofs.Told.{told_test, told_not, told_and, told_or}
use Rattle.value_filter.proofs.answer_stack.AnswerStack.take.Goals as goal

pub returns-in-Test : goal.returns-in-Test
returns-in-Test c = λ pending next are e.
    told_test c.args.step c.in-Test.atom pending next c.args.times c.args.values c.args.self.now c.push.new.self c.on_box.result
    c.in-Test.is c.push.ensures c.on_box.ensures are e

pub returns-in-Not : goal.returns-in-Not
returns-in-Not c = λ pending next are e. told_not c.args.step pending next c.args.times c.args.values c.args.self.now c.negate.new.self
    c.in-Not.is are e c.negate.ensures

pub returns-in-And : goal.returns-in-And
returns-in-And c = λ pending next are e. told_and c.args.step pending next c.args.times c.args.values c.args.self.now c.join_both.new.self
    c.in-And.is are e c.join_both.ensures

pub returns-in-Or : goal.returns-in-Or
returns-in-Or c = λ pending next are e. told_or c.args.step pending next c.args.times c.args.values c.args.self.now c.join_either.new.self
    c.in-Or.is are e c.join_either.ensures
