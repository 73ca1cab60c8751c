use Rattle.std.proofs.Common.{arith, ◌∙◌}
use Rattle.path_repair.proofs.FormLemmas.{start_form, start_child}
use Rattle.path_repair.proofs.opening.start_bytes.Goals as goal

pub returns-clause-form : goal.returns-clause-form
returns-clause-form c = λ total below.
    start_form c.args.level total c.args.page c.blank.new.bytes c.set_level.new.bytes c.set_child.new.bytes c.blank.ensures.zeros
    c.set_level.ensures.whole c.set_level.ensures.kind c.set_level.ensures.level c.set_level.ensures.rest
    c.set_child.ensures.whole c.set_child.ensures.child c.set_child.ensures.others c.set_child.ensures.rest below

pub returns-clause-none : goal.returns-clause-none
returns-clause-none c = λ child some within.
    c.set_child.ensures.others child (λ is. omega (arith, is, some))
    ∙ start_child c.blank.new.bytes c.set_level.new.bytes c.blank.ensures.zeros c.set_level.ensures.rest child within
