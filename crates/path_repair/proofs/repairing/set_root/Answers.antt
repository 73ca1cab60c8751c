use Rattle.path_repair.proofs.FormLemmas.{set_form}
use Rattle.path_repair.proofs.repairing.set_root.Goals as goal

pub returns-clause-form : goal.returns-clause-form
returns-clause-form c = λ level total form below.
    set_form level total c.args.child c.args.root.page c.args.bytes.now c.set_child.new.bytes c.set_child.ensures.whole
    c.set_child.ensures.child c.set_child.ensures.others c.set_child.ensures.rest below c.requires.child form
