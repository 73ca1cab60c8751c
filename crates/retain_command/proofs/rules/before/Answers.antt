use Rattle.retain_command.proofs.rules.before.Goals as goal

pub returns-in-Err-clause-none : goal.returns-in-Err-clause-none
returns-in-Err-clause-none c = λ is name number time two named spells. c.in-Err.ensures.none (cc) name number two named
