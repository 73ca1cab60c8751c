use Rattle.derive_command.proofs.SpellLemmas.{no_numbers}
use Rattle.derive_command.proofs.requests.request_of.Goals as goal

pub returns-in_default-numbers_of-clause-none : goal.returns-in_default-numbers_of-clause-none
returns-in_default-numbers_of-clause-none c = λ is.
    no_numbers c.args.line.now c.in-Some.words c.in-Some.ensures.nine c.in_default-numbers_of.ensures.none
