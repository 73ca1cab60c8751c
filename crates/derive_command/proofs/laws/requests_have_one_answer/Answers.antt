use Rattle.derive_command.proofs.GoodLemmas.{not_refused, one_answer, one_refusal}
use Rattle.derive_command.proofs.laws.requests_have_one_answer.Goals as goal

pub returns-clause-answer : goal.returns-clause-answer
returns-clause-answer c = one_answer c.charts_are_one.ensures

pub returns-clause-refusal : goal.returns-clause-refusal
returns-clause-refusal c = one_refusal

pub returns-clause-apart : goal.returns-clause-apart
returns-clause-apart c = λ book request text why answer refused. not_refused book request text answer why refused
