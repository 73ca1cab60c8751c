use Rattle.derive_command.proofs.AnsweredLemmas.{settled}
use Rattle.derive_command.proofs.laws.requests_have_an_answer.Goals as goal

pub returns : goal.returns
returns c = λ book request steps. settled c.kept_sums_are_the_samples.ensures book steps request
