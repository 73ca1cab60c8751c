use Rattle.host_sweeps.proofs.ClearLemmas.{steps_last, steps_rest, steps_together}
use Rattle.host_sweeps.proofs.laws.sweeps_go_on.Goals as goal

pub returns-clause-rest : goal.returns-clause-rest
returns-clause-rest c = steps_rest c.steps_go_on.ensures.rest

pub returns-clause-together : goal.returns-clause-together
returns-clause-together c = steps_together c.steps_go_on.ensures.together

pub returns-clause-last : goal.returns-clause-last
returns-clause-last c = steps_last c.steps_go_on.ensures.all
