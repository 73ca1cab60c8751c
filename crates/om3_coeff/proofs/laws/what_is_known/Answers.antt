use Rattle.om3_coeff.proofs.KnownLemmas.{known_top, known_step, known_proper, known_clear}
use Rattle.om3_coeff.proofs.laws.what_is_known.Goals as goal

pub returns-clause-top : goal.returns-clause-top
returns-clause-top c = known_top

pub returns-clause-below : goal.returns-clause-below
returns-clause-below c = known_step

pub returns-clause-proper : goal.returns-clause-proper
returns-clause-proper c = known_proper

pub returns-clause-clear : goal.returns-clause-clear
returns-clause-clear c = known_clear
