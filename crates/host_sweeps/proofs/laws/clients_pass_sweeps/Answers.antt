use Rattle.host_sweeps.proofs.LawLemmas.{sweep_accepted, sweep_draws}
use Rattle.host_sweeps.proofs.laws.clients_pass_sweeps.Goals as goal

pub returns-clause-draws : goal.returns-clause-draws
returns-clause-draws c = sweep_draws

pub returns-clause-accepts : goal.returns-clause-accepts
returns-clause-accepts c = sweep_accepted
