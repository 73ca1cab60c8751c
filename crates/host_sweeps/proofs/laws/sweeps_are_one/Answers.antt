use Rattle.host_sweeps.proofs.LawLemmas.{sweep_one}
use Rattle.host_sweeps.proofs.laws.sweeps_are_one.Goals as goal

pub returns : goal.returns
returns c = sweep_one
