use Rattle.host_sweeps.proofs.LawLemmas.{sweep_well}
use Rattle.host_sweeps.proofs.laws.sweeps_keep_following.Goals as goal

pub returns : goal.returns
returns c = sweep_well
