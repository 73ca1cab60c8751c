use Rattle.host_sweeps.proofs.ClearLemmas.{clears_some}
use Rattle.host_sweeps.proofs.laws.clears_are_edits.Goals as goal

pub returns : goal.returns
returns c = clears_some
