use Rattle.retention.proofs.LawLemmas.{freed}
use Rattle.retention.proofs.laws.pages_are_freed.Goals as goal

pub returns : goal.returns
returns c = freed
