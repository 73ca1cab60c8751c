use Rattle.served_fronts.proofs.Witness.{honest}
use Rattle.served_fronts.proofs.laws.disks_in_memory_are_honest.Goals as goal

pub returns : goal.returns
returns c = honest
