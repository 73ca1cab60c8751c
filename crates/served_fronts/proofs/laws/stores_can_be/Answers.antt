use Rattle.served_fronts.proofs.Witness.{can_be}
use Rattle.served_fronts.proofs.laws.stores_can_be.Goals as goal

pub returns : goal.returns
returns c = can_be c.empty_stores_have_no_series.ensures.disk
