use Rattle.std.proofs.Common.{arith}
use Rattle.node_page.proofs.KeyPlaces.{width_few}
use Rattle.node_page.proofs.places.node_number.Goals as goal

pub returns-clause-few : goal.returns-clause-few
returns-clause-few c =
    let width = width_few c.below_top.result c.below_top.ensures.few in omega (arith, width.0, width.1)
