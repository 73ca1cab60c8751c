use Rattle.served_fronts.proofs.Exact.{exact}
use Rattle.served_fronts.proofs.laws.charts_are_exact.Goals as goal

pub returns : goal.returns
returns c = exact
