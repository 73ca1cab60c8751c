use Rattle.served_fronts.proofs.Cutting.{cut}
use Rattle.served_fronts.proofs.laws.bytes_are_cut_in_one_way.Goals as goal

pub returns : goal.returns
returns c = cut
