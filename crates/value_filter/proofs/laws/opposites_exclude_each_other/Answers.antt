use Rattle.value_filter.proofs.Everywhere.{compares-opposite}
use Rattle.value_filter.proofs.laws.opposites_exclude_each_other.Goals as goal

pub returns : goal.returns
returns c = compares-opposite
