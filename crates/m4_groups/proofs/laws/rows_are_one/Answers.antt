use Rattle.m4_groups.specs.Points.{spots}
use Rattle.m4_groups.proofs.Sets.{rows_from-are}
use Rattle.m4_groups.proofs.Unique.{AreRows-one}
use Rattle.m4_groups.proofs.Gathering.{spots-right}
use Rattle.m4_groups.proofs.laws.rows_are_one.Goals as goal

pub returns-clause-one : goal.returns-clause-one
returns-clause-one _ g points = AreRows-one (spots g points)

pub returns-clause-folded : goal.returns-clause-folded
returns-clause-folded _ g points order = rows_from-are (spots g points) (spots-right g points order)
