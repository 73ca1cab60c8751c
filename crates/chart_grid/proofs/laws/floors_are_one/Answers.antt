use Rattle.chart_grid.proofs.Floors.{floor_div-is, IsFloor-one}
use Rattle.chart_grid.proofs.laws.floors_are_one.Goals as goal

pub returns-clause-is : goal.returns-clause-is
returns-clause-is _ = floor_div-is

pub returns-clause-one : goal.returns-clause-one
returns-clause-one _ = IsFloor-one
