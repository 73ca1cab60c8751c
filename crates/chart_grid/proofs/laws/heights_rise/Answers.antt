use Rattle.chart_grid.proofs.Heights.{height-rising}
use Rattle.chart_grid.proofs.laws.heights_rise.Goals as goal

pub returns : goal.returns
returns _ = height-rising
