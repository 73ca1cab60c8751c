use Rattle.chart_grid.proofs.Rising.{column-rising, column-below}
use Rattle.chart_grid.proofs.laws.columns_rise.Goals as goal

pub returns-clause-rise : goal.returns-clause-rise
returns-clause-rise _ = column-rising

pub returns-clause-drawn : goal.returns-clause-drawn
returns-clause-drawn _ = column-below
