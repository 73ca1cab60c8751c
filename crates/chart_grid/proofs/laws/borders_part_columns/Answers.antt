use Rattle.chart_grid.proofs.Rising.{column-between, border-first, border-last, borders-rising}
use Rattle.chart_grid.proofs.laws.borders_part_columns.Goals as goal

pub returns-clause-between : goal.returns-clause-between
returns-clause-between _ = column-between

pub returns-clause-first : goal.returns-clause-first
returns-clause-first _ = border-first

pub returns-clause-last : goal.returns-clause-last
returns-clause-last _ = border-last

pub returns-clause-rise : goal.returns-clause-rise
returns-clause-rise _ = borders-rising
