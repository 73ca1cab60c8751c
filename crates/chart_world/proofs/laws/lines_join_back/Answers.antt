use Rattle.chart_world.specs.LineLaws.{lines_first, joined_lines, rest_line}
use Rattle.chart_world.proofs.laws.lines_join_back.Goals as goal

pub returns-clause-first : goal.returns-clause-first
returns-clause-first c = lines_first

pub returns-clause-joined : goal.returns-clause-joined
returns-clause-joined c = joined_lines

pub returns-clause-rest : goal.returns-clause-rest
returns-clause-rest c = rest_line
