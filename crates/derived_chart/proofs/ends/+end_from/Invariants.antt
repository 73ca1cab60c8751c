use Rattle.std.proofs.Common.{◌-◌}
use Rattle.derived_chart.proofs.ends.+end_from.Given as goal

abbrev pub decreases-end_from : goal.decreases-end_from
decreases-end_from g l = l.q - l.p
