use Rattle.std.proofs.Common.{◌-◌}
use Rattle.derived_chart.proofs.searches.+best_from.Given as goal

abbrev pub decreases-best_from : goal.decreases-best_from
decreases-best_from g l = l.q - l.p
