use Rattle.derived_chart.proofs.slots.+read_below.Given as goal

abbrev pub decreases-read_below : goal.decreases-read_below
decreases-read_below g l = l.key.level
