use Rattle.filter_scan.proofs.ends.+end_value.Given as goal

abbrev pub decreases-end_value : goal.decreases-end_value
decreases-end_value g l = l.key.level
