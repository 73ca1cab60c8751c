use Rattle.filter_scan.proofs.walking.+fill_below.Given as goal

abbrev pub decreases-fill_below : goal.decreases-fill_below
decreases-fill_below g l = l.key.level
