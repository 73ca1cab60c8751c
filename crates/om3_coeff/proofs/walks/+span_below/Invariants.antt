use Rattle.om3_coeff.proofs.walks.+span_below.Given as goal

abbrev pub decreases-span_below : goal.decreases-span_below
decreases-span_below g l = l.key.level
