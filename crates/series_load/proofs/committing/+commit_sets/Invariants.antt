use Rattle.std.proofs.Common.{length}
use Rattle.series_load.proofs.committing.+commit_sets.Given as goal

abbrev pub decreases-commit_sets : goal.decreases-commit_sets
decreases-commit_sets g l = length l.sets.now
