use Rattle.std.proofs.Common.{length}
use Rattle.series_store.proofs.groups.+commit_all.Given as goal

abbrev pub decreases-commit_all : goal.decreases-commit_all
decreases-commit_all g l = length l.edits.now
