use Rattle.std.proofs.Common.{length}
use Rattle.store_tests.proofs.deeds.+are_edits.Given as goal

abbrev pub decreases-are_edits : goal.decreases-are_edits
decreases-are_edits l = length l.edits.now
