use Rattle.std.proofs.Common.{length}
use Rattle.live_view.proofs.grouping.+add_changed.Given as goal

abbrev pub decreases-add_changed : goal.decreases-add_changed
decreases-add_changed g l = length l.edits.now
