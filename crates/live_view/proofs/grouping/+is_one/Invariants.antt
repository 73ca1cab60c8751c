use Rattle.std.proofs.Common.{length}
use Rattle.live_view.proofs.grouping.+is_one.Given as goal

abbrev pub decreases-is_one : goal.decreases-is_one
decreases-is_one l = length l.series.now
