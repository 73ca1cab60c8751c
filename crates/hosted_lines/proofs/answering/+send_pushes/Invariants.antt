use Rattle.std.proofs.Common.{length}
use Rattle.live_view.specs.Live as follows
use Rattle.hosted_lines.proofs.answering.+send_pushes.Given as goal

abbrev pub decreases-send_pushes : goal.decreases-send_pushes
decreases-send_pushes g l = length (follows.pending l.live.now)
