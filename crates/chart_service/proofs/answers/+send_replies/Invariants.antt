use Rattle.std.proofs.Common.{length}
use Rattle.chart_service.proofs.answers.+send_replies.Given as goal

abbrev pub decreases-send_replies : goal.decreases-send_replies
decreases-send_replies g l = length l.frames.now
