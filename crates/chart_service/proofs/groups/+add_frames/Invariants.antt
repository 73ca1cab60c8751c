use Rattle.std.proofs.Common.{length}
use Rattle.chart_service.proofs.groups.+add_frames.Given as goal

abbrev pub decreases-add_frames : goal.decreases-add_frames
decreases-add_frames l = length l.answers.now
