use Rattle.std.proofs.Common.{length}
use Rattle.hosted_lines.proofs.sending.+send_frames.Given as goal

abbrev pub decreases-send_frames : goal.decreases-send_frames
decreases-send_frames g l = length l.frames.now
