use Rattle.m4_groups.proofs.Gathering.{point-follows}
use Rattle.m4_groups.proofs.laws.points_follow.Goals as goal

pub returns : goal.returns
returns _ = point-follows
