use Rattle.live_service.proofs.Followed.{first_well, line_well, push_well}
use Rattle.live_service.proofs.OneEdit.{group_well}
use Rattle.live_service.proofs.laws.followed_sessions_can_follow.Goals as goal

pub returns-clause-first : goal.returns-clause-first
returns-clause-first c = first_well

pub returns-clause-lines : goal.returns-clause-lines
returns-clause-lines c = line_well

pub returns-clause-pushes : goal.returns-clause-pushes
returns-clause-pushes c = push_well

pub returns-clause-groups : goal.returns-clause-groups
returns-clause-groups c = group_well
