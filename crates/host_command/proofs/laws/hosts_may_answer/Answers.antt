use Rattle.host_command.proofs.Drawing.{Groups}
use Rattle.host_command.proofs.MayLemmas.{hosts_may}
use Rattle.live_service.proofs.FollowLemmas.{Following}
use Rattle.host_command.proofs.laws.hosts_may_answer.Goals as goal

following : goal.After-live_replies_may_answer → Following
following c = record {
  line_well = c.followed_sessions_can_follow.ensures.lines;
  push_well = c.followed_sessions_can_follow.ensures.pushes;
  push_shows = c.pushes_show_views.ensures;
}

groups : goal.After-live_replies_may_answer → Groups
groups c = record { well = c.followed_sessions_can_follow.ensures.groups; steps_well = c.sweeps_keep_following.ensures }

pub returns : goal.returns
returns c = hosts_may c.live_replies_may_answer.ensures.lines (following c) (groups c)
