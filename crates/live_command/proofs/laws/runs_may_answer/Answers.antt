use Rattle.live_command.proofs.MayLemmas.{runs_may}
use Rattle.live_service.proofs.FollowLemmas.{Following}
use Rattle.live_command.proofs.laws.runs_may_answer.Goals as goal

following : goal.After-live_replies_may_answer → Following
following c = record {
  line_well = c.followed_sessions_can_follow.ensures.lines;
  push_well = c.followed_sessions_can_follow.ensures.pushes;
  push_shows = c.pushes_show_views.ensures;
}

pub returns : goal.returns
returns c = runs_may c.live_replies_may_answer.ensures.lines (following c)
