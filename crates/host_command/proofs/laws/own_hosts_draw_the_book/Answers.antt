use Rattle.live_service.proofs.FollowLemmas.{Following}
use Rattle.host_command.proofs.Drawing.{Goes, Groups, OwnFrames, own_drawn}
use Rattle.host_command.proofs.laws.own_hosts_draw_the_book.Goals as goal

own : goal.After-pushes_show_views → OwnFrames
own c = record {
  requests = c.one_session_draws_each_frame.ensures.requests;
  lines = c.one_session_draws_live_frames.ensures.lines;
  pushes = c.one_session_draws_live_frames.ensures.pushes;
  order = c.points_are_the_samples.ensures.order;
}

goes : goal.After-pushes_show_views → Goes
goes c = record { line_sound = c.clients_draw_lines.ensures.sound; push_book = c.clients_draw_pushes.ensures.book }

following : goal.After-pushes_show_views → Following
following c = record {
  line_well = c.followed_sessions_can_follow.ensures.lines;
  push_well = c.followed_sessions_can_follow.ensures.pushes;
  push_shows = c.pushes_show_views.ensures;
}

groups : goal.After-pushes_show_views → Groups
groups c = record { well = c.followed_sessions_can_follow.ensures.groups; steps_well = c.sweeps_keep_following.ensures }

pub returns : goal.returns
returns c = own_drawn (own c) (goes c) (following c) (groups c)
