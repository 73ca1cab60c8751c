use Rattle.live_service.proofs.FollowLemmas.{Laws, Following}
use Rattle.host_command.proofs.Drawing.{Groups, Requests, Steps, hosts_drawn}
use Rattle.host_command.proofs.laws.hosts_draw_the_book.Goals as goal

requests : goal.After-pushes_show_views → Requests
requests c = record {
  draws = c.clients_draw_requests.ensures.draws;
  accepts = c.clients_draw_requests.ensures.accepts;
  order = c.points_are_the_samples.ensures.order;
}

laws : goal.After-pushes_show_views → Laws
laws c = record {
  line_draws = c.clients_draw_lines.ensures.draws;
  line_accepts = c.clients_draw_lines.ensures.accepts;
  line_sound = c.clients_draw_lines.ensures.sound;
  push_draws = c.clients_draw_pushes.ensures.draws;
  push_accepts = c.clients_draw_pushes.ensures.accepts;
  push_book = c.clients_draw_pushes.ensures.book;
}

following : goal.After-pushes_show_views → Following
following c = record {
  line_well = c.followed_sessions_can_follow.ensures.lines;
  push_well = c.followed_sessions_can_follow.ensures.pushes;
  push_shows = c.pushes_show_views.ensures;
}

groups : goal.After-pushes_show_views → Groups
groups c = record { well = c.followed_sessions_can_follow.ensures.groups; steps_well = c.sweeps_keep_following.ensures }

steps : goal.After-pushes_show_views → Steps
steps c = record { draws = c.clients_pass_sweeps.ensures.draws; accepts = c.clients_pass_sweeps.ensures.accepts }

pub returns : goal.returns
returns c = hosts_drawn (requests c) (laws c) (following c) (groups c) (steps c)
