use Rattle.live_service.proofs.FollowLemmas.{Laws}
use Rattle.host_command.proofs.Drawing.{Requests, Steps, hosts_accepted}
use Rattle.host_command.proofs.laws.hosts_are_accepted.Goals as goal

requests : goal.After-clients_draw_pushes → Requests
requests c = record {
  draws = c.clients_draw_requests.ensures.draws;
  accepts = c.clients_draw_requests.ensures.accepts;
  order = c.points_are_the_samples.ensures.order;
}

laws : goal.After-clients_draw_pushes → Laws
laws c = record {
  line_draws = c.clients_draw_lines.ensures.draws;
  line_accepts = c.clients_draw_lines.ensures.accepts;
  line_sound = c.clients_draw_lines.ensures.sound;
  push_draws = c.clients_draw_pushes.ensures.draws;
  push_accepts = c.clients_draw_pushes.ensures.accepts;
  push_book = c.clients_draw_pushes.ensures.book;
}

steps : goal.After-clients_draw_pushes → Steps
steps c = record { draws = c.clients_pass_sweeps.ensures.draws; accepts = c.clients_pass_sweeps.ensures.accepts }

pub returns : goal.returns
returns c = hosts_accepted (requests c) (laws c) (steps c)
