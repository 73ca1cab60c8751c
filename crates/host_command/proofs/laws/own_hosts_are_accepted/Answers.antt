use Rattle.host_command.proofs.Drawing.{Goes, OwnFrames, own_accepted}
use Rattle.host_command.proofs.laws.own_hosts_are_accepted.Goals as goal

own : goal.After-clients_draw_pushes → OwnFrames
own c = record {
  requests = c.one_session_draws_each_frame.ensures.requests;
  lines = c.one_session_draws_live_frames.ensures.lines;
  pushes = c.one_session_draws_live_frames.ensures.pushes;
  order = c.points_are_the_samples.ensures.order;
}

goes : goal.After-clients_draw_pushes → Goes
goes c = record { line_sound = c.clients_draw_lines.ensures.sound; push_book = c.clients_draw_pushes.ensures.book }

pub returns : goal.returns
returns c = own_accepted (own c) (goes c)
