use Rattle.live_command.proofs.Drawing.{runs_accepted}
use Rattle.live_service.proofs.FollowLemmas.{Laws}
use Rattle.live_command.proofs.laws.runs_are_accepted.Goals as goal

laws : goal.After-clients_draw_pushes → Laws
laws c = record {
  line_draws = c.clients_draw_lines.ensures.draws;
  line_accepts = c.clients_draw_lines.ensures.accepts;
  line_sound = c.clients_draw_lines.ensures.sound;
  push_draws = c.clients_draw_pushes.ensures.draws;
  push_accepts = c.clients_draw_pushes.ensures.accepts;
  push_book = c.clients_draw_pushes.ensures.book;
}

pub returns : goal.returns
returns c = runs_accepted (laws c)
