use Rattle.live_command.proofs.Drawing.{runs_drawn}
use Rattle.live_service.proofs.FollowLemmas.{Laws, Following}
use Rattle.live_command.proofs.laws.runs_draw_the_book.Goals as goal

laws : goal.After-pushes_show_views → Laws
laws c = record {
  line_draws = c.clients_draw_lines.ensures.draws;
  line_accepts = c.clients_draw_lines.ensures.accepts;
  line_sound = c.clients_draw_lines.ensures.sound;
  push_draws = c.clients_draw_pushes.ensures.draws;
  push_accepts = c.clients_draw_pushes.ensures.accepts;
  push_book = c.clients_draw_pushes.ensures.book;
}

following : goal.After-pushes_show_views → Following
following c = record {
  line_well = c.followed_sessions_can_follow.ensures.lines;
  push_well = c.followed_sessions_can_follow.ensures.pushes;
  push_shows = c.pushes_show_views.ensures;
}

pub returns : goal.returns
returns c = runs_drawn (laws c) (following c)
