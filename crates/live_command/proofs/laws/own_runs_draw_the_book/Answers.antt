use Rattle.live_command.proofs.Drawing.{Client, Goes, own_drawn}
use Rattle.live_service.proofs.FollowLemmas.{Following}
use Rattle.drawn_replies.specs.Pictures.{names}
use Rattle.chart_service.specs.Alone.{only}
use Rattle.std.proofs.Common.{ℕ}
use Rattle.live_command.proofs.laws.own_runs_draw_the_book.Goals as goal

client : goal.After-pushes_show_views → (n : ℕ) → Client (names n) (only n)
client c n = record { lines = c.one_session_draws_live_frames.ensures.lines n; pushes = c.one_session_draws_live_frames.ensures.pushes n }

goes : goal.After-pushes_show_views → Goes
goes c = record { line_sound = c.clients_draw_lines.ensures.sound; push_book = c.clients_draw_pushes.ensures.book }

following : goal.After-pushes_show_views → Following
following c = record {
  line_well = c.followed_sessions_can_follow.ensures.lines;
  push_well = c.followed_sessions_can_follow.ensures.pushes;
  push_shows = c.pushes_show_views.ensures;
}

pub returns : goal.returns
returns c = λ n. own_drawn n (client c n) (goes c) (following c)
