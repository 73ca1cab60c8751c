use Rattle.std.proofs.Common.{ℕ}
use Rattle.chart_service.specs.Alone.{only}
use Rattle.drawn_replies.specs.Pictures.{names}
use Rattle.live_command.proofs.Drawing.{Client, own_accepted}
use Rattle.live_command.proofs.laws.own_runs_are_accepted.Goals as goal

client : goal.After-clients_draw_lines → (n : ℕ) → Client (names n) (only n)
client c n = record { lines = c.one_session_draws_live_frames.ensures.lines n; pushes = c.one_session_draws_live_frames.ensures.pushes n }

pub returns : goal.returns
returns c = λ n. own_accepted n (client c n) c.clients_draw_lines.ensures.sound
