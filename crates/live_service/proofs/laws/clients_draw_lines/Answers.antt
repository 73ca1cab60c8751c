use Rattle.live_service.proofs.Drawn.{line_draws, line_accepted, line_sound}
use Rattle.live_service.proofs.laws.clients_draw_lines.Goals as goal

pub returns-clause-draws : goal.returns-clause-draws
returns-clause-draws c = line_draws c.clients_draw_the_book.ensures.draws

pub returns-clause-accepts : goal.returns-clause-accepts
returns-clause-accepts c = line_accepted c.clients_draw_the_book.ensures.accepts

pub returns-clause-sound : goal.returns-clause-sound
returns-clause-sound c = line_sound
