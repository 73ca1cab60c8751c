use Rattle.served_fronts.proofs.Fronts.{own_fronts_draw}
use Rattle.served_fronts.proofs.laws.own_fronts_draw_the_book.Goals as goal

pub returns : goal.returns
returns c = own_fronts_draw c.one_frame_a_spelling.ensures c.length_is_told.ensures c.one_session_draws_the_book.ensures
