use Rattle.served_fronts.proofs.Fronts.{fronts_draw}
use Rattle.served_fronts.proofs.laws.fronts_draw_the_book.Goals as goal

pub returns : goal.returns
returns c = fronts_draw c.one_frame_a_spelling.ensures c.length_is_told.ensures c.replies_draw_the_book.ensures
