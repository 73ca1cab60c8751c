use Rattle.served_fronts.proofs.Stopped.{drawn_fronts}
use Rattle.served_fronts.proofs.laws.drawn_fronts_are_the_book.Goals as goal

pub returns : goal.returns
returns c =
    drawn_fronts c.one_frame_a_spelling.ensures c.length_is_told.ensures c.more_bytes_mend_nothing.ensures.stays
    c.spellings_are_good.ensures c.replies_draw_the_book.ensures c.replies_are_accepted.ensures
