use Rattle.served_fronts.proofs.Accepting.{own_accepted}
use Rattle.served_fronts.proofs.Stopped.{drawn_own_fronts}
use Rattle.served_fronts.proofs.laws.drawn_own_fronts_are_the_book.Goals as goal

pub returns : goal.returns
returns c =
    drawn_own_fronts c.one_frame_a_spelling.ensures c.length_is_told.ensures c.more_bytes_mend_nothing.ensures.stays
    c.spellings_are_good.ensures c.one_session_draws_the_book.ensures
    (own_accepted c.a_text_is_read_in_one_way.ensures.either c.keys_of_a_view_are_few.ensures.needed
    c.sessions_stand_alone.ensures.alone c.one_session_draws_the_book.ensures c.clients_draw_the_book.ensures.accepts)
