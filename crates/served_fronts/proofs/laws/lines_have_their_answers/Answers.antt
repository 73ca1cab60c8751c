use Rattle.served_fronts.proofs.Accepting.{own_accepted}
use Rattle.served_fronts.proofs.Covering.{CoverLaws}
use Rattle.served_fronts.proofs.OwnCovering.{reached_covered}
use Rattle.served_fronts.proofs.Owning.{answered}
use Rattle.served_fronts.proofs.laws.lines_have_their_answers.Goals as goal

pub returns : goal.returns
returns c =
    let either = c.a_text_is_read_in_one_way.ensures.either in
    let bound = c.keys_of_a_view_are_few.ensures.needed in
    let told = c.length_is_told.ensures in
    let one = c.replies_are_one.ensures.line in
    let stands = c.sessions_stand_alone.ensures.alone in
    let draws = c.one_session_draws_the_book.ensures in
    let covers = c.covers_narrow_to_the_picture.ensures in
    let laws : CoverLaws = record {
      draws = c.clients_draw_the_book.ensures.draws;
      agree = c.views_agree.ensures.lines;
      narrow = covers.narrow;
      hold = covers.hold;
    } in
    answered either bound told one c.drawn_fronts_are_the_book.ensures c.drawn_own_fronts_are_the_book.ensures
    (reached_covered laws c.one_frame_a_spelling.ensures c.more_bytes_mend_nothing.ensures.stays c.spellings_are_good.ensures
    c.replies_are_accepted.ensures stands draws (own_accepted either bound stands draws c.clients_draw_the_book.ensures.accepts)
    either bound told one)
