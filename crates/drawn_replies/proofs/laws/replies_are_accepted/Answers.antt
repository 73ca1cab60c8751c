use Rattle.drawn_replies.proofs.Following.{accepted}
use Rattle.drawn_replies.proofs.laws.replies_are_accepted.Goals as goal

pub returns : goal.returns
returns c lines frames old new sound none all =
    accepted c.clients_draw_the_book.ensures.draws c.clients_draw_the_book.ensures.accepts lines frames old new sound none all
