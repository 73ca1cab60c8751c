use Rattle.drawn_replies.proofs.Following.{follows_all}
use Rattle.drawn_replies.proofs.laws.replies_draw_the_book.Goals as goal

pub returns : goal.returns
returns c lines frames drawings old new holdings now sound all m a =
    follows_all c.clients_draw_the_book.ensures.draws lines frames drawings old new holdings now sound all m a
