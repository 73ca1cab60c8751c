use Rattle.drawn_replies.proofs.Naming.{replies_open}
use Rattle.drawn_replies.proofs.laws.replies_name_opened_sessions.Goals as goal

pub returns : goal.returns
returns c lines frames old new sound none all =
    c.frames_name_opened_sessions.ensures frames (replies_open lines frames old new sound.sessions none all)
