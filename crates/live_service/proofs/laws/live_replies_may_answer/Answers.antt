use Rattle.live_service.proofs.KindLemmas.{live_may, shows_push}
use Rattle.live_service.proofs.laws.live_replies_may_answer.Goals as goal

pub returns-clause-lines : goal.returns-clause-lines
returns-clause-lines c = λ line frame old new replied. live_may c.replies_may_answer.ensures line frame old new replied

pub returns-clause-pushes : goal.returns-clause-pushes
returns-clause-pushes c = λ frame old new well pushed. shows_push frame (c.pushes_show_views.ensures frame old new well pushed)
