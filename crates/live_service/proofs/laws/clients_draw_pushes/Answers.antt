use Rattle.chart_service.specs.Replies.{own_zoom}
use Rattle.live_service.proofs.Drawn.{push_book}
use Rattle.live_service.proofs.laws.clients_draw_pushes.Goals as goal

pub returns-clause-draws : goal.returns-clause-draws
returns-clause-draws c = λ frame old new holdings sound pushed mirrors.
    c.clients_draw_requests.ensures.draws (own_zoom pushed.session pushed.last) frame old.state new.state holdings sound pushed.replied.0
    mirrors

pub returns-clause-accepts : goal.returns-clause-accepts
returns-clause-accepts c = λ frame old new holdings sound pushed mirrors.
    c.clients_draw_requests.ensures.accepts (own_zoom pushed.session pushed.last) frame old.state new.state holdings sound pushed.replied.0
    mirrors

pub returns-clause-book : goal.returns-clause-book
returns-clause-book c = push_book
