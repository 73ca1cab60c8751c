use Rattle.chart_service.specs.Replies.{own_zoom}
use Rattle.live_service.proofs.Drawn.{line_follows}
use Rattle.live_service.proofs.laws.one_session_draws_live_frames.Goals as goal

pub returns-clause-lines : goal.returns-clause-lines
returns-clause-lines c = line_follows c.one_session_draws_each_frame.ensures.lines

pub returns-clause-pushes : goal.returns-clause-pushes
returns-clause-pushes c = λ n frame old new sound pushed.
    c.one_session_draws_each_frame.ensures.requests n (own_zoom pushed.session pushed.last) frame old.state new.state sound pushed.replied.0
