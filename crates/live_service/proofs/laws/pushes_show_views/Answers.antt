use Rattle.live_service.proofs.Followed.{push_shows}
use Rattle.live_service.proofs.laws.pushes_show_views.Goals as goal

pub returns : goal.returns
returns c = push_shows c.followed_views_fit.ensures.needed
