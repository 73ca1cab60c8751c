use Rattle.progressive_view.proofs.Agreeing.{picture-within}
use Rattle.progressive_view.proofs.laws.pictures_lie_within_covers.Goals as goal

pub returns : goal.returns
returns c s cover picture new drawn list fits accepted agrees =
    picture-within c.covers_hold_the_chart.ensures c.wanted_keys_are_needed.ensures.same s cover picture new drawn list fits accepted agrees
