use Rattle.progressive_view.proofs.Later.{later-within}
use Rattle.progressive_view.proofs.laws.later_covers_lie_within.Goals as goal

pub returns : goal.returns
returns c view holdings i j early late x y fits low is = later-within c.covers_shrink.ensures view holdings i j early late x y fits low is
