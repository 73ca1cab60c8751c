use Rattle.tree_walk.proofs.StandingLemmas.{standing_sound}
use Rattle.tree_walk.proofs.laws.standing_pages_are_sound.Goals as goal

pub returns : goal.returns
returns c = standing_sound
