use Rattle.path_repair.proofs.TouchLemmas.{touch_lower}
use Rattle.path_repair.proofs.laws.lower_trees_are_touched_less.Goals as goal

pub returns : goal.returns
returns c = touch_lower
