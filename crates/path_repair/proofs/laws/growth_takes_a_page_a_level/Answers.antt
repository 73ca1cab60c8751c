use Rattle.path_repair.proofs.TouchLemmas.{touch_growth}
use Rattle.path_repair.proofs.laws.growth_takes_a_page_a_level.Goals as goal

pub returns : goal.returns
returns c = touch_growth
