use Rattle.path_repair.proofs.TouchLemmas.{touch_one}
use Rattle.path_repair.proofs.laws.one_slot_touches_a_page_a_level.Goals as goal

pub returns : goal.returns
returns c = touch_one
