use Rattle.page_space.proofs.Apart.{one_state}
use Rattle.page_space.proofs.laws.pages_stand_for_one_state.Goals as goal

pub returns : goal.returns
returns c = one_state
