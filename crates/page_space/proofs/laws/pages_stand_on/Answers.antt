use Rattle.page_space.proofs.Apart.{stands_on}
use Rattle.page_space.proofs.laws.pages_stand_on.Goals as goal

pub returns : goal.returns
returns c = stands_on
