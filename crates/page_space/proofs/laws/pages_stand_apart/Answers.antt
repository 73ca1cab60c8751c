use Rattle.page_space.proofs.Apart.{apart}
use Rattle.page_space.proofs.laws.pages_stand_apart.Goals as goal

pub returns : goal.returns
returns c = apart
