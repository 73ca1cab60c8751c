use Rattle.coefficient_cache.proofs.Given.{found-held, held-found}
use Rattle.coefficient_cache.proofs.laws.held_is_found.Goals as goal

pub returns : goal.returns
returns _ pairs e = (found-held pairs e, held-found pairs e)
