use Rattle.coefficient_cache.proofs.Given.{sent-and-held}
use Rattle.coefficient_cache.proofs.laws.sent_and_held_give_the_needed.Goals as goal

pub returns : goal.returns
returns _ = sent-and-held
