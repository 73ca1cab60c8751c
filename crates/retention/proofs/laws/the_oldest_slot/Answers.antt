use Rattle.retention.proofs.OldestLemmas.{oldest_is, oldest_none}
use Rattle.retention.proofs.laws.the_oldest_slot.Goals as goal

pub returns-clause-some : goal.returns-clause-some
returns-clause-some c = oldest_is

pub returns-clause-none : goal.returns-clause-none
returns-clause-none c = oldest_none
