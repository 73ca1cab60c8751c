use Rattle.retention.proofs.TimeLemmas.{before_is, before_slot}
use Rattle.retention.proofs.laws.slots_before_a_time.Goals as goal

pub returns-clause-earlier : goal.returns-clause-earlier
returns-clause-earlier c = before_is

pub returns-clause-slot : goal.returns-clause-slot
returns-clause-slot c = before_slot
