use Rattle.om3_coeff.proofs.KeyLemmas.{first_above, end_above, slot_first, slot_end}
use Rattle.om3_coeff.proofs.laws.ranges_hold_those_below.Goals as goal

pub returns-clause-first : goal.returns-clause-first
returns-clause-first c = first_above

pub returns-clause-end : goal.returns-clause-end
returns-clause-end c = end_above

pub returns-clause-slot : goal.returns-clause-slot
returns-clause-slot c = slot_first

pub returns-clause-one : goal.returns-clause-one
returns-clause-one c = slot_end
