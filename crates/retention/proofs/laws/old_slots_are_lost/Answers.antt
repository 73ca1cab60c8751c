use Rattle.retention.proofs.LawLemmas.{last_is_before, loses_before, loses_last}
use Rattle.retention.proofs.laws.old_slots_are_lost.Goals as goal

pub returns-clause-before : goal.returns-clause-before
returns-clause-before c = λ time total book name id series is at there. loses_before total book name time id series is at there

pub returns-clause-last : goal.returns-clause-last
returns-clause-last c = λ count total book name id series is at there. loses_last total book name count id series is at there

pub returns-clause-same : goal.returns-clause-same
returns-clause-same c = λ count total book name id series is at there. last_is_before total book name count id series is at there
