use Rattle.derived_chart.proofs.SlotLemmas.{none_at}
use Rattle.derived_chart.proofs.searches.no_slots.Goals as goal

pub returns-clause-empty : goal.returns-clause-empty
returns-clause-empty c = λ i. none_at 128 i
