use Rattle.host_lines.specs.declared.asked.HostLine.TheVariants.{List as ListLine, Values, Sum, Sweep}
use Rattle.host_lines.proofs.SpellLemmas.{list_back, spelt_by, sum_back, sweep_back, values_back}
use Rattle.host_lines.proofs.laws.lines_spell_host_lines.Goals as goal

pub returns-clause-list : goal.returns-clause-list
returns-clause-list c = λ line. (spelt_by line ListLine, list_back line)

pub returns-clause-values : goal.returns-clause-values
returns-clause-values c = λ line name t0 t1. (spelt_by line (Values name t0 t1), values_back line name t0 t1)

pub returns-clause-sum : goal.returns-clause-sum
returns-clause-sum c = λ line n request. (spelt_by line (Sum n request), sum_back line n request)

pub returns-clause-sweep : goal.returns-clause-sweep
returns-clause-sweep c = λ line rule. (spelt_by line (Sweep rule), sweep_back line rule)
