use Rattle.value_filter.proofs.Texts.{one_filter, one_offset, leaves-no_filter}
use Rattle.value_filter.proofs.laws.a_text_is_read_in_one_way.Goals as goal

pub returns-clause-filter : goal.returns-clause-filter
returns-clause-filter c = one_filter

pub returns-clause-leaves : goal.returns-clause-leaves
returns-clause-leaves c = one_offset

pub returns-clause-either : goal.returns-clause-either
returns-clause-either c = λ text f at is leaves. leaves-no_filter text at f leaves is
