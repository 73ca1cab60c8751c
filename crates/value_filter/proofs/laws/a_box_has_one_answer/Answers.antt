use Rattle.value_filter.proofs.OneAnswer.{one_answer}
use Rattle.value_filter.proofs.laws.a_box_has_one_answer.Goals as goal

pub returns : goal.returns
returns c = one_answer
