use Rattle.chart_service.proofs.KindLemmas.{line_may}
use Rattle.chart_service.proofs.laws.replies_may_answer.Goals as goal

pub returns : goal.returns
returns c = line_may
