use Rattle.page_spans.proofs.Steps.{none_at}
use Rattle.page_spans.proofs.page_spans.no_spans.Goals as goal

pub returns : goal.returns
returns c = λ n. none_at 255 n
