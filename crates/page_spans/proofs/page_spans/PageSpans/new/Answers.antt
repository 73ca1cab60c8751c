use Rattle.page_spans.specs.Heaps.{span_at}
use Rattle.page_spans.proofs.PageKeys.{leaves_of_nothing}
use Rattle.page_spans.proofs.page_spans.PageSpans.new.Goals as goal

pub returns-clause-leaves : goal.returns-clause-leaves
returns-clause-leaves c = λ list level index low none. leaves_of_nothing list level index
    (span_at c.no_spans.result) c.no_spans.ensures low none
