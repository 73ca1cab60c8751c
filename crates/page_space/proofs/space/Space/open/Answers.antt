-- Where page 0 keeps its layout, it is not why the pages weren't opened.
use Rattle.page_space.proofs.Reading.{a_store}
use Rattle.page_space.proofs.space.Space.open.Goals as goal

pub returns-in-Err-clause-a_store : goal.returns-in-Err-clause-a_store
returns-in-Err-clause-a_store g c = λ is s keeps. a_store c.in-Err.cause (g.P.Pages.told c.args.pages) (g.P.Pages.view c.args.pages)
    (g.P.Pages.view c.read_first.new.pages) s is keeps c.in-Err.ensures.cause
