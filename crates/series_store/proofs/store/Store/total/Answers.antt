use Rattle.std.proofs.Common.{◌∙◌}
use Rattle.series_store.proofs.AskLemmas.{own_store}
use Rattle.series_store.proofs.store.Store.total.Goals as goal

pub returns-clause-books : goal.returns-clause-books
returns-clause-books g c = λ total book fit told stands.
    c.total.ensures.total ∙ (own_store (g.P.Pages.view c.args.self.now.space.pages).size total
    (g.P.Pages.view c.args.self.now.space.pages).image book c.args.self.now.space.superblock c.args.self.now.space.rules
    c.args.self.now.small (c.args.self.now.space.spelled fit told) stands).1
