use Rattle.std.proofs.Common.{◌∙◌}
use Rattle.series_store.proofs.AskLemmas.{own_store, as_many}
use Rattle.series_store.proofs.store.Store.len.Goals as goal

pub returns-clause-books : goal.returns-clause-books
returns-clause-books g c = λ total book fit told stands.
    let own = own_store (g.P.Pages.view c.args.self.now.space.pages).size total
    (g.P.Pages.view c.args.self.now.space.pages).image book c.args.self.now.space.superblock c.args.self.now.space.rules
    c.args.self.now.small (c.args.self.now.space.spelled fit told) stands in
    c.len.ensures.count ∙ as_many (g.P.Pages.view c.args.self.now.space.pages).image c.args.self.now.space.superblock book
    c.args.self.now.catalog.series.items own.0 c.args.self.now.count
