use Rattle.std.proofs.Common.{arith, ◌∙◌}
use Rattle.stored_book.proofs.PagesInUse.{in_use_of}
use Rattle.series_store.proofs.AskLemmas.{own_store}
use Rattle.series_store.proofs.store.Store.used.Goals as goal

pub returns-clause-within : goal.returns-clause-within
returns-clause-within g c = omega (arith, c.used.ensures.used, c.args.self.now.space.rules.fresh_high)

pub returns-clause-books : goal.returns-clause-books
returns-clause-books g c = λ total book fit told stands.
    let own = own_store (g.P.Pages.view c.args.self.now.space.pages).size total
    (g.P.Pages.view c.args.self.now.space.pages).image book c.args.self.now.space.superblock c.args.self.now.space.rules
    c.args.self.now.small (c.args.self.now.space.spelled fit told) stands in
    c.used.ensures.used ∙ in_use_of (g.P.Pages.view c.args.self.now.space.pages).image c.args.self.now.space.superblock book own.0
