use Rattle.std.proofs.Common.{refl}
use Rattle.tree_walk.specs.SpaceViews.{space_view}
use Rattle.tree_walk.proofs.TrailLemmas.{any_trail}
use Rattle.series_store.proofs.AskLemmas.{own_store, agrees, tree_fits}
use Rattle.series_store.proofs.store.Store.select.Goals as goal

pub invariant_of-self : goal.invariant_of-self
invariant_of-self g c =
    let one = c.series.result.now in
    let is = c.args.self.now.fits c.args.id one c.series.ensures in
    record {
      small = c.args.self.now.small;
      count = c.args.self.now.count;
      fits = c.args.self.now.fits;
      told = c.args.self.now.told;
      whole = c.args.self.now.whole;
      few = is.slots;
      root = tree_fits (g.P.Pages.view c.args.self.now.space.pages).size c.args.self.now.space.superblock
          c.args.self.now.catalog.series.items c.args.id one c.args.self.now.space.rules c.args.self.now.fits c.series.ensures;
      proper = is.span;
      trail_is = any_trail (g.P.Pages.told c.args.self.now.space.pages)
          (space_view c.args.self.now.space.superblock (g.P.Pages.view c.args.self.now.space.pages)) one.tree c.forget.new.self
          c.forget.ensures.fits;
    }

pub returns-clause-agrees : goal.returns-clause-agrees
returns-clause-agrees g c = λ total book series fit told stands there.
    let own = own_store (g.P.Pages.view c.args.self.now.space.pages).size total
    (g.P.Pages.view c.args.self.now.space.pages).image book c.args.self.now.space.superblock c.args.self.now.space.rules
    c.args.self.now.small (c.args.self.now.space.spelled fit told) stands in
    agrees (g.P.Pages.told c.args.self.now.space.pages) (g.P.Pages.view c.args.self.now.space.pages)
    (g.P.Pages.under c.args.self.now.space.pages) c.args.self.now.space.superblock book c.args.self.now.catalog.series.items c.args.id
    c.series.result.now series c.series.result.now.tree c.forget.new.self told own.0
    (c.args.self.now.told fit told) c.series.ensures there refl
