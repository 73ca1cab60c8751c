use Rattle.std.proofs.Common.{arith}
use Rattle.tree_walk.specs.SpaceViews.{space_view}
use Rattle.tree_walk.proofs.TrailLemmas.{any_trail}
use Rattle.series_store.proofs.store.Store.select_none.Goals as goal

pub invariant_of-self : goal.invariant_of-self
invariant_of-self g c = record {
  small = c.args.self.now.small;
  count = c.args.self.now.count;
  fits = c.args.self.now.fits;
  told = c.args.self.now.told;
  whole = c.args.self.now.whole;
  few = omega arith;
  root = omega (arith, c.args.self.now.space.rules.total_low);
  proper = tt;
  trail_is = any_trail (g.P.Pages.told c.args.self.now.space.pages)
      (space_view c.args.self.now.space.superblock (g.P.Pages.view c.args.self.now.space.pages)) _ c.forget.new.self c.forget.ensures.fits;
}
