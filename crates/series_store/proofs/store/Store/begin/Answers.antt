use Rattle.std.proofs.Math.Path.{fun_ext}
use Rattle.series_store.specs.Shown as shown
use Rattle.series_store.proofs.store.Store.begin.Goals as goal

pub invariant_of-self : goal.invariant_of-self
invariant_of-self g c = record {
  small = rw c.begin.ensures.same c.args.self.now.small;
  count = rw c.begin.ensures.same c.args.self.now.count;
  fits = rw c.begin.ensures.same c.args.self.now.fits;
  told = rw c.begin.ensures.same c.args.self.now.told;
  whole = rw c.begin.ensures.same c.args.self.now.whole;
  few = c.args.self.now.few;
  root = rw c.begin.ensures.same c.args.self.now.root;
  proper = c.args.self.now.proper;
  trail_is = rw c.begin.ensures.same c.args.self.now.trail_is;
}

-- the transaction leaves each page, so the pages
pub returns-clause-left : goal.returns-clause-left
returns-clause-left g c = rw (
  shown.IsTold,
  shown.image,
  shown.view,
  shown.under,
  shown.numbers,
  shown.pages,
  c.begin.ensures.same,
) (λ told. fun_ext (c.in_ok-begin.ensures.left c.requires.sound told))
