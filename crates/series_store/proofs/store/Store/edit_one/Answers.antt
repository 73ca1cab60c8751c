use Rattle.std.proofs.Common.{arith}
use Rattle.tree_walk.proofs.TrailLemmas.{any_trail}
use Rattle.tree_walk.specs.SpaceViews.{space_view}
use Rattle.series_store.specs.Shown as shown
use Rattle.series_store.proofs.DoneLemmas.{begun}
use Rattle.series_store.proofs.store.Store.edit_one.Goals as goal

pub commit_one-requires-clause-staged : goal.commit_one-requires-clause-staged
commit_one-requires-clause-staged g c =
    let base = c.begin.new.self in
    begun (g.P.Pages.view base.space.pages).fit (g.P.Pages.told base.space.pages)
    (g.P.Pages.view base.space.pages).image base.space.superblock c.in_ok-txn.txn base.catalog.series.items
    (rw c.begin.ensures.space c.requires.sound)
    c.in_ok-txn.ensures.superblock c.in_ok-txn.ensures.left
    (record {
      small = base.small;
      count = base.count;
      fits = base.fits;
      are_told = λ now. base.told now.0 now.1;
      whole = λ now. base.whole now.0 now.1;
    })

pub invariant_of-self : goal.invariant_of-self
invariant_of-self g c =
    let base = c.begin.new.self in
    let new = c.commit_one.new.space in
    let stored = c.commit_one.ensures.stored in
    record {
      small = stored.small;
      count = stored.count;
      fits = stored.fits;
      told = λ fit now. stored.are_told (fit, now);
      whole = λ fit now. stored.whole (fit, now);
      few = base.few;
      root = omega (arith, base.root, c.commit_one.ensures.carried.total);
      proper = base.proper;
      trail_is = any_trail (g.P.Pages.told new.pages) (space_view new.superblock (g.P.Pages.view new.pages)) base.tree base.trail
          (rw c.begin.ensures.trail c.requires.idle.trail_is);
    }

pub returns-clause-answered : goal.returns-clause-answered
returns-clause-answered g c = rw (
  shown.ForBook,
  shown.Answers,
  shown.IsTold,
  shown.image,
  shown.view,
  shown.pages,
  ← c.begin.ensures.space,
) (λ total book told stands. c.commit_one.ensures.answered total book told stands)

pub returns-clause-none_cleared : goal.returns-clause-none_cleared
returns-clause-none_cleared g c = rw (
  shown.ForBook,
  shown.IsTold,
  shown.image,
  shown.view,
  shown.pages,
  ← c.begin.ensures.space,
) (λ total book told stands none. c.commit_one.ensures.none_cleared total book told stands none)

pub returns-clause-kept : goal.returns-clause-kept
returns-clause-kept g c = rw (
  shown.ForBook,
  shown.IsTold,
  shown.image,
  shown.view,
  shown.pages,
  ← c.begin.ensures.space,
) (λ total book told stands keeps. c.commit_one.ensures.kept total book told stands keeps)
