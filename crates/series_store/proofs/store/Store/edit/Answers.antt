use Rattle.series_store.specs.Shown as shown
use Rattle.series_store.proofs.EditLemmas.{done_as, refused_as, moments_as}
use Rattle.series_store.proofs.store.Store.edit.Goals as goal

pub returns-clause-done : goal.returns-clause-done
returns-clause-done g c = rw (shown.IsTold, shown.image, shown.view, shown.pages, ← c.select_none.ensures.space) (λ total book told stands.
    done_as total book c.args.edit.now c.edit_one.result (g.P.Pages.view c.edit_one.new.self.space.pages).image
    (c.edit_one.ensures.answered total book told stands).done)

pub returns-clause-refused : goal.returns-clause-refused
returns-clause-refused g c = rw (
  shown.IsTold,
  shown.image,
  shown.view,
  shown.pages,
  ← c.select_none.ensures.space,
) (λ total book told stands.
    refused_as total book c.args.edit.now c.edit_one.result (c.edit_one.ensures.answered total book told stands).refused)

pub returns-clause-moments : goal.returns-clause-moments
returns-clause-moments g c = rw (
  shown.IsTold,
  shown.image,
  shown.view,
  shown.pages,
  ← c.select_none.ensures.space,
) (λ total book told stands.
    moments_as total book c.args.edit.now (g.P.Pages.view c.select_none.new.self.space.pages)
    (g.P.Pages.view c.edit_one.new.self.space.pages) (c.edit_one.ensures.answered total book told stands).moments)

pub returns-clause-idle : goal.returns-clause-idle
returns-clause-idle g c = rw (
  shown.ForBook,
  shown.IsTold,
  shown.image,
  shown.view,
  shown.pages,
  ← c.select_none.ensures.space,
) (λ total book told stands none. c.edit_one.ensures.none_cleared total book told stands none)

pub returns-clause-same_book : goal.returns-clause-same_book
returns-clause-same_book g c = rw (
  shown.ForBook,
  shown.IsTold,
  shown.image,
  shown.view,
  shown.pages,
  ← c.select_none.ensures.space,
) (λ total book told stands keeps. c.edit_one.ensures.kept total book told stands keeps)
