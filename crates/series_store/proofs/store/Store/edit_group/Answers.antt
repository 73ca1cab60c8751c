use Rattle.std.proofs.Common.{refl}
use Rattle.series_store.specs.Shown as shown
use Rattle.series_store.proofs.store.Store.edit_group.Goals as goal

pub returns-clause-done : goal.returns-clause-done
returns-clause-done g c = rw (
  shown.ForBook,
  shown.IsTold,
  shown.image,
  shown.view,
  shown.pages,
  ← c.select_none.ensures.space,
) (λ total book told stands. (c.edit_some.ensures.answered total book told stands).done)

pub returns-clause-many : goal.returns-clause-many
returns-clause-many g c = rw (
  shown.ForBook,
  shown.IsTold,
  shown.image,
  shown.view,
  shown.pages,
  ← c.select_none.ensures.space,
) (λ total book told stands. (c.edit_some.ensures.answered total book told stands).many refl)

pub returns-clause-outside : goal.returns-clause-outside
returns-clause-outside g c = rw (
  shown.ForBook,
  shown.IsTold,
  shown.image,
  shown.view,
  shown.pages,
  ← c.select_none.ensures.space,
) (λ total book told stands. (c.edit_some.ensures.answered total book told stands).outside)

pub returns-clause-moments : goal.returns-clause-moments
returns-clause-moments g c = rw (
  shown.ForBook,
  shown.PassesNoneOrAll,
  shown.IsTold,
  shown.image,
  shown.view,
  shown.pages,
  ← c.select_none.ensures.space,
) (λ total book told stands. (c.edit_some.ensures.answered total book told stands).moments)

pub returns-clause-whole : goal.returns-clause-whole
returns-clause-whole g c = rw (
  shown.ForBook,
  shown.IsTold,
  shown.image,
  shown.view,
  shown.pages,
  ← c.select_none.ensures.space,
) (λ total book told stands. (c.edit_some.ensures.answered total book told stands).whole)

pub returns-clause-reads : goal.returns-clause-reads
returns-clause-reads g c = rw (
  shown.ForBook,
  shown.IsTold,
  shown.image,
  shown.view,
  shown.pages,
  ← c.select_none.ensures.space,
) (λ total book told stands. (c.edit_some.ensures.answered total book told stands).reads)

pub returns-clause-few_reads : goal.returns-clause-few_reads
returns-clause-few_reads g c = rw (
  shown.ForBook,
  shown.IsTold,
  shown.image,
  shown.view,
  shown.pages,
  ← c.select_none.ensures.space,
) (λ total book told stands. (c.edit_some.ensures.answered total book told stands).few_reads)

pub returns-clause-idle : goal.returns-clause-idle
returns-clause-idle g c = rw (
  shown.ForBook,
  shown.IsTold,
  shown.image,
  shown.view,
  shown.pages,
  ← c.select_none.ensures.space,
) (λ total book told stands. (c.edit_some.ensures.answered total book told stands).idle)
