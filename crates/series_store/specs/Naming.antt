-- What a store tells of a series by its id.
use Rattle.std.specs.Prelude.{ℕ, ◌≡◌, List, Some, slice_get}
use Rattle.series_book.specs.Axes.{IsAxisOf}
use Rattle.series_book.specs.declared.one_series.Series.{Series}
use Rattle.series_catalog.specs.declared.stored_series.StoredSeries.{StoredSeries}
use Rattle.series_store.specs.declared.named_series.NamedSeries.{NamedSeries}

-- what is told of a series of a catalog is so
pub record IsStoredSeries (one : StoredSeries) (told : NamedSeries) : Type 0 where
  pub name : told.name.now ≡ one.name
  pub start : told.axis.start ≡ one.start
  pub step : told.axis.step ≡ one.step
  pub slots : told.axis.slots ≡ one.tree.slots
  pub scale : told.scale ≡ one.scale

-- the book has a series of this id, and what is told of it is so
pub record IsNamedSeries (book : List Series) (id : ℕ) (told : NamedSeries) : Type 0 where
  pub series : Series
  pub there : slice_get book id ≡ Some series
  pub name : told.name.now ≡ series.name
  pub axis : IsAxisOf series told.axis
  pub scale : told.scale ≡ series.scale
