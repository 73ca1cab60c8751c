-- What a catalog shows, and how much of a space reading one takes.
use Rattle.std.specs.Prelude.{ℕ, List}
use Rattle.gate_pages.specs.declared.pages.Pages.{Ghosts}
use Rattle.page_space.specs.Shown.{view, IsTold}
use Rattle.page_space.specs.declared.space.Space.{Space}
use Rattle.path_repair.specs.Standing.{ReadsMost}
use Rattle.series_catalog.specs.declared.catalog.Catalog.{Catalog}
use Rattle.series_catalog.specs.declared.stored_series.StoredSeries.{StoredSeries}

-- the series of a catalog, in the order of their ids
abbrev pub series_in : Catalog → List StoredSeries
series_in it = it.series.items

-- at most so many blocks are read of a space, and nothing else changes
abbrev pub ReadsUpTo : {P : Type 0} {g : Ghosts P} → ℕ → Space P g → Space P g → Type 0
ReadsUpTo most old new = ReadsMost most (IsTold old) (IsTold new) (view old) (view new)
