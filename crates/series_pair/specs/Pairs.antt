-- Two series of a catalog, of which one is asked.
use Rattle.std.specs.Prelude.{ℕ, Bool, false, true, List, slice_get, Option, None, Some}
use Rattle.series_catalog.specs.declared.stored_series.StoredSeries.{StoredSeries}

-- of two ids the one that is asked
abbrev pub side_of : Bool → ℕ → ℕ → ℕ
side_of false x y = x
side_of true x y = y

-- how many slots the series has
abbrev pub slots_of : Option StoredSeries → ℕ
slots_of None = 0
slots_of (Some one) = one.tree.slots

abbrev pub slots_at : List StoredSeries → ℕ → ℕ
slots_at catalog id = slots_of (slice_get catalog id)

-- of the one that is asked the nodes tell how many slots it has, of the other one the catalog does
abbrev pub counted : Bool → Bool → ℕ → ℕ → ℕ
counted false false asked other = asked
counted false true asked other = other
counted true false asked other = other
counted true true asked other = asked
