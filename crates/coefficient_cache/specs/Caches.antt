use Rattle.std.specs.Prelude.{ℕ, ◌≤◌, List, length}
use Rattle.std.specs.List.{IsDistinct}
use Rattle.std.specs.Map.{keys_of}
use Rattle.om3_coeff.specs.declared.coef.Coef.{Coef}
use Rattle.coefficient_cache.specs.declared.series_key.SeriesKey.{SeriesKey}
use Rattle.coefficient_cache.specs.Pairs.{key_eq}

-- a list of pairs, the most recently used first, and how many it may have
pub record Cache : Type 0 where
  pub pairs : List (SeriesKey × Coef)
  pub capacity : ℕ

-- a capacity that a list may have
abbrev pub IsCapacity : ℕ → Type 0
IsCapacity n = (1 ≤ n) × (n ≤ 131072)

-- no two pairs are of the same key, and there are no more than the capacity
pub record IsValid (c : Cache) : Type 0 where
  pub distinct : IsDistinct key_eq (keys_of c.pairs)
  pub within : length c.pairs ≤ c.capacity
