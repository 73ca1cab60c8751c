-- Pairs of a key of a series and its coefficient, and what a list of them holds.
use Rattle.std.specs.Prelude.{ℕ, Bool, false, ◌&&◌, nat_eq, List, Option, map, is_some}
use Rattle.std.specs.Bool.{beq}
use Rattle.std.specs.Ordering.{int_eq}
use Rattle.std.specs.Option.{option_map_or}
use Rattle.std.specs.Map.{lookup}
use Rattle.om3_coeff.specs.declared.key.Key.{Key}
use Rattle.om3_coeff.specs.declared.coef.Coef.{Coef}
use Rattle.coefficient_cache.specs.declared.series_key.SeriesKey.{SeriesKey}

-- the key of a series
abbrev pub series_key : ℕ → Key → SeriesKey
series_key series key = record { series = series; level = key.level; index = key.index }

-- the two keys are the same
abbrev pub key_eq : SeriesKey → SeriesKey → Bool
key_eq a b = nat_eq a.series b.series && (nat_eq a.level b.level && nat_eq a.index b.index)

-- the two coefficients are the same
abbrev pub coefficient_eq : Coef → Coef → Bool
coefficient_eq a b = beq a.left b.left && (beq a.right b.right && (int_eq a.dmin b.dmin && int_eq a.dmax b.dmax))

-- needed keys of one series, each with its present coefficient, as pairs of a list
abbrev pub in_series : ℕ → List (Key × Coef) → List (SeriesKey × Coef)
in_series series needed = map (λ e. (series_key series e.0, e.1)) needed

-- the coefficient that the list holds for a key, if it has the key
abbrev pub coefficient_at : List (SeriesKey × Coef) → SeriesKey → Option Coef
coefficient_at pairs key = lookup (key_eq key) pairs

-- the list has the key, with whatever coefficient
abbrev pub has : List (SeriesKey × Coef) → SeriesKey → Bool
has pairs key = is_some (coefficient_at pairs key)

-- the list holds the key with this very coefficient
abbrev pub holds : List (SeriesKey × Coef) → SeriesKey × Coef → Bool
holds pairs e = option_map_or (coefficient_eq e.1) (coefficient_at pairs e.0) false
