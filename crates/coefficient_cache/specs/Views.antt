-- What a view does with a list: what is sent for it, and the list after it.
use Rattle.std.specs.Prelude.{ℕ, Bool, ◌≡◌, ◌≢◌, not, ◌==◌, List, ◌++◌, Some, map, reverse, take, All, AllPairs, filter}
use Rattle.std.specs.List.{filter_map}
use Rattle.std.specs.Option.{option_map}
use Rattle.std.specs.Map.{keys_of}
use Rattle.om3_coeff.specs.declared.key.Key.{Key}
use Rattle.om3_coeff.specs.declared.coef.Coef.{Coef}
use Rattle.coefficient_cache.specs.declared.series_key.SeriesKey.{SeriesKey}
use Rattle.coefficient_cache.specs.Pairs.{series_key, in_series, coefficient_at, has, holds}

-- no two of the needed keys are the same
abbrev pub AreDistinct : List (Key × Coef) → Type 0
AreDistinct needed = AllPairs (λ e f. e.0 ≢ f.0) needed

-- The needed keys to send, in order: those that the list lacks, or holds with another coefficient.
abbrev pub to_send : List (SeriesKey × Coef) → ℕ → List (Key × Coef) → List (Key × Coef)
to_send pairs series needed = filter (λ e. not (holds pairs (series_key series e.0, e.1))) needed

-- the needed pairs whose key is in the list, in order
abbrev pub hits : List (SeriesKey × Coef) → List (SeriesKey × Coef) → List (SeriesKey × Coef)
hits pairs needed = filter (λ e. has pairs e.0) needed

-- the needed pairs whose key isn't in the list, in order
abbrev pub news : List (SeriesKey × Coef) → List (SeriesKey × Coef) → List (SeriesKey × Coef)
news pairs needed = filter (λ e. not (has pairs e.0)) needed

-- for each needed pair, whether its key isn't in the list
abbrev pub are_new : List (SeriesKey × Coef) → List (SeriesKey × Coef) → List Bool
are_new pairs needed = map (λ e. not (has pairs e.0)) needed

-- the pairs of the list whose key isn't needed, in order
abbrev pub others : List (SeriesKey × Coef) → List (SeriesKey × Coef) → List (SeriesKey × Coef)
others pairs needed = filter (λ e. not (has needed e.0)) pairs

-- The list after a view: the new keys stand in front of the hits, and those in front of the others.
-- Of new keys and of hits the one that is needed last stands first, each with its present coefficient.
-- What passes the capacity falls off the end.
abbrev pub renewed : ℕ → List (SeriesKey × Coef) → List (SeriesKey × Coef) → List (SeriesKey × Coef)
renewed capacity pairs needed = take capacity (reverse (news pairs needed) ++ reverse (hits pairs needed) ++ others pairs needed)

-- where a client looks its needed keys up: among the sent pairs first, and then in its list
abbrev pub sent_and_held : List (SeriesKey × Coef) → ℕ → List (Key × Coef) → List (SeriesKey × Coef)
sent_and_held pairs series needed = in_series series (to_send pairs series needed) ++ pairs

-- looking up each needed key gives its needed coefficient
abbrev pub Gives : List (SeriesKey × Coef) → ℕ → List (Key × Coef) → Type 0
Gives pairs series needed = All (λ e. coefficient_at pairs (series_key series e.0) ≡ Some e.1) needed

-- the keys of a series, each with the coefficient that a look-up gives; one that isn't found is left out
abbrev pub looked_up : List (SeriesKey × Coef) → ℕ → List Key → List (Key × Coef)
looked_up pairs series keys = filter_map (λ key. option_map (λ coef. (key, coef)) (coefficient_at pairs (series_key series key))) keys

-- the pairs of one series, in order
abbrev pub of_series : ℕ → List (SeriesKey × Coef) → List (SeriesKey × Coef)
of_series series pairs = filter (λ e. e.0.series == series) pairs

-- The needed pairs stand at the front of the list, the one that is needed last before the others, as a view leaves
-- them that needs them all.
pub record IsInFront (pairs : List (SeriesKey × Coef)) (series : ℕ) (needed : List (Key × Coef)) : Type 0 where
  pub rest : List (SeriesKey × Coef)
  pub is : pairs ≡ reverse (in_series series needed) ++ rest

-- Pairs of just the needed keys stood at the front of the list, the one that is needed last before the others, and now
-- have their needed coefficients.
pub record RenewsFront (old new : List (SeriesKey × Coef)) (series : ℕ) (needed : List (Key × Coef)) : Type 0 where
  pub front : List (SeriesKey × Coef)
  pub rest : List (SeriesKey × Coef)
  pub was : old ≡ reverse front ++ rest
  pub keys : keys_of front ≡ keys_of (in_series series needed)
  pub is : new ≡ reverse (in_series series needed) ++ rest
