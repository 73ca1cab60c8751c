-- What a view does with an empty list.
use Rattle.std.proofs.Common.{◌≡◌, ℕ, true, List, [], ◌∷◌, length, replicate, refl, ap}
use Rattle.std.proofs.lemmas.List.{length-map}
use Rattle.std.proofs.lemmas.Simd.{splat_is_map}
use Rattle.om3_coeff.specs.declared.key.Key.{Key}
use Rattle.om3_coeff.specs.declared.coef.Coef.{Coef}
use Rattle.coefficient_cache.specs.declared.series_key.SeriesKey.{SeriesKey}
use Rattle.coefficient_cache.specs.Pairs.{series_key, in_series}
use Rattle.coefficient_cache.specs.Views.{to_send, hits, are_new}

-- all is sent
pub all-sent : (series : ℕ) (needed : List (Key × Coef)) → to_send [] series needed ≡ needed
all-sent series [] = refl
all-sent series (e ∷ es) = ap (λ l. e ∷ l) (all-sent series es)

-- nothing is a hit
pub no-hits : (all : List (SeriesKey × Coef)) → hits [] all ≡ []
no-hits [] = refl
no-hits (e ∷ es) = no-hits es

-- all is new
pub all-new : (series : ℕ) (needed : List (Key × Coef)) → replicate (length needed) true ≡ are_new [] (in_series series needed)
all-new series needed =
    let g : Key × Coef → SeriesKey × Coef = λ e. (series_key series e.0, e.1) in
    splat_is_map (in_series series needed) (length needed) true (length-map needed g)
