-- Laws of caches.
use Rattle.std.specs.Prelude.{◌≡◌, ◌≢◌, ℕ, ◌≤◌, List, [], length, take}
use Rattle.std.specs.Map.{keys_of}
use Rattle.om3_coeff.specs.declared.key.Key.{Key}
use Rattle.om3_coeff.specs.declared.coef.Coef.{Coef}
use Rattle.coefficient_cache.specs.declared.series_key.SeriesKey.{SeriesKey}
use Rattle.coefficient_cache.specs.Pairs.{in_series}
use Rattle.coefficient_cache.specs.Views.{AreDistinct, Gives, to_send, sent_and_held, looked_up, renewed, of_series}

-- What a client renews from what was sent and what it held is what the server renews.
abbrev pub BothEndsKeepOneList : Type 0
BothEndsKeepOneList =
    (capacity : ℕ) (pairs : List (SeriesKey × Coef)) (series : ℕ) (needed : List (Key × Coef))
    → AreDistinct needed
    → renewed capacity pairs (in_series series (looked_up (sent_and_held pairs series needed) series (keys_of needed))) ≡ renewed capacity
    pairs (in_series series needed)

-- A cache that has room for all needed keys gives them afterwards.
abbrev pub NeededKeysAreGiven : Type 0
NeededKeysAreGiven =
    (capacity : ℕ) (pairs : List (SeriesKey × Coef)) (series : ℕ) (needed : List (Key × Coef))
    → AreDistinct needed → length needed ≤ capacity → Gives (renewed capacity pairs (in_series series needed)) series needed

-- So of the same keys nothing is left to send.
abbrev pub HeldKeysAreNotSent : Type 0
HeldKeysAreNotSent =
    (capacity : ℕ) (pairs : List (SeriesKey × Coef)) (series : ℕ) (needed : List (Key × Coef))
    → AreDistinct needed → length needed ≤ capacity → to_send (renewed capacity pairs (in_series series needed)) series needed ≡ []

-- Another series loses none but its last pairs.
abbrev pub OtherSeriesLoseTheLast : Type 0
OtherSeriesLoseTheLast =
    (capacity : ℕ) (pairs : List (SeriesKey × Coef)) (series other : ℕ) (needed : List (Key × Coef))
    → other ≢ series → (n : ℕ) × (of_series other (renewed capacity pairs (in_series series needed)) ≡ take n (of_series other pairs))
