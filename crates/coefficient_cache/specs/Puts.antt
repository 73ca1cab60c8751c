-- Pairs in the order in which they were put into a list, and which of them are held.
use Rattle.std.specs.Prelude.{ℕ, ◌≡◌, ◌+◌, ◌-◌, ◌<◌, ◌≤◌, Bool, true, false, List, [], ◌∷◌, length, map, take, drop, get_or, Option, None}
use Rattle.std.specs.Prelude.{Some}
use Rattle.std.specs.Option.{option_map_or}
use Rattle.std.specs.Map.{lookup, lookup_entry, remove_entry}
use Rattle.om3_coeff.specs.declared.coef.Coef.{Coef}
use Rattle.coefficient_cache.specs.declared.series_key.SeriesKey.{SeriesKey}
use Rattle.om3_coeff.specs.declared.key.Key.{Key}
use Rattle.coefficient_cache.specs.Pairs.{series_key, key_eq}
use Rattle.coefficient_cache.specs.Caches.{IsCapacity}

-- those that are held
abbrev pub shown : List (Option (SeriesKey × Coef)) → List (SeriesKey × Coef)
shown [] = []
shown (None ∷ puts) = shown puts
shown (Some e ∷ puts) = e ∷ shown puts

-- where the pair of each key stands, by the number of the key and the place of the number
abbrev pub located : List ℕ → List (SeriesKey × ℕ) → List (SeriesKey × ℕ)
located places numbers = map (λ e. (e.0, get_or places e.1 0)) numbers

-- each place tells the number of its pair, and the number of each key tells where its pair is
pub record AreFound (puts : List (Option (SeriesKey × Coef))) (owners places : List ℕ) (numbers : List (SeriesKey × ℕ)) : Type 0 where
  pub found : (k : SeriesKey) (i : ℕ) → lookup (key_eq k) (located places numbers) ≡ Some i
      → (v : Coef) × (get_or puts i None ≡ Some (k, v))
  pub placed : (i : ℕ) (k : SeriesKey) (v : Coef) → get_or puts i None ≡ Some (k, v) → lookup (key_eq k) (located places numbers) ≡ Some i
  pub owned : (i : ℕ) (k : SeriesKey) (v : Coef) → get_or puts i None ≡ Some (k, v) → lookup (key_eq k) numbers ≡ Some (get_or owners i 0)
  pub known : (k : SeriesKey) (n : ℕ) → lookup (key_eq k) numbers ≡ Some n → n < length places
  pub long : length owners ≡ length puts

-- the number of this key tells where its pair is
pub record IsTold (puts : List (Option (SeriesKey × Coef))) (places : List ℕ) (numbers : List (SeriesKey × ℕ))
    (key : SeriesKey) : Type 0 where
  pub within : (n : ℕ) → lookup (key_eq key) numbers ≡ Some n → n < length places
  pub held : (n : ℕ) → lookup (key_eq key) numbers ≡ Some n → (v : Coef) × (get_or puts (get_or places n 0) None ≡ Some (key, v))

-- the places tell of each key that is held where its pair is; before the start none is held
pub record AreKept (puts : List (Option (SeriesKey × Coef))) (places : List (SeriesKey × ℕ)) (start capacity : ℕ) : Type 0 where
  pub found : (k : SeriesKey) (i : ℕ) → lookup (key_eq k) places ≡ Some i → (v : Coef) × (get_or puts i None ≡ Some (k, v))
  pub placed : (i : ℕ) (k : SeriesKey) (v : Coef) → get_or puts i None ≡ Some (k, v) → lookup (key_eq k) places ≡ Some i
  pub before : (i : ℕ) → i < start → get_or puts i None ≡ None
  pub begun : start ≤ length puts
  pub counted : length (shown puts) ≡ length places
  pub within : length (shown puts) ≤ capacity
  pub limit : IsCapacity capacity

-- a list as it is stored
pub record AreStored (puts : List (Option (SeriesKey × Coef))) (owners places : List ℕ) (numbers : List (SeriesKey × ℕ))
    (start capacity : ℕ) : Type 0 where
  pub found : AreFound puts owners places numbers
  pub kept : AreKept puts (located places numbers) start capacity
  pub counted : length (shown puts) ≡ length numbers

-- the first pair that is held stands at this place, and is of this key
pub record IsFirstHeld (puts : List (Option (SeriesKey × Coef))) (i : ℕ) (k : SeriesKey) : Type 0 where
  pub coef : Coef
  pub is : get_or puts i None ≡ Some (k, coef)
  pub before : (j : ℕ) → j < i → get_or puts j None ≡ None

-- a list of at most n pairs after a put: a key that is there comes to the front with its new value,
-- and a new one pushes the last pair out of a full list
abbrev pub put_entries : {K V : Type 0} → (K → K → Bool) → List (K × V) → ℕ → K → V → List (K × V)
put_entries eq es n k v = option_map_or (λ e. (e.0, v) ∷ remove_entry (eq k) es) (lookup_entry (eq k) es) ((k, v) ∷ take (n - 1) es)

-- the same places hold pairs, of the same keys
abbrev pub AreAlike : List (Option (SeriesKey × Coef)) → List (Option (SeriesKey × Coef)) → Type 0
AreAlike [] [] = Unit {0}
AreAlike [] (q ∷ qs) = ⊥
AreAlike (p ∷ ps) [] = ⊥
AreAlike (None ∷ ps) (None ∷ qs) = AreAlike ps qs
AreAlike (None ∷ ps) (Some f ∷ qs) = ⊥
AreAlike (Some e ∷ ps) (None ∷ qs) = ⊥
AreAlike (Some e ∷ ps) (Some f ∷ qs) = (e.0 ≡ f.0) × AreAlike ps qs

-- needed pairs of a series as they are put
abbrev pub put_in : ℕ → List (Key × Coef) → List (Option (SeriesKey × Coef))
put_in series needed = map (λ e. Some (series_key series e.0, e.1)) needed

-- the last pairs are of the needed keys, in order
pub record HasKeys (puts : List (Option (SeriesKey × Coef))) (series : ℕ) (needed : List (Key × Coef)) : Type 0 where
  pub fits : length needed ≤ length puts
  pub alike : AreAlike (drop (length puts - length needed) puts) (put_in series needed)

-- the needed pairs whose flag isn't set, in order
abbrev pub held_of : List (Key × Coef) → List Bool → List (Key × Coef)
held_of [] flags = []
held_of (e ∷ es) [] = []
held_of (e ∷ es) (true ∷ flags) = held_of es flags
held_of (e ∷ es) (false ∷ flags) = e ∷ held_of es flags

-- of the needed keys whose flag is set none has a number
abbrev pub AreGone : List (SeriesKey × ℕ) → ℕ → List (Key × Coef) → List Bool → Type 0
AreGone numbers series [] flags = Unit {0}
AreGone numbers series (e ∷ es) [] = Unit {0}
AreGone numbers series (e ∷ es) (true ∷ flags) = (lookup (key_eq (series_key series e.0)) numbers ≡ None) × AreGone numbers series es flags
AreGone numbers series (e ∷ es) (false ∷ flags) = AreGone numbers series es flags

-- the key stands at the place, and the next one is to stand behind it, or it has no number
abbrev pub IsStep : List (Option (SeriesKey × Coef)) → List (SeriesKey × ℕ) → ℕ → SeriesKey → Bool → ℕ → Type 0
IsStep puts numbers place key true next = (next ≡ place + 1) × ((v : Coef) × (get_or puts place None ≡ Some (key, v)))
IsStep puts numbers place key false next = (next ≡ place) × (lookup (key_eq key) numbers ≡ None)

-- the needed keys whose flag isn't set are those of the places from the start to the end, in order; no other has a number
pub record IsInLine (puts : List (Option (SeriesKey × Coef))) (numbers : List (SeriesKey × ℕ)) (start series : ℕ)
    (needed : List (Key × Coef)) (flags : List Bool) : Type 0 where
  pub long : length flags ≡ length needed
  pub fits : start + length (held_of needed flags) ≡ length puts
  pub alike : AreAlike (drop start puts) (put_in series (held_of needed flags))
  pub gone : AreGone numbers series needed flags
