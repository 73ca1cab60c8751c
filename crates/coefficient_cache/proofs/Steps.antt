-- One turn of each of the two walks over the needed keys.
use Rattle.std.proofs.Common.{◌≡◌, ℕ, ◌+◌, ◌<◌, Bool, true, false, cond, not, List, [], ◌∷◌, ◌++◌, length, map, take, get_or, refl, sym, ap}
use Rattle.std.proofs.Common.{◌∙◌, subst, reverse, append_assoc, if◌then◌else◌}
use Rattle.std.specs.List.{IsDistinct, filter}
use Rattle.std.specs.Map.{keys_of}
use Rattle.std.proofs.lemmas.List.{map-append, length-map, get_or-map}
use Rattle.coefficient_cache.specs.Puts.{put_entries}
use Rattle.coefficient_cache.specs.Caches.{Cache}
use Rattle.om3_coeff.specs.declared.key.Key.{Key}
use Rattle.om3_coeff.specs.declared.coef.Coef.{Coef}
use Rattle.coefficient_cache.specs.declared.series_key.SeriesKey.{SeriesKey}
use Rattle.coefficient_cache.specs.Pairs.{series_key, key_eq, in_series, has}
use Rattle.coefficient_cache.specs.Views.{AreDistinct, are_new, hits, news, others, renewed}
use Rattle.coefficient_cache.proofs.Keys.{key_laws, key_exact, in_series-more, is_fresh}
use Rattle.coefficient_cache.proofs.Moves.{moved, topped, move-hit, move-miss, has-moved, put-new, put-none, topped-new}

not_turned : (a b : Bool) → not a ≡ b → a ≡ not b
not_turned true b h = ap not h
not_turned false b h = ap not h

-- a list with its hits in front
abbrev pub moved_keys : List (SeriesKey × Coef) → List (SeriesKey × Coef) → List (SeriesKey × Coef)
moved_keys = moved key_laws key_exact

-- a list with its new keys in front
abbrev pub topped_keys : ℕ → List (SeriesKey × Coef) → List (SeriesKey × Coef) → List (SeriesKey × Coef)
topped_keys = topped key_laws key_exact

-- a list whose hits moved has the same new keys, and with those in front it is the list after the view
pub are_new-moved : (pairs all : List (SeriesKey × Coef)) → are_new (moved_keys pairs all) all ≡ are_new pairs all
are_new-moved pairs all = λ i. map (λ e. not (has-moved key_laws key_exact pairs all e.0 i)) all

pub topped-moved : (n : ℕ) (pairs all : List (SeriesKey × Coef)) → topped_keys n (moved_keys pairs all) all ≡ renewed n pairs all
topped-moved n pairs all =
    (λ i. take n (reverse (filter (λ e. not (has-moved key_laws key_exact pairs all e.0 i)) all) ++ moved_keys pairs all))
    ∙ ap (take n) (sym (append_assoc (reverse (news pairs all)) (reverse (hits pairs all)) (others pairs all)))

module _ (series : ℕ) (needed : List (Key × Coef)) (i : ℕ) (d : Key
    × Coef) (distinct : AreDistinct needed) (in_range : i < length needed) where
  abbrev key : SeriesKey
  key = series_key series (get_or needed i d).0

  abbrev coef : Coef
  coef = (get_or needed i d).1

  abbrev before : List (SeriesKey × Coef)
  before = in_series series (take i needed)

  abbrev after : List (SeriesKey × Coef)
  after = in_series series (take (i + 1) needed)

  more : after ≡ before ++ (key, coef) ∷ []
  more = in_series-more series needed i d in_range

  fresh : has before key ≡ false
  fresh = is_fresh series needed i d distinct in_range

  hit_or_miss : (pairs : List (SeriesKey × Coef)) (n : ℕ) (b : Bool) → IsDistinct key_eq (keys_of pairs) → has pairs key ≡ b
      → cond b (put_entries key_eq (moved_keys pairs before) n key coef) (moved_keys pairs before) ≡ moved_keys pairs
      (before ++ (key, coef) ∷ [])
  hit_or_miss pairs n true apart h = move-hit key_laws key_exact pairs before key coef n apart fresh h
  hit_or_miss pairs n false apart h = move-miss key_laws key_exact pairs before key coef h

  -- a needed key that is in the list comes to its front, and nothing moves for another
  pub hits-step : (pairs : List (SeriesKey × Coef)) (old : Cache) (k : SeriesKey) (new : List (SeriesKey × Coef))
      → IsDistinct key_eq (keys_of pairs) → old.pairs ≡ moved_keys pairs before → k ≡ key
      → new ≡ (if has old.pairs k then put_entries key_eq old.pairs old.capacity k coef else old.pairs) → new ≡ moved_keys pairs after
  hits-step pairs old k new apart was is then_ =
      then_
      ∙ (λ j. if has (was j) (is j) then put_entries key_eq (was j) old.capacity (is j) coef else was j)
      ∙ ap (λ b. cond b (put_entries key_eq (moved_keys pairs before) old.capacity key coef) (moved_keys pairs before))
      (has-moved key_laws key_exact pairs before key)
      ∙ hit_or_miss pairs old.capacity (has pairs key) apart refl
      ∙ ap (moved_keys pairs) (sym more)

  -- it is told whether it is new
  pub flags-step : (pairs : List (SeriesKey × Coef)) (old : Cache) (k : SeriesKey) (there : Bool) (flags : List Bool)
      → old.pairs ≡ moved_keys pairs before → k ≡ key → there ≡ has old.pairs k → flags ≡ are_new pairs before
      → flags ++ not there ∷ [] ≡ are_new pairs after
  flags-step pairs old k there flags was is tells so_far =
      (λ j. so_far j ++ not ((tells ∙ (λ m. has (was m) (is m)) ∙ has-moved key_laws key_exact pairs before key) j) ∷ [])
      ∙ sym (map-append (λ e. not (has pairs e.0)) before ((key, coef) ∷ []))
      ∙ ap (are_new pairs) (sym more)

  -- the flag at i tells whether the key is new
  pub flag-at : (base : List (SeriesKey × Coef)) (flags : List Bool) (b e : Bool) → flags ≡ are_new base (in_series series needed)
      → get_or flags i e ≡ b → has base key ≡ not b
  flag-at base flags b e are at =
      let g : Key × Coef → SeriesKey × Coef = λ p. (series_key series p.0, p.1) in
      let f : SeriesKey × Coef → Bool = λ p. not (has base p.0) in
      let long : i < length (map g needed) = subst (λ n. i < n) (sym (length-map needed g)) in_range in
      let told : get_or flags i e ≡ not (has base key) =
      ap (λ l. get_or l i e) are ∙ get_or-map f (map g needed) i (g d) e long ∙ ap f (get_or-map g needed i d (g d) in_range) in
      not_turned (has base key) b (sym told ∙ at)

  -- a new key isn't in front so far
  pub new-there : (base : List (SeriesKey × Coef)) (old : Cache) (n : ℕ) (k : SeriesKey) → has base key ≡ false
      → old.pairs ≡ topped_keys n base before → k ≡ key → has old.pairs k ≡ false
  new-there base old n k out was is = (λ j. has (was j) (is j)) ∙ topped-new key_laws key_exact n base before key fresh out

  -- a new key is put in front
  pub new-step : (base : List (SeriesKey × Coef)) (old : Cache) (n : ℕ) (k : SeriesKey) (new : List (SeriesKey × Coef)) → 0 < n
      → has base key ≡ false → old.pairs ≡ topped_keys n base before → old.capacity ≡ n → k ≡ key
      → new ≡ put_entries key_eq old.pairs old.capacity k coef → new ≡ topped_keys n base after
  new-step base old n k new some out was size is put =
      put
      ∙ (λ j. put_entries key_eq (was j) (size j) (is j) coef)
      ∙ put-new key_laws key_exact base before key coef n some fresh out
      ∙ ap (topped_keys n base) (sym more)

  -- a key that isn't new is passed over
  pub old-step : (base : List (SeriesKey × Coef)) (old : List (SeriesKey × Coef)) (n : ℕ) → has base key ≡ true
      → old ≡ topped_keys n base before → old ≡ topped_keys n base after
  old-step base old n there was = was ∙ put-none key_laws key_exact base before key coef n there ∙ ap (topped_keys n base) (sym more)
