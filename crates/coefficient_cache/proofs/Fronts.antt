-- A list whose first pairs are of the needed keys: it gets their coefficients in place.
use Rattle.std.proofs.Common.{◌≡◌, ℕ, zero, suc, ◌+◌, ◌-◌, ◌<◌, ◌≤◌, Bool, false, not, ◌||◌, List, [], ◌∷◌, ◌++◌, length, take, drop, set}
use Rattle.std.proofs.Common.{get_or, reverse, Some, None, Option, refl, sym, ap, ap₂, ◌∙◌, subst, arith, append_assoc, append-nil}
use Rattle.std.proofs.Common.{drop_of_length-le, length-append, length-take, length-drop, take-append-drop, take_all}
use Rattle.std.specs.List.{filter, IsDistinct}
use Rattle.std.specs.Map.{keys_of}
use Rattle.std.proofs.Math.Seq.{set-append_seam}
use Rattle.std.proofs.lemmas.Option.{none-some}
use Rattle.std.proofs.lemmas.List.{reverse-append, length-map, map-append, map_more, drop_more, take_more, get_or-drop}
use Rattle.om3_coeff.specs.declared.key.Key.{Key}
use Rattle.om3_coeff.specs.declared.coef.Coef.{Coef}
use Rattle.coefficient_cache.specs.declared.series_key.SeriesKey.{SeriesKey}
use Rattle.coefficient_cache.specs.Pairs.{series_key, key_eq, in_series, has}
use Rattle.coefficient_cache.specs.Views.{hits, news, others, renewed, RenewsFront}
use Rattle.coefficient_cache.specs.Puts.{shown, AreKept, AreAlike, HasKeys, put_in}
use Rattle.coefficient_cache.proofs.Finds.{has-cons}
use Rattle.coefficient_cache.proofs.Unmoved.{all-hits, no-news, rest-others}
use Rattle.coefficient_cache.proofs.Kept.{with_coef, some_pair, key_in, held-within, shown-append, turned-keys}

pub alike-turned : (ps qs : List (Option (SeriesKey × Coef))) → AreAlike ps qs → AreAlike qs ps
alike-turned [] [] h = tt
alike-turned [] (q ∷ qs) h = absurd h
alike-turned (p ∷ ps) [] h = absurd h
alike-turned (None ∷ ps) (None ∷ qs) h = alike-turned ps qs h
alike-turned (None ∷ ps) (Some f ∷ qs) h = absurd h
alike-turned (Some e ∷ ps) (None ∷ qs) h = absurd h
alike-turned (Some e ∷ ps) (Some f ∷ qs) h = (sym h.0, alike-turned ps qs h.1)

pub alike-behind : (xs ps qs : List (Option (SeriesKey × Coef))) → AreAlike ps qs → AreAlike (xs ++ ps) (xs ++ qs)
alike-behind [] ps qs h = h
alike-behind (None ∷ xs) ps qs h = alike-behind xs ps qs h
alike-behind (Some e ∷ xs) ps qs h = (refl, alike-behind xs ps qs h)

-- one more pair of the same key
pub alike-more : (ps qs : List (Option (SeriesKey × Coef))) (k : SeriesKey) (v w : Coef) → AreAlike ps qs
    → AreAlike (ps ++ Some (with_coef k v) ∷ []) (qs ++ Some (with_coef k w) ∷ [])
alike-more [] [] k v w h = (refl, tt)
alike-more [] (q ∷ qs) k v w h = absurd h
alike-more (p ∷ ps) [] k v w h = absurd h
alike-more (None ∷ ps) (None ∷ qs) k v w h = alike-more ps qs k v w h
alike-more (None ∷ ps) (Some f ∷ qs) k v w h = absurd h
alike-more (Some e ∷ ps) (None ∷ qs) k v w h = absurd h
alike-more (Some e ∷ ps) (Some f ∷ qs) k v w h = (h.0, alike-more ps qs k v w h.1)

pub alike-length : (ps qs : List (Option (SeriesKey × Coef))) → AreAlike ps qs → length qs ≡ length ps
alike-length [] [] h = refl
alike-length [] (q ∷ qs) h = absurd h
alike-length (p ∷ ps) [] h = absurd h
alike-length (None ∷ ps) (None ∷ qs) h = ap suc (alike-length ps qs h)
alike-length (None ∷ ps) (Some f ∷ qs) h = absurd h
alike-length (Some e ∷ ps) (None ∷ qs) h = absurd h
alike-length (Some e ∷ ps) (Some f ∷ qs) h = ap suc (alike-length ps qs h.1)

alike-keys : (ps qs : List (Option (SeriesKey × Coef))) → AreAlike ps qs → keys_of (shown qs) ≡ keys_of (shown ps)
alike-keys [] [] h = refl
alike-keys [] (q ∷ qs) h = absurd h
alike-keys (p ∷ ps) [] h = absurd h
alike-keys (None ∷ ps) (None ∷ qs) h = alike-keys ps qs h
alike-keys (None ∷ ps) (Some f ∷ qs) h = absurd h
alike-keys (Some e ∷ ps) (None ∷ qs) h = absurd h
alike-keys (Some e ∷ ps) (Some f ∷ qs) h = ap₂ (λ (x : SeriesKey) (l : List SeriesKey). x ∷ l) (sym h.0) (alike-keys ps qs h.1)

alike-count : (ps qs : List (Option (SeriesKey × Coef))) → AreAlike ps qs → length (shown qs) ≡ length (shown ps)
alike-count ps qs h = sym (length-map (shown qs) (λ e. e.0)) ∙ ap length (alike-keys ps qs h) ∙ length-map (shown ps) (λ e. e.0)

-- what is held at a place
pub alike-held : (ps qs : List (Option (SeriesKey × Coef))) → AreAlike ps qs → (i : ℕ) (k : SeriesKey) (v : Coef)
    → get_or ps i None ≡ Some (k, v) → (w : Coef) × (get_or qs i None ≡ Some (k, w))
alike-held [] [] h i k v at = absurd (none-some (with_coef k v) at)
alike-held [] (q ∷ qs) h i k v at = absurd h
alike-held (p ∷ ps) [] h i k v at = absurd h
alike-held (None ∷ ps) (None ∷ qs) h zero k v at = absurd (none-some (with_coef k v) at)
alike-held (None ∷ ps) (None ∷ qs) h (suc i) k v at = alike-held ps qs h i k v at
alike-held (None ∷ ps) (Some f ∷ qs) h i k v at = absurd h
alike-held (Some e ∷ ps) (None ∷ qs) h i k v at = absurd h
alike-held (Some e ∷ ps) (Some f ∷ qs) h zero k v at = (
  f.1,
  ap (λ (x : SeriesKey). some_pair (with_coef x f.1)) (sym h.0 ∙ key_in e.0 k e.1 v at),
)
alike-held (Some e ∷ ps) (Some f ∷ qs) h (suc i) k v at = alike-held ps qs h.1 i k v at

alike-none : (ps qs : List (Option (SeriesKey × Coef))) → AreAlike ps qs → (i : ℕ) → get_or ps i None ≡ None → get_or qs i None ≡ None
alike-none [] [] h i at = refl
alike-none [] (q ∷ qs) h i at = absurd h
alike-none (p ∷ ps) [] h i at = absurd h
alike-none (None ∷ ps) (None ∷ qs) h zero at = refl
alike-none (None ∷ ps) (None ∷ qs) h (suc i) at = alike-none ps qs h i at
alike-none (None ∷ ps) (Some f ∷ qs) h i at = absurd h
alike-none (Some e ∷ ps) (None ∷ qs) h i at = absurd h
alike-none (Some e ∷ ps) (Some f ∷ qs) h zero at = absurd (none-some e (sym at))
alike-none (Some e ∷ ps) (Some f ∷ qs) h (suc i) at = alike-none ps qs h.1 i at

-- puts at the same places are kept as well
pub kept-alike : (ps qs : List (Option (SeriesKey × Coef))) (places : List (SeriesKey × ℕ)) (start capacity : ℕ)
    → AreKept ps places start capacity → AreAlike ps qs → AreKept qs places start capacity
kept-alike ps qs places start capacity kept h = record {
  found = λ k i at. let was = kept.found k i at in alike-held ps qs h i k was.0 was.1;
  placed = λ i k v at. let was = alike-held qs ps (alike-turned ps qs h) i k v at in kept.placed i k was.0 was.1;
  before = λ i less. alike-none ps qs h i (kept.before i less);
  begun = let size : length qs ≡ length ps = alike-length ps qs h in omega (arith, size, kept.begun);
  counted = alike-count ps qs h ∙ kept.counted;
  within = let size : length (shown qs) ≡ length (shown ps) = alike-count ps qs h in omega (arith, size, kept.within);
  limit = kept.limit;
}

shown-put : (series : ℕ) (needed : List (Key × Coef)) → shown (put_in series needed) ≡ in_series series needed
shown-put series [] = refl
shown-put series (e ∷ es) = ap (λ l. (series_key series e.0, e.1) ∷ l) (shown-put series es)

put_in-length : (series : ℕ) (needed : List (Key × Coef)) → length (put_in series needed) ≡ length needed
put_in-length series needed = length-map needed (λ e. Some (series_key series e.0, e.1))

-- one more of the last puts is of the needed key of its place
pub keys-more : (ps : List (Option (SeriesKey × Coef))) (front series : ℕ) (needed : List (Key × Coef)) (i : ℕ) (d : Key
    × Coef) (k : SeriesKey) (v : Coef) → i < length needed
    → get_or ps (front + i) None ≡ Some (k, v) → k ≡ series_key series (get_or needed i d).0
    → AreAlike (take i (drop front ps)) (put_in series (take i needed))
    → AreAlike (take (i + 1) (drop front ps)) (put_in series (take (i + 1) needed))
keys-more ps front series needed i d k v within at is was =
    let e : Key × Coef = get_or needed i d in
    let here : get_or (drop front ps) i None ≡ Some (k, v) = get_or-drop front ps i None ∙ at in
    let less : i < length (drop front ps) = held-within (drop front ps) i (k, v) here in
    let left : take (i + 1) (drop front ps) ≡ take i (drop front ps) ++ Some (with_coef (series_key series e.0) v) ∷ [] =
    take_more (drop front ps) i None less ∙ ap (λ (o : Option (SeriesKey × Coef)). take i (drop front ps) ++ o ∷ []) (here
    ∙ ap (λ (x : SeriesKey). some_pair (with_coef x v)) is) in
    let right : put_in series (take (i + 1) needed) ≡ put_in series (take i needed) ++ Some (with_coef (series_key series e.0) e.1) ∷ [] =
    map_more (λ e. Some (series_key series e.0, e.1)) needed i d within in
    subst (λ (l : List (Option (SeriesKey × Coef))). AreAlike l (put_in series (take (i + 1) needed))) (sym left)
    (subst (λ (l : List (Option (SeriesKey × Coef))). AreAlike
    (take i (drop front ps) ++ Some (with_coef (series_key series e.0) v) ∷ []) l) (sym right)
    (alike-more (take i (drop front ps)) (put_in series (take i needed)) (series_key series e.0) v e.1 was))

pub keys-all : (ps : List (Option (SeriesKey × Coef))) (front series : ℕ) (needed : List (Key × Coef)) (i : ℕ)
    → front ≡ length ps - length needed → length needed ≤ length ps → i ≡ length needed
    → AreAlike (take i (drop front ps)) (put_in series (take i needed)) → HasKeys ps series needed
keys-all ps front series needed i begins fits all was =
    let size : length (drop front ps) ≡ length needed = omega (arith, length-drop front ps, begins, fits) in
    record {
      fits = fits;
      alike = subst (λ (n : ℕ). AreAlike (drop n ps) (put_in series needed)) begins
          (subst (λ (l : List (Option (SeriesKey × Coef))). AreAlike l (put_in series needed))
          (take_all i (drop front ps) (omega (arith, size, all)))
          (subst (λ (l : List (Key × Coef)). AreAlike (take i (drop front ps)) (put_in series l))
          (take_all i needed (omega (arith, all))) was));
    }

-- one more pair is set
pub set-more : (old now : List (Option (SeriesKey × Coef))) (front series : ℕ) (needed : List (Key × Coef)) (i : ℕ) (d : Key
    × Coef) (k : SeriesKey) (v : Coef) → front + length needed ≡ length old → i < length needed
    → now ≡ (take front old ++ put_in series (take i needed)) ++ drop (front + i) old → k ≡ series_key series (get_or needed i d).0
    → v ≡ (get_or needed i d).1
    → set now (front + i) (Some (with_coef k v)) ≡ (take front old ++ put_in series (take (i + 1) needed)) ++ drop (front + (i + 1)) old
set-more old now front series needed i d k v size within was is value =
    let xs : List (Option (SeriesKey × Coef)) = take front old ++ put_in series (take i needed) in
    let o : Option (SeriesKey × Coef) = Some (with_coef k v) in
    let long : length xs ≡ front + i = omega (
      arith,
      length-append (take front old) (put_in series (take i needed)),
      put_in-length series (take i needed),
      length-take front old,
      length-take i needed,
      size,
      within,
    ) in
    let seam : drop (front + i) old ≡ get_or old (front + i) None ∷ drop (front + i + 1) old = drop_more old (front + i) None
    (omega (arith, size, within)) in
    let pair : o ≡ Some (
      series_key series (get_or needed i d).0,
      (get_or needed i d).1,
    ) = ap₂ (λ (x : SeriesKey) (y : Coef). some_pair (with_coef x y)) is value in
    let more : put_in series (take (i + 1) needed) ≡ put_in series (take i needed) ++ o ∷ [] =
    map_more (λ e. Some (series_key series e.0, e.1)) needed i d within
    ∙ ap (λ (x : Option (SeriesKey × Coef)). put_in series (take i needed) ++ x ∷ []) (sym pair) in
    let next : front + i + 1 ≡ front + (i + 1) = omega arith in
    ap₂ (λ (l : List (Option (SeriesKey × Coef))) (n : ℕ). set l n o) (was
    ∙ ap (λ (l : List (Option (SeriesKey × Coef))). xs ++ l) seam) (sym long)
    ∙ set-append_seam xs (get_or old (front + i) None) (drop (front + i + 1) old) o
    ∙ sym (append_assoc xs (o ∷ []) (drop (front + i + 1) old))
    ∙ ap (λ (l : List (Option (SeriesKey × Coef))). l ++ drop (front + i + 1) old)
    (append_assoc (take front old) (put_in series (take i needed)) (o ∷ [])
    ∙ ap (λ (l : List (Option (SeriesKey × Coef))). take front old ++ l) (sym more))
    ∙ ap (λ (n : ℕ). (take front old ++ put_in series (take (i + 1) needed)) ++ drop n old) next

-- before the first and behind the last
pub set-first : (old : List (Option (SeriesKey × Coef))) (front series : ℕ) (needed : List (Key × Coef))
    → old ≡ (take front old ++ put_in series (take 0 needed)) ++ drop (front + 0) old
set-first old front series needed =
    sym (ap₂ (λ (l : List (Option (SeriesKey × Coef))) (n : ℕ). l ++ drop n old) (append-nil (take front old)) (omega arith)
    ∙ take-append-drop front old)

pub set-all : (old now : List (Option (SeriesKey × Coef))) (front series : ℕ) (needed : List (Key × Coef)) (i : ℕ)
    → front + length needed ≡ length old → i ≡ length needed
    → now ≡ (take front old ++ put_in series (take i needed)) ++ drop (front + i) old → now ≡ take front old ++ put_in series needed
set-all old now front series needed i size all was =
    let none : drop (front + i) old ≡ [] = drop_of_length-le old (omega (arith, size, all)) in
    was
    ∙ ap₂ (λ (l : List (Key × Coef)) (r : List (Option (SeriesKey × Coef))). (take front old ++ put_in series l) ++ r)
    (take_all i needed (omega (arith, all))) none
    ∙ append-nil (take front old ++ put_in series needed)

-- what is set is alike
module _ (ps : List (Option (SeriesKey × Coef))) (series : ℕ) (needed : List (Key × Coef)) (keys : HasKeys ps series needed) where
  abbrev begin : ℕ
  begin = length ps - length needed

  pub alike-set : AreAlike ps (take begin ps ++ put_in series needed)
  alike-set =
      subst (λ (l : List (Option (SeriesKey × Coef))). AreAlike l (take begin ps ++ put_in series needed)) (take-append-drop begin ps)
      (alike-behind (take begin ps) (drop begin ps) (put_in series needed) keys.alike)

  pub renews-front : RenewsFront (reverse (shown ps)) (reverse (shown (take begin ps ++ put_in series needed))) series needed
  renews-front = record {
    front = shown (drop begin ps);
    rest = reverse (shown (take begin ps));
    was = ap reverse (ap shown (sym (take-append-drop begin ps)) ∙ shown-append (take begin ps) (drop begin ps))
        ∙ reverse-append (shown (take begin ps)) (shown (drop begin ps));
    keys = sym (alike-keys (drop begin ps) (put_in series needed) keys.alike) ∙ ap keys_of (shown-put series needed);
    is = ap reverse (shown-append (take begin ps) (put_in series needed) ∙ ap (λ l. shown (take begin ps) ++ l) (shown-put series needed))
        ∙ reverse-append (shown (take begin ps)) (in_series series needed);
  }

-- whether a list has a key is told by its keys
among : List SeriesKey → SeriesKey → Bool
among [] k = false
among (x ∷ xs) k = key_eq k x || among xs k

has-among : (es : List (SeriesKey × Coef)) (k : SeriesKey) → has es k ≡ among (keys_of es) k
unfolding among
has-among [] k = refl
has-among (e ∷ es) k = has-cons (key_eq k) e es ∙ ap (λ b. key_eq k e.0 || b) (has-among es k)

has-alike : (es fs : List (SeriesKey × Coef)) → keys_of es ≡ keys_of fs → (k : SeriesKey) → has es k ≡ has fs k
has-alike es fs same k = has-among es k ∙ ap (λ l. among l k) same ∙ sym (has-among fs k)

-- the pairs behind them are those of the other keys
pub front-others : (old new : List (SeriesKey × Coef)) (series : ℕ) (needed : List (Key × Coef)) → IsDistinct key_eq (keys_of old)
    → (front : RenewsFront old new series needed)
    → others old (in_series series needed) ≡ front.rest
front-others old new series needed apart front =
    let all : List (SeriesKey × Coef) = in_series series needed in
    let has_all : (k : SeriesKey) → has all k ≡ has front.front k = has-alike all front.front (sym front.keys) in
    (λ i. filter (λ e. not (has_all e.0 i)) old)
    ∙ ap (λ l. others l front.front) front.was
    ∙ rest-others front.front front.rest (subst (λ l. IsDistinct key_eq (keys_of l)) front.was apart)

-- the list after the view has the pairs in front
pub renewed-front : (capacity : ℕ) (old new : List (SeriesKey × Coef)) (series : ℕ) (needed : List (Key × Coef))
    → IsDistinct key_eq (keys_of old) → length old ≤ capacity
    → RenewsFront old new series needed → renewed capacity old (in_series series needed) ≡ new
renewed-front capacity old new series needed apart fits front =
    let all : List (SeriesKey × Coef) = in_series series needed in
    let heads : keys_of new ≡ keys_of old =
    ap keys_of front.is
    ∙ map-append (λ x. x.0) (reverse all) front.rest
    ∙ ap (λ l. l ++ keys_of front.rest) (turned-keys all ∙ ap reverse (sym front.keys) ∙ sym (turned-keys front.front))
    ∙ sym (map-append (λ x. x.0) (reverse front.front) front.rest)
    ∙ ap keys_of (sym front.was) in
    let now : IsDistinct key_eq (keys_of new) = subst (λ l. IsDistinct key_eq l) (sym heads) apart in
    let has_old : (k : SeriesKey) → has old k ≡ has new k = has-alike old new (sym heads) in
    let long : length new ≡ length old = sym (length-map new (λ e. e.0)) ∙ ap length heads ∙ length-map old (λ e. e.0) in
    let first : news old all ≡ [] = (λ i. filter (λ e. not (has_old e.0 i)) all) ∙ no-news new now all front.rest front.is in
    let second : hits old all ≡ all = (λ i. filter (λ e. has_old e.0 i) all) ∙ all-hits new now all front.rest front.is in
    let third : others old all ≡ front.rest = front-others old new series needed apart front in
    (λ i. take capacity (reverse (first i) ++ reverse (second i) ++ third i))
    ∙ ap (take capacity) (sym front.is)
    ∙ take_all capacity new (omega (arith, long, fits))
