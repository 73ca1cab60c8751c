-- Needed pairs that stand together at the end, in order, and get their coefficients where they stand.
use Rattle.std.proofs.Common.{◌≡◌, ℕ, zero, suc, ◌+◌, ◌-◌, ◌<◌, Bool, true, false, cond, not, ◌&&◌, List, [], ◌∷◌, ◌++◌, length, take, drop}
use Rattle.std.proofs.Common.{get_or, reverse, Some, None, Option, is_some, refl, sym, ap, ap₂, ◌∙◌, subst, arith, append_assoc, append-nil}
use Rattle.std.proofs.Common.{length-append, length-take, length-drop, take_all}
use Rattle.std.specs.List.{filter, IsDistinct}
use Rattle.std.specs.Map.{keys_of, lookup}
use Rattle.std.proofs.lemmas.List.{map-append, take_more, get_or-drop}
use Rattle.om3_coeff.specs.declared.key.Key.{Key}
use Rattle.om3_coeff.specs.declared.coef.Coef.{Coef}
use Rattle.coefficient_cache.specs.declared.series_key.SeriesKey.{SeriesKey}
use Rattle.coefficient_cache.specs.Pairs.{series_key, key_eq, in_series, has}
use Rattle.coefficient_cache.specs.Views.{are_new, hits, others, RenewsFront}
use Rattle.coefficient_cache.specs.Puts.{shown, located, AreStored, AreAlike, HasKeys, put_in, held_of, AreGone, IsStep, IsInLine}
use Rattle.coefficient_cache.proofs.Keys.{key_laws, key_exact}
use Rattle.coefficient_cache.proofs.Moves.{has-filter}
use Rattle.coefficient_cache.proofs.Unmoved.{there}
use Rattle.coefficient_cache.proofs.Fronts.{alike-more, front-others}
use Rattle.coefficient_cache.proofs.Kept.{with_coef, some_pair, held-within, found-held}
use Rattle.coefficient_cache.proofs.Found.{none-held}

-- one more needed pair, and whether it is new
held-more : (es : List (Key × Coef)) (e : Key × Coef) (fs : List Bool) (b : Bool) → length fs ≡ length es
    → held_of (es ++ e ∷ []) (fs ++ b ∷ []) ≡ held_of es fs ++ cond b [] (e ∷ [])
held-more [] e [] true h = refl
held-more [] e [] false h = refl
held-more [] e (f ∷ fs) b h = absurd (omega (arith, h))
held-more (x ∷ es) e [] b h = absurd (omega (arith, h))
held-more (x ∷ es) e (true ∷ fs) b h = held-more es e fs b (omega (arith, h))
held-more (x ∷ es) e (false ∷ fs) b h = ap (λ l. x ∷ l) (held-more es e fs b (omega (arith, h)))

gone-more : (numbers : List (SeriesKey × ℕ)) (series : ℕ) (es : List (Key × Coef)) (e : Key × Coef) (fs : List Bool) (b : Bool)
    → length fs ≡ length es → AreGone numbers series es fs
    → (b ≡ true → lookup (key_eq (series_key series e.0)) numbers ≡ None) → AreGone numbers series (es ++ e ∷ []) (fs ++ b ∷ [])
gone-more numbers series [] e [] true h was none = (none refl, tt)
gone-more numbers series [] e [] false h was none = tt
gone-more numbers series [] e (f ∷ fs) b h was none = absurd (omega (arith, h))
gone-more numbers series (x ∷ es) e [] b h was none = absurd (omega (arith, h))
gone-more numbers series (x ∷ es) e (true ∷ fs) b h was none = (was.0, gone-more numbers series es e fs b (omega (arith, h)) was.1 none)
gone-more numbers series (x ∷ es) e (false ∷ fs) b h was none = gone-more numbers series es e fs b (omega (arith, h)) was none

-- a pair that isn't new stands behind those before it
pub held-here : (es : List (Key × Coef)) (fs : List Bool) (i : ℕ) (d : Key × Coef) (b : Bool) → i < length es → length fs ≡ length es
    → get_or fs i b ≡ false
    → (length (held_of (take i es) (take i fs)) < length (held_of es fs))
    × (get_or (held_of es fs) (length (held_of (take i es) (take i fs))) d ≡ get_or es i d)
held-here [] fs i d b within long at = absurd (omega (arith, within))
held-here (e ∷ es) [] i d b within long at = absurd (omega (arith, long))
held-here (e ∷ es) (true ∷ fs) zero d b within long at = absurd (let bad : true ≡ false = at in cc)
held-here (e ∷ es) (false ∷ fs) zero d b within long at = (omega arith, refl)
held-here (e ∷ es) (true ∷ fs) (suc i) d b within long at = held-here es fs i d b (omega (arith, within)) (omega (arith, long)) at
held-here (e ∷ es) (false ∷ fs) (suc i) d b within long at =
    let on = held-here es fs i d b (omega (arith, within)) (omega (arith, long)) at in
    let less = on.0 in
    (omega (arith, less), on.1)

pub at-count : (n m k : ℕ) → n ≡ m → m < k → n < k
at-count n m k is less = omega (arith, is, less)

-- how many aren't new, with one more
pub held-count : (es : List (Key × Coef)) (fs : List Bool) (i : ℕ) (d : Key × Coef) (e b : Bool) → i < length es → length fs ≡ length es
    → get_or fs i e ≡ b
    → length (held_of (take (i + 1) es) (take (i + 1) fs)) ≡ length (held_of (take i es) (take i fs)) + cond b 0 1
held-count es fs i d e b within long at =
    let here : held_of (take (i + 1) es) (take (i + 1) fs) ≡ held_of (take i es) (take i fs) ++ cond b [] (get_or es i d ∷ []) =
    ap₂ (λ (l : List (Key × Coef)) (m : List Bool). held_of l m) (take_more es i d within) (take_more fs i e (omega (arith, within, long)))
    ∙ ap (λ (f : Bool). held_of (take i es ++ get_or es i d ∷ []) (take i fs ++ f ∷ [])) at
    ∙ held-more (take i es) (get_or es i d) (take i fs) b (omega (arith, length-take i es, length-take i fs, long, within)) in
    ap length here
    ∙ (elim b as (λ c. length (held_of (take i es) (take i fs) ++ cond c [] (get_or es i d ∷ [])) ≡ length
    (held_of (take i es) (take i fs)) + cond c 0 1) [
      | true ↦ length-append (held_of (take i es) (take i fs)) []
      | false ↦ length-append (held_of (take i es) (take i fs)) (get_or es i d ∷ [])
    ])

-- the needed pairs so far, with the places of those that aren't new
pub record AreSoFar (ps : List (Option (SeriesKey × Coef))) (numbers : List (SeriesKey × ℕ)) (start series : ℕ) (needed : List (Key × Coef))
    (flags : List Bool) (i place : ℕ) : Type 0 where
  pub long : length flags ≡ i
  pub stands : place ≡ start + length (held_of (take i needed) flags)
  pub alike : AreAlike (take (length (held_of (take i needed) flags)) (drop start ps)) (put_in series (held_of (take i needed) flags))
  pub gone : AreGone numbers series (take i needed) flags

module _ (ps : List (Option (SeriesKey × Coef))) (numbers : List (SeriesKey × ℕ)) (start series : ℕ) (needed : List (Key × Coef)) where
  pub line-first : AreSoFar ps numbers start series needed [] 0 start
  line-first = record { long = refl; stands = omega arith; alike = tt; gone = tt }

  abbrev Holds : List (Key × Coef) → Type 0
  Holds l = AreAlike (take (length l) (drop start ps)) (put_in series l)

  -- one more that stands behind those so far
  held-behind : (held : List (Key × Coef)) (e : Key × Coef) (v : Coef)
      → get_or ps (start + length held) None ≡ Some (series_key series e.0, v) → Holds held → Holds (held ++ e ∷ [])
  held-behind held e v at was =
      let n = length held in
      let here : get_or (drop start ps) n None ≡ Some (with_coef (series_key series e.0) v) = get_or-drop start ps n None ∙ at in
      let less : n < length (drop start ps) = held-within (drop start ps) n (with_coef (series_key series e.0) v) here in
      let size : length (held ++ e ∷ []) ≡ n + 1 = length-append held (e ∷ []) in
      let left : take (length (held ++ e ∷ [])) (drop start ps) ≡ take n (drop start ps) ++ Some
      (with_coef (series_key series e.0) v) ∷ [] =
      ap (λ (m : ℕ). take m (drop start ps)) size
      ∙ take_more (drop start ps) n None less
      ∙ ap (λ (o : Option (SeriesKey × Coef)). take n (drop start ps) ++ o ∷ []) here in
      let right : put_in series (held ++ e ∷ []) ≡ put_in series held ++ Some (with_coef (series_key series e.0) e.1) ∷ [] =
      map-append (λ e. Some (series_key series e.0, e.1)) held (e ∷ []) in
      subst (λ (l : List (Option (SeriesKey × Coef))). AreAlike l (put_in series (held ++ e ∷ []))) (sym left)
      (subst (λ (l : List (Option (SeriesKey × Coef))). AreAlike
      (take n (drop start ps) ++ Some (with_coef (series_key series e.0) v) ∷ []) l) (sym right)
      (alike-more (take n (drop start ps)) (put_in series held) (series_key series e.0) v e.1 was))

  -- one needed key more
  pub line-step : (i : ℕ) (d : Key × Coef) (flags : List Bool) (place : ℕ) (k : SeriesKey) (b : Bool) (next : ℕ) → i < length needed
      → k ≡ series_key series (get_or needed i d).0
      → AreSoFar ps numbers start series needed flags i place → IsStep ps numbers place k b next
      → AreSoFar ps numbers start series needed (flags ++ not b ∷ []) (i + 1) next
  line-step i d flags place k true next within is was step =
      let e : Key × Coef = get_or needed i d in
      let held : List (Key × Coef) = held_of (take i needed) flags in
      let more : take (i + 1) needed ≡ take i needed ++ e ∷ [] = take_more needed i d within in
      let sizes : length flags ≡ length (take i needed) = omega (arith, was.long, length-take i needed, within) in
      let all : held_of (take (i + 1) needed) (flags ++ false ∷ []) ≡ held ++ e ∷ [] = ap (λ (l : List (Key × Coef)). held_of l
      (flags ++ false ∷ [])) more ∙ held-more (take i needed) e flags false sizes in
      let at : get_or ps (start + length held) None ≡ Some (series_key series e.0, step.1.0) =
      ap (λ (m : ℕ). get_or ps m None) (sym was.stands) ∙ step.1.1 ∙ ap (λ (x : SeriesKey). some_pair (with_coef x step.1.0)) is in
      record {
        long = length-append flags (false ∷ []) ∙ ap (λ (m : ℕ). m + 1) was.long;
        stands = omega (arith, step.0, was.stands, ap length all, length-append held (e ∷ []));
        alike = subst (λ (l : List (Key × Coef)). Holds l) (sym all) (held-behind held e step.1.0 at was.alike);
        gone = subst (λ (l : List (Key × Coef)). AreGone numbers series l (flags ++ false ∷ [])) (sym more)
            (gone-more numbers series (take i needed) e flags false sizes was.gone (λ bad. cc));
      }
  line-step i d flags place k false next within is was step =
      let e : Key × Coef = get_or needed i d in
      let held : List (Key × Coef) = held_of (take i needed) flags in
      let more : take (i + 1) needed ≡ take i needed ++ e ∷ [] = take_more needed i d within in
      let sizes : length flags ≡ length (take i needed) = omega (arith, was.long, length-take i needed, within) in
      let all : held_of (take (i + 1) needed) (flags ++ true ∷ []) ≡ held =
      ap (λ (l : List (Key × Coef)). held_of l (flags ++ true ∷ [])) more ∙ held-more (take i needed) e flags true sizes
      ∙ append-nil held in
      record {
        long = length-append flags (true ∷ []) ∙ ap (λ (m : ℕ). m + 1) was.long;
        stands = omega (arith, step.0, was.stands, ap length all);
        alike = subst (λ (l : List (Key × Coef)). Holds l) (sym all) was.alike;
        gone = subst (λ (l : List (Key × Coef)). AreGone numbers series l (flags ++ true ∷ [])) (sym more)
            (gone-more numbers series (take i needed) e flags true sizes was.gone
            (λ _. ap (λ (x : SeriesKey). lookup (key_eq x) numbers) (sym is) ∙ step.1));
      }

  pub line-all : (flags : List Bool) (i place : ℕ) → i ≡ length needed → place ≡ length ps
      → AreSoFar ps numbers start series needed flags i place → IsInLine ps numbers start series needed flags
  line-all flags i place all ends was =
      let whole : take i needed ≡ needed = take_all i needed (omega (arith, all)) in
      let size : start + length (held_of needed flags) ≡ length
      ps = sym (ap (λ (l : List (Key × Coef)). start + length (held_of l flags)) whole) ∙ sym was.stands ∙ ends in
      let line : Holds (held_of needed flags) = subst (λ (l : List (Key × Coef)). Holds (held_of l flags)) whole was.alike in
      record {
        long = was.long ∙ all;
        fits = size;
        alike = subst (λ (l : List (Option (SeriesKey × Coef))). AreAlike l (put_in series (held_of needed flags)))
            (take_all (length (held_of needed flags)) (drop start ps) (omega (arith, length-drop start ps, size))) line;
        gone = subst (λ (l : List (Key × Coef)). AreGone numbers series l flags) whole was.gone;
      }

  module _ (flags : List Bool) (line : IsInLine ps numbers start series needed flags) where
    pub line-begin : start ≡ length ps - length (held_of needed flags)
    line-begin = omega (arith, line.fits)

    pub line-keys : HasKeys ps series (held_of needed flags)
    line-keys = record {
      fits = omega (arith, line.fits);
      alike = subst (λ (n : ℕ). AreAlike (drop n ps) (put_in series (held_of needed flags))) line-begin line.alike;
    }

-- what the flags say of a list that has the pairs that are held
flags-told : (pairs : List (SeriesKey × Coef)) (numbers : List (SeriesKey × ℕ)) (series : ℕ) (es : List (Key × Coef)) (fs : List Bool)
    (qs : List (Option (SeriesKey × Coef))) → length fs ≡ length es
    → AreAlike qs (put_in series (held_of es fs)) → AreGone numbers series es fs
    → ((k : SeriesKey) → lookup (key_eq k) numbers ≡ None → has pairs k ≡ false)
    → ((i : ℕ) (k : SeriesKey) (v : Coef) → get_or qs i None ≡ Some (k, v) → has pairs k ≡ true)
    → fs ≡ are_new pairs (in_series series es)
flags-told pairs numbers series [] [] qs h alike gone out in_ = refl
flags-told pairs numbers series [] (f ∷ fs) qs h alike gone out in_ = absurd (omega (arith, h))
flags-told pairs numbers series (e ∷ es) [] qs h alike gone out in_ = absurd (omega (arith, h))
flags-told pairs numbers series (e ∷ es) (true ∷ fs) qs h alike gone out in_ =
    ap₂ (λ (b : Bool) (l : List Bool). b ∷ l) (ap not (sym (out (series_key series e.0) gone.0)))
    (flags-told pairs numbers series es fs qs (omega (arith, h)) alike gone.1 out in_)
flags-told pairs numbers series (e ∷ es) (false ∷ fs) [] h alike gone out in_ = absurd alike
flags-told pairs numbers series (e ∷ es) (false ∷ fs) (None ∷ qs) h alike gone out in_ = absurd alike
flags-told pairs numbers series (e ∷ es) (false ∷ fs) (Some p ∷ qs) h alike gone out in_ =
    ap₂ (λ (b : Bool) (l : List Bool). b ∷ l) (ap not (sym (ap (has pairs) (sym alike.0) ∙ in_ 0 p.0 p.1 refl)))
    (flags-told pairs numbers series es fs qs (omega (arith, h)) alike.1 gone out (λ i k v at. in_ (suc i) k v at))

pub line-flags : (ps : List (Option (SeriesKey × Coef))) (owners places : List ℕ) (numbers : List (SeriesKey × ℕ))
    (first capacity start series : ℕ) (needed : List (Key × Coef)) (flags : List Bool)
    → AreStored ps owners places numbers first capacity → IsInLine ps numbers start series needed flags
    → flags ≡ are_new (reverse (shown ps)) (in_series series needed)
line-flags ps owners places numbers first capacity start series needed flags stored line =
    flags-told (reverse (shown ps)) numbers series needed flags (drop start ps) line.long line.alike line.gone
    (λ k none. ap is_some (none-held ps owners places numbers first capacity stored k none))
    (λ i k v at. ap is_some (found-held ps (located places numbers) first capacity stored.kept (start + i) k v
    (sym (get_or-drop start ps i None) ∙ at)))

-- the needed pairs that aren't new are the hits
held-hits : (pairs : List (SeriesKey × Coef)) (series : ℕ) (es : List (Key × Coef))
    → in_series series (held_of es (are_new pairs (in_series series es))) ≡ hits pairs (in_series series es)
held-hits pairs series [] = refl
held-hits pairs series (e ∷ es) =
    let g : SeriesKey × Coef = (series_key series e.0, e.1) in
    let on = held-hits pairs series es in
    elim (has pairs g.0) as (λ b. in_series series (held_of (e ∷ es) (not b ∷ are_new pairs (in_series series es))) ≡ cond b
    (g ∷ hits pairs (in_series series es)) (hits pairs (in_series series es))) [
      | true ↦ ap (λ l. g ∷ l) on
      | false ↦ on
    ]

-- the pairs whose key isn't needed are those whose key is no hit
others-hits : (pairs all front xs : List (SeriesKey × Coef)) → pairs ≡ front ++ xs
    → filter (λ e. not (has (hits pairs all) e.0)) xs ≡ filter (λ e. not (has all e.0)) xs
others-hits pairs all front [] is = refl
others-hits pairs all front (x ∷ xs) is =
    let in_ : has pairs x.0 ≡ true = ap (λ l. has l x.0) is ∙ there front x xs in
    let same : has (hits pairs all) x.0 ≡ has all x.0 = has-filter key_laws key_exact (has pairs) all x.0
    ∙ ap (λ b. b && has all x.0) in_ in
    let on = others-hits pairs all (front ++ x ∷ []) xs (is ∙ sym (append_assoc front (x ∷ []) xs)) in
    (λ i. cond (not (same i)) (x ∷ on i) (on i))

-- hits that get their coefficients at the front are hits that came to the front
pub renewed-line : (old new : List (SeriesKey × Coef)) (series : ℕ) (needed : List (Key × Coef)) (flags : List Bool)
    → IsDistinct key_eq (keys_of old)
    → RenewsFront old new series (held_of needed flags) → flags ≡ are_new old (in_series series needed)
    → new ≡ reverse (hits old (in_series series needed)) ++ others old (in_series series needed)
renewed-line old new series needed flags apart front told =
    let all : List (SeriesKey × Coef) = in_series series needed in
    let held : in_series series (held_of needed flags) ≡ hits old all = ap (λ (l : List Bool). in_series series (held_of needed l)) told
    ∙ held-hits old series needed in
    let behind : front.rest ≡ others old all =
    sym (front-others old new series (held_of needed flags) apart front) ∙ ap (others old) held ∙ others-hits old all [] old refl in
    front.is ∙ (λ i. reverse (held i) ++ behind i)
