-- What is sent and what is held give the needed list; needed keys are held afterwards.
use Rattle.std.proofs.Common.{◌≡◌, ℕ, ◌<◌, ◌≤◌, Bool, true, false, cond, not, List, [], ◌∷◌, ◌++◌, length, map, get_or, reverse, Option}
use Rattle.std.proofs.Common.{Some, None, refl, sym, ap, ◌∙◌, subst, arith, length-append, pos}
use Rattle.std.specs.List.{filter, IsDistinct, Contains}
use Rattle.std.specs.Map.{keys_of, lookup}
use Rattle.std.specs.Option.{option_map, option_map_or}
use Rattle.std.proofs.lemmas.List.{length-map, length-reverse, get_or-map}
use Rattle.std.proofs.lemmas.List.Elements.{All-head, All-tail, Contains-get_or}
use Rattle.std.proofs.lemmas.List.Filters.{length-filter_both}
use Rattle.std.proofs.lemmas.Map.Made.{IsDistinct-from_AllPairs, IsDistinct-keys_filter}
use Rattle.std.proofs.lemmas.Map.Views.{lookup-from_Contains}
use Rattle.om3_coeff.specs.declared.key.Key.{Key}
use Rattle.om3_coeff.specs.declared.coef.Coef.{Coef}
use Rattle.coefficient_cache.specs.declared.series_key.SeriesKey.{SeriesKey}
use Rattle.coefficient_cache.specs.Pairs.{series_key, key_eq, coefficient_eq, in_series, coefficient_at, has, holds}
use Rattle.coefficient_cache.specs.Views.{AreDistinct, Gives, to_send, others, looked_up, renewed}
use Rattle.coefficient_cache.proofs.Keys.{Decides-key_eq, Decides-coefficient_eq, key_laws, key_exact, key_from}
use Rattle.coefficient_cache.proofs.Finds.{or_else, lookup-append}
use Rattle.coefficient_cache.proofs.Filtered.{filter-map, lookup-filter, lookup-reverse, lookup-kept}

held-some : (o : Option Coef) (v : Coef) → option_map_or (coefficient_eq v) o false ≡ true → o ≡ Some v
held-some None v h = absurd cc
held-some (Some w) v h = ap Some (sym ((Decides-coefficient_eq v w).0 h))

-- a list holds a pair exactly where a look-up of its key gives its coefficient
pub found-held : (pairs : List (SeriesKey × Coef)) (e : SeriesKey × Coef) → holds pairs e ≡ true → coefficient_at pairs e.0 ≡ Some e.1
found-held pairs e = held-some (coefficient_at pairs e.0) e.1

pub held-found : (pairs : List (SeriesKey × Coef)) (e : SeriesKey × Coef) → coefficient_at pairs e.0 ≡ Some e.1 → holds pairs e ≡ true
held-found pairs e h = ap (λ o. option_map_or (coefficient_eq e.1) o false) h ∙ (Decides-coefficient_eq e.1 e.1).1 refl

abbrev no_coef : Coef
no_coef = record { left = false; right = false; dmin = pos 0; dmax = pos 0 }

-- the keys of needed pairs differ
pub distinct-in_series : (series : ℕ) (needed : List (Key × Coef)) → AreDistinct needed
    → IsDistinct key_eq (keys_of (in_series series needed))
distinct-in_series series needed distinct =
    IsDistinct-from_AllPairs Decides-key_eq (keys_of (in_series series needed)) (λ i j d lt in_range.
    let g : Key × Coef → SeriesKey × Coef = λ e. (series_key series e.0, e.1) in
    let f : SeriesKey × Coef → SeriesKey = λ e. e.0 in
    let z : Key × Coef = (record { level = d.level; index = d.index }, no_coef) in
    let long : length (keys_of (in_series series needed)) ≡ length needed = length-map (in_series series needed) f ∙ length-map needed g in
    let ends : j < length needed = subst (λ n. j < n) long in_range in
    let starts : i < length needed = omega arith in
    let at = λ (n : ℕ) (h : n < length needed). get_or-map f (in_series series needed) n (g z) d
    (subst (λ m. n < m) (sym (length-map needed g)) h) ∙ ap f (get_or-map g needed n z (g z) h) in
    λ same. distinct i j z lt ends (key_from series (get_or needed i z).0 (get_or needed j z).0 (sym (at i starts) ∙ same ∙ at j ends)))

-- a look-up in the needed pairs gives each its coefficient
pub found-needed : (series : ℕ) (needed : List (Key × Coef)) (i : ℕ) (d : Key × Coef) → AreDistinct needed → i < length needed
    → lookup (key_eq (series_key series (get_or needed i d).0)) (in_series series needed) ≡ Some (get_or needed i d).1
found-needed series needed i d distinct h =
    let g : Key × Coef → SeriesKey × Coef = λ e. (series_key series e.0, e.1) in
    let long : i < length (in_series series needed) = subst (λ n. i < n) (sym (length-map needed g)) h in
    lookup-from_Contains key_laws (g (get_or needed i d)).0 (g (get_or needed i d)).1 (in_series series needed)
    (distinct-in_series series needed distinct)
    (subst (Contains (in_series series needed)) (get_or-map g needed i d (g d) h) (Contains-get_or (in_series series needed) i (g d) long))

abbrev joined : List (SeriesKey × Coef) → ℕ → List (Key × Coef) → List (SeriesKey × Coef)
joined pairs series needed = in_series series (to_send pairs series needed) ++ pairs

sent_or_held : (pairs : List (SeriesKey × Coef)) (k : SeriesKey) (v : Coef) (b : Bool) → holds pairs (k, v) ≡ b
    → or_else (cond (not b) (Some v) None) (coefficient_at pairs k) ≡ Some v
sent_or_held pairs k v true h = found-held pairs (k, v) h
sent_or_held pairs k v false h = refl

pub sent-and-held : (pairs : List (SeriesKey × Coef)) (series : ℕ) (needed : List (Key × Coef)) → AreDistinct needed
    → Gives (joined pairs series needed) series needed
sent-and-held pairs series needed distinct i d h =
    let all = in_series series needed in
    let k = series_key series (get_or needed i d).0 in
    let v = (get_or needed i d).1 in
    let p : SeriesKey × Coef → Bool = λ e. not (holds pairs e) in
    lookup-append (key_eq k) (in_series series (to_send pairs series needed)) pairs
    ∙ ap (λ l. or_else (lookup (key_eq k) l) (coefficient_at pairs k)) (sym (filter-map p (λ e. (series_key series e.0, e.1)) needed))
    ∙ ap (λ o. or_else o (coefficient_at pairs k)) (lookup-filter key_laws key_exact p all k v (distinct-in_series series needed distinct)
    (found-needed series needed i d distinct h))
    ∙ sent_or_held pairs k v (holds pairs (k, v)) refl

-- what a list gives is what is looked up in it
pub looked-up : (view : List (SeriesKey × Coef)) (series : ℕ) (needed : List (Key × Coef)) → Gives view series needed
    → looked_up view series (map (λ e. e.0) needed) ≡ needed
looked-up view series [] gives = refl
looked-up view series (e ∷ es) gives =
    let P : Key × Coef → Type 0 = λ e. coefficient_at view (series_key series e.0) ≡ Some e.1 in
    let here : coefficient_at view (series_key series e.0) ≡ Some e.1 = All-head P e es gives in
    (λ i. Rattle.std.specs.List.cons_option (option_map (λ coef. (e.0, coef)) (here i))
    (looked-up view series es (All-tail P e es gives) i))

new_or_hit : (b : Bool) (v : Coef) → or_else (cond (not b) (Some v) None) (cond b (Some v) None) ≡ Some v
new_or_hit true v = refl
new_or_hit false v = refl

-- the needed keys stand in front
pub needed-held : (capacity : ℕ) (pairs : List (SeriesKey × Coef)) (series : ℕ) (needed : List (Key × Coef)) → AreDistinct needed
    → length needed ≤ capacity → Gives (renewed capacity pairs (in_series series needed)) series needed
needed-held capacity pairs series needed distinct fits i d h =
    let all = in_series series needed in
    let k = series_key series (get_or needed i d).0 in
    let v = (get_or needed i d).1 in
    let g : Key × Coef → SeriesKey × Coef = λ e. (series_key series e.0, e.1) in
    let p : SeriesKey × Coef → Bool = λ e. has pairs e.0 in
    let q : SeriesKey × Coef → Bool = λ e. not (has pairs e.0) in
    let apart = distinct-in_series series needed distinct in
    let found = found-needed series needed i d distinct h in
    let front = reverse (filter q all) ++ reverse (filter p all) in
    let short : length front ≤ capacity =
    omega (
      arith,
      length-append (reverse (filter q all)) (reverse (filter p all)),
      length-reverse (filter q all),
      length-reverse (filter p all),
      length-filter_both p q (λ e. refl) all,
      length-map needed g,
    ) in
    lookup-kept (key_eq k) capacity front (others pairs all) v short (
    lookup-append (key_eq k) (reverse (filter q all)) (reverse (filter p all))
    ∙ (λ j. or_else
    ((lookup-reverse key_laws key_exact (filter q all) k (IsDistinct-keys_filter key_eq q all apart)
    ∙ lookup-filter key_laws key_exact q all k v apart found) j)
    ((lookup-reverse key_laws key_exact (filter p all) k (IsDistinct-keys_filter key_eq p all apart)
    ∙ lookup-filter key_laws key_exact p all k v apart found) j))
    ∙ new_or_hit (has pairs k) v)

-- what a list gives isn't sent
pub nothing-to-send : (view : List (SeriesKey × Coef)) (series : ℕ) (needed : List (Key × Coef)) → Gives view series needed
    → to_send view series needed ≡ []
nothing-to-send view series [] gives = refl
nothing-to-send view series (e ∷ es) gives =
    let P : Key × Coef → Type 0 = λ e. coefficient_at view (series_key series e.0) ≡ Some e.1 in
    ap (λ b. cond (not b) (e ∷ to_send view series es) (to_send view series es))
    (held-found view (series_key series e.0, e.1) (All-head P e es gives))
    ∙ nothing-to-send view series es (All-tail P e es gives)
