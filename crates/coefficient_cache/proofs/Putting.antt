-- What a put does to a list, and how a list is packed and compared.
use Rattle.std.proofs.Common.{◌≡◌, ℕ, suc, ◌+◌, ◌-◌, ◌<◌, ◌≤◌, true, false, cond, List, [], ◌∷◌, ◌++◌, length, take, drop, get_or, reverse}
use Rattle.std.proofs.Common.{Option, Some, None, is_some, sym, ap, ◌∙◌, subst, arith, length-append, length-drop, get_or-drop}
use Rattle.std.proofs.Common.{take-append-drop, append-nil, take_all}
use Rattle.std.specs.Option.{option_map_or}
use Rattle.std.specs.List.{IsDistinct}
use Rattle.std.specs.Map.{keys_of, lookup, remove_entry}
use Rattle.std.proofs.lemmas.List.{reverse-append, take_more, length-reverse}
use Rattle.om3_coeff.specs.declared.key.Key.{Key}
use Rattle.om3_coeff.specs.declared.coef.Coef.{Coef}
use Rattle.coefficient_cache.specs.declared.series_key.SeriesKey.{SeriesKey}
use Rattle.coefficient_cache.specs.Pairs.{series_key, key_eq, in_series, has}
use Rattle.coefficient_cache.specs.Views.{IsInFront}
use Rattle.coefficient_cache.specs.Puts.{shown, put_entries}
use Rattle.coefficient_cache.proofs.Keys.{key_exact, in_series-more}
use Rattle.coefficient_cache.proofs.Finds.{none_from_is_some, has-reverse, lookup-take-none, entry_none, entry_there}
use Rattle.coefficient_cache.proofs.Unmoved.{there, past}
use Rattle.coefficient_cache.proofs.Kept.{with_coef, held-within, shown-append, shown-split, pushed}

pub put-there : (es : List (SeriesKey × Coef)) (n : ℕ) (k : SeriesKey) (v : Coef) → has es k ≡ true
    → with_coef k v ∷ remove_entry (key_eq k) es ≡ put_entries key_eq es n k v
put-there es n k v h =
    let at = entry_there (key_eq k) es h in
    ap (λ (x : SeriesKey). with_coef x v ∷ remove_entry (key_eq k) es) (key_exact k at.0.0 at.2)
    ∙ sym (ap (λ (o : Option (SeriesKey × Coef)). option_map_or (λ e. with_coef e.0 v ∷ remove_entry (key_eq k) es) o
    (with_coef k v ∷ take (n - 1) es)) at.1)

put-missing : (es : List (SeriesKey × Coef)) (n : ℕ) (k : SeriesKey) (v : Coef) → lookup (key_eq k) es ≡ None
    → with_coef k v ∷ take (n - 1) es ≡ put_entries key_eq es n k v
put-missing es n k v h =
    sym (ap (λ (o : Option (SeriesKey × Coef)). option_map_or (λ e. with_coef e.0 v ∷ remove_entry (key_eq k) es) o
    (with_coef k v ∷ take (n - 1) es)) (entry_none (key_eq k) es h))

-- a put of a new key
pub put-anew : (es : List (SeriesKey × Coef)) (n : ℕ) (k : SeriesKey) (v : Coef) → has es k ≡ false
    → with_coef k v ∷ take (n - 1) es ≡ put_entries key_eq es n k v
put-anew es n k v new = put-missing es n k v (none_from_is_some (lookup (key_eq k) es) new)

-- a new key is new among the first pairs too
pub new-taken : (es fs : List (SeriesKey × Coef)) (n : ℕ) (k : SeriesKey) → has es k ≡ false → fs ≡ take n es → has fs k ≡ false
new-taken es fs n k new is = ap (λ l. has l k) is ∙ ap is_some
    (lookup-take-none (key_eq k) n es (none_from_is_some (lookup (key_eq k) es) new))

-- what is put again
pub put-again : (es : List (SeriesKey × Coef)) (n : ℕ) (k : SeriesKey) (v : Coef) → has es k ≡ true
    → with_coef k v ∷ remove_entry (key_eq k) es ≡ cond (has es k) (put_entries key_eq es n k v) es
put-again es n k v h = put-there es n k v h ∙ sym (ap (λ b. cond b (put_entries key_eq es n k v) es) h)

module _ (ps : List (Option (SeriesKey × Coef))) where
  -- one more of the last puts is the needed pair of its place
  pub front-more : (front series : ℕ) (needed : List (Key × Coef)) (i : ℕ) (d : Key × Coef) (e : SeriesKey × Coef) → i < length needed
      → get_or ps (front + i) None ≡ Some e → e ≡ (series_key series (get_or needed i d).0, (get_or needed i d).1)
      → shown (take i (drop front ps)) ≡ in_series series (take i needed)
      → shown (take (i + 1) (drop front ps)) ≡ in_series series (take (i + 1) needed)
  front-more front series needed i d e within at is was =
      let here : get_or (drop front ps) i None ≡ Some e = get_or-drop front ps i None ∙ at in
      let less : i < length (drop front ps) = held-within (drop front ps) i e here in
      ap shown (take_more (drop front ps) i None less ∙ ap (λ (o : Option (SeriesKey × Coef)). take i (drop front ps) ++ o ∷ []) here)
      ∙ shown-append (take i (drop front ps)) (Some e ∷ [])
      ∙ (λ j. was j ++ is j ∷ [])
      ∙ sym (in_series-more series needed i d within)

  -- so the needed pairs are in front
  pub front-all : (front series : ℕ) (needed : List (Key × Coef)) (i : ℕ) → front ≡ length ps - length needed → length needed ≤ length ps
      → i ≡ length needed
      → shown (take i (drop front ps)) ≡ in_series series (take i needed) → IsInFront (reverse (shown ps)) series needed
  front-all front series needed i begins fits all was =
      let size : length (drop front ps) ≡ length needed = omega (arith, length-drop front ps, begins, fits) in
      let behind : shown (drop front ps) ≡ in_series series needed =
      ap shown (sym (take_all i (drop front ps) (omega (arith, size, all)))) ∙ was
      ∙ ap (in_series series) (take_all i needed (omega (arith, all))) in
      record {
        rest = reverse (shown (take front ps));
        is = ap reverse (ap shown (sym (take-append-drop front ps)) ∙ shown-append (take front ps) (drop front ps)
            ∙ ap (λ l. shown (take front ps) ++ l) behind)
            ∙ reverse-append (shown (take front ps)) (in_series series needed);
      }

  -- one more of the pairs stands in front of a packed list
  pub packed-more : (i : ℕ) (e : SeriesKey × Coef) → get_or ps i None ≡ Some e
      → e ∷ reverse (shown (take i ps)) ≡ reverse (shown (take (i + 1) ps))
  packed-more i e at = sym (ap (λ l. reverse (shown l)) (take_more ps i None (held-within ps i e at)
      ∙ ap (λ (o : Option (SeriesKey × Coef)). take i ps ++ o ∷ []) at) ∙ pushed (take i ps) e)

  -- its key isn't there yet
  pub packed-new : (i : ℕ) (e : SeriesKey × Coef) → IsDistinct key_eq (keys_of (shown ps)) → get_or ps i None ≡ Some e
      → has (reverse (shown (take i ps))) e.0 ≡ false
  packed-new i e apart at =
      let front = shown (take i ps) in
      let rest = shown (drop (suc i) ps) in
      let split : shown ps ≡ front ++ (e ∷ rest) = shown-split ps i e at in
      has-reverse (key_eq e.0) front ∙ past front (e ∷ rest) e.0
      (subst (λ (l : List (SeriesKey × Coef)). IsDistinct key_eq (keys_of l)) split apart) (there [] e rest)

  -- there is room for it
  pub packed-room : (i capacity : ℕ) (e : SeriesKey × Coef) → get_or ps i None ≡ Some e → length (shown ps) ≤ capacity
      → length (reverse (shown (take i ps))) < capacity
  packed-room i capacity e at within =
      let front = shown (take i ps) in
      let rest = shown (drop (suc i) ps) in
      omega (arith, ap length (shown-split ps i e at), length-append front (e ∷ rest), length-reverse front, within)

  -- an empty place adds nothing
  pub packed-same : (i : ℕ) → i < length ps → get_or ps i None ≡ None → reverse (shown (take i ps)) ≡ reverse (shown (take (i + 1) ps))
  packed-same i less at =
      sym (ap (λ l. reverse (shown l)) (take_more ps i None less ∙ ap (λ (o : Option (SeriesKey × Coef)). take i ps ++ o ∷ []) at)
      ∙ ap reverse (shown-append (take i ps) (None ∷ []) ∙ append-nil (shown (take i ps))))
