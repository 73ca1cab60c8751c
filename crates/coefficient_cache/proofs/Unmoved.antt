-- A list that has the needed pairs in front, in the order in which a view leaves them, stays as it is.
use Rattle.std.proofs.Common.{◌≡◌, ℕ, ◌≤◌, Bool, true, false, cond, not, ◌&&◌, ◌||◌, List, [], ◌∷◌, ◌++◌, length, take, reverse, Some}
use Rattle.std.proofs.Common.{is_some, refl, sym, ap, ◌∙◌, subst, append_assoc}
use Rattle.std.specs.List.{filter, IsDistinct}
use Rattle.std.specs.Map.{keys_of, lookup}
use Rattle.std.proofs.lemmas.List.{reverse-append, take_all}
use Rattle.std.proofs.lemmas.List.Elements.{filter-append}
use Rattle.std.proofs.lemmas.Bool.Decides.{Decides-and}
use Rattle.std.proofs.lemmas.Map.{lookup-none}
use Rattle.std.proofs.lemmas.Map.Keys.{IsDistinct-tail}
use Rattle.std.proofs.lemmas.Map.Entries.{none_past_head}
use Rattle.om3_coeff.specs.declared.key.Key.{Key}
use Rattle.om3_coeff.specs.declared.coef.Coef.{Coef}
use Rattle.coefficient_cache.specs.declared.series_key.SeriesKey.{SeriesKey}
use Rattle.coefficient_cache.specs.Pairs.{series_key, key_eq, coefficient_eq, in_series, has, holds}
use Rattle.coefficient_cache.specs.Views.{to_send, hits, news, others, renewed}
use Rattle.coefficient_cache.proofs.Keys.{key_laws, Decides-key_eq, Decides-coefficient_eq}
use Rattle.coefficient_cache.proofs.Finds.{or_else, none_from_is_some, lookup-append, has-append, has-cons, has-reverse}
use Rattle.coefficient_cache.proofs.Filtered.{filter-reverse}
use Rattle.coefficient_cache.proofs.Given.{held-found}

or-true : (a : Bool) → (a || true) ≡ true
or-true true = refl
or-true false = refl

-- a pair is found behind others
pub there : (xs : List (SeriesKey × Coef)) (e : SeriesKey × Coef) (ys : List (SeriesKey × Coef)) → has (xs ++ e ∷ ys) e.0 ≡ true
there xs e ys =
    has-append (key_eq e.0) xs (e ∷ ys)
    ∙ (λ i. has xs e.0 || (has-cons (key_eq e.0) e ys ∙ ap (λ b. b || has ys e.0) (key_laws.refl e.0)) i)
    ∙ or-true (has xs e.0)

-- where no two keys are the same, a key that stands behind isn't in front
pub past : (xs ys : List (SeriesKey × Coef)) (k : SeriesKey) → IsDistinct key_eq (keys_of (xs ++ ys)) → has ys k ≡ true → has xs k ≡ false
past [] ys k d h = refl
past (x ∷ xs) ys k d h =
    let on : has xs k ≡ false = past xs ys k (IsDistinct-tail key_eq x.0 (keys_of (xs ++ ys)) d) h in
    let found : has (xs ++ ys) k ≡ true = has-append (key_eq k) xs ys ∙ ap (λ b. has xs k || b) h ∙ or-true (has xs k) in
    has-cons (key_eq k) x xs
    ∙ (elim (key_eq k x.0) as (λ b. key_eq k x.0 ≡ b → (b || has xs k) ≡ false) [
      | true ↦ λ t. absurd (
          let none : has (xs ++ ys) k ≡ false = ap is_some
          (lookup-none (key_eq k) (xs ++ ys) (none_past_head key_laws k x (xs ++ ys) d t)) in
          let bad : true ≡ false = sym found ∙ none in cc)
      | false ↦ λ t. on
    ]) refl

-- it is found with its own value
found : (xs : List (SeriesKey × Coef)) (e : SeriesKey × Coef) (ys : List (SeriesKey × Coef)) → IsDistinct key_eq (keys_of (xs ++ e ∷ ys))
    → lookup (key_eq e.0) (xs ++ e ∷ ys) ≡ Some e.1
found xs e ys d =
    lookup-append (key_eq e.0) xs (e ∷ ys)
    ∙ ap (λ o. or_else o (lookup (key_eq e.0) (e ∷ ys)))
    (none_from_is_some (lookup (key_eq e.0) xs) (past xs (e ∷ ys) e.0 d (there [] e ys)))
    ∙ ap (λ b. cond b (Some e.1) (lookup (key_eq e.0) ys)) (key_laws.refl e.0)

-- one of the turned pairs is the first of what is behind them
pub turn : (e : SeriesKey × Coef) (xs ys : List (SeriesKey × Coef)) → reverse (e ∷ xs) ++ ys ≡ reverse xs ++ (e ∷ ys)
turn e xs ys = ap (λ l. l ++ ys) (reverse-append (e ∷ []) xs) ∙ append_assoc (reverse xs) (e ∷ []) ys

module _ (pairs : List (SeriesKey × Coef)) (apart : IsDistinct key_eq (keys_of pairs)) where
  -- of pairs that stand in front nothing is sent
  pub nothing-sent : (series : ℕ) (needed : List (Key × Coef)) (rest : List (SeriesKey × Coef))
      → pairs ≡ reverse (in_series series needed) ++ rest → to_send pairs series needed ≡ []
  nothing-sent series [] rest is = refl
  nothing-sent series (e ∷ es) rest is =
      let g : SeriesKey × Coef = (series_key series e.0, e.1) in
      let next = is ∙ turn g (in_series series es) rest in
      let held : holds pairs g ≡ true = held-found pairs g (ap (lookup (key_eq g.0)) next
      ∙ found (reverse (in_series series es)) g rest (subst (λ l. IsDistinct key_eq (keys_of l)) next apart)) in
      ap (λ b. cond (not b) (e ∷ to_send pairs series es) (to_send pairs series es)) held
      ∙ nothing-sent series es (g ∷ rest) next

  -- all of them are hits
  pub all-hits : (all rest : List (SeriesKey × Coef)) → pairs ≡ reverse all ++ rest → hits pairs all ≡ all
  all-hits [] rest is = refl
  all-hits (e ∷ es) rest is =
      let next = is ∙ turn e es rest in
      ap (λ b. cond b (e ∷ hits pairs es) (hits pairs es)) (ap (λ l. has l e.0) next ∙ there (reverse es) e rest)
      ∙ ap (λ l. e ∷ l) (all-hits es (e ∷ rest) next)

  pub no-news : (all rest : List (SeriesKey × Coef)) → pairs ≡ reverse all ++ rest → news pairs all ≡ []
  no-news [] rest is = refl
  no-news (e ∷ es) rest is =
      let next = is ∙ turn e es rest in
      ap (λ b. cond (not b) (e ∷ news pairs es) (news pairs es)) (ap (λ l. has l e.0) next ∙ there (reverse es) e rest)
      ∙ no-news es (e ∷ rest) next

-- no pair is other than all
own : (xs ys : List (SeriesKey × Coef)) → filter (λ e. not (has (xs ++ ys) e.0)) ys ≡ []
own xs [] = refl
own xs (y ∷ ys) =
    let q : SeriesKey × Coef → Bool = λ e. not (has (xs ++ y ∷ ys) e.0) in
    ap (λ b. cond (not b) (y ∷ filter q ys) (filter q ys)) (there xs y ys)
    ∙ ap (λ l. filter (λ e. not (has l e.0)) ys) (sym (append_assoc xs (y ∷ []) ys))
    ∙ own (xs ++ y ∷ []) ys

-- what stands behind is other than what stands in front
kept : (front xs ys : List (SeriesKey × Coef)) → IsDistinct key_eq (keys_of (front ++ (xs ++ ys)))
    → filter (λ e. not (has front e.0)) ys ≡ ys
kept front xs [] d = refl
kept front xs (y ∷ ys) d =
    let q : SeriesKey × Coef → Bool = λ e. not (has front e.0) in
    ap (λ b. cond (not b) (y ∷ filter q ys) (filter q ys)) (past front (xs ++ y ∷ ys) y.0 d (there xs y ys))
    ∙ ap (λ l. y ∷ l) (kept front (xs ++ y ∷ []) ys
    (subst (λ l. IsDistinct key_eq (keys_of (front ++ l))) (sym (append_assoc xs (y ∷ []) ys)) d))

pub rest-others : (all rest : List (SeriesKey × Coef)) → IsDistinct key_eq (keys_of (reverse all ++ rest))
    → others (reverse all ++ rest) all ≡ rest
rest-others all rest d =
    let q : SeriesKey × Coef → Bool = λ e. not (has all e.0) in
    filter-append q (reverse all) rest
    ∙ (λ i. (filter-reverse q all ∙ ap reverse (own [] all)) i ++ filter q rest)
    ∙ (λ i. filter (λ e. not (sym (has-reverse (key_eq e.0) all) i)) rest)
    ∙ kept (reverse all) [] rest d

-- the list after the view is the list before it
pub unmoved : (capacity : ℕ) (pairs all rest : List (SeriesKey × Coef)) → IsDistinct key_eq (keys_of pairs) → length pairs ≤ capacity
    → pairs ≡ reverse all ++ rest → renewed capacity pairs all ≡ pairs
unmoved capacity pairs all rest apart fits is =
    let behind : others pairs all ≡ rest = ap (λ l. others l all) is
    ∙ rest-others all rest (subst (λ l. IsDistinct key_eq (keys_of l)) is apart) in
    (λ i. take capacity (reverse (no-news pairs apart all rest is i) ++ reverse (all-hits pairs apart all rest is i) ++ behind i))
    ∙ ap (take capacity) (sym is)
    ∙ take_all capacity pairs fits

-- two pairs that are compared as equal are the same
pub same-pair : (k w : SeriesKey) (v u : Coef) (r : Bool) → r ≡ true → r ≡ (key_eq k w && coefficient_eq v u)
    → ◌≡◌ {A = SeriesKey × Coef} (k, v) (w, u)
same-pair k w v u r is told =
    let both = (Decides-and (key_eq k w) (coefficient_eq v u) (Decides-key_eq k w) (Decides-coefficient_eq v u)).0 (sym told ∙ is) in
    (λ i. (both.0 i, both.1 i))
