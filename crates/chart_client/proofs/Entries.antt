-- A key's coefficient in a list that is in order.
use Rattle.std.proofs.Common.{ℕ, suc, ◌≡◌, ◌≢◌, ◌+◌, ◌<◌, ◌≤◌, inl, inr, Bool, true, false, cond, List, [], ◌∷◌, length, get_or, refl, sym}
use Rattle.std.proofs.Common.{◌∙◌, ap₂, subst, arith, pos}
use Rattle.std.proofs.lemmas.Bool.{cases_lt}
use Rattle.std.proofs.lemmas.List.{get_or_default}
use Rattle.std.specs.Prelude.{Option, Some, None, AllPairs}
use Rattle.std.specs.Option.{option_or}
use Rattle.om3_coeff.specs.declared.key.Key.{Key}
use Rattle.om3_coeff.specs.declared.coef.Coef.{Coef}
use Rattle.om3_coeff.proofs.KeyLemmas.{same_key}
use Rattle.coefficient_cache.specs.Pairs.{series_key, key_eq, in_series, coefficient_at}
use Rattle.coefficient_cache.specs.Views.{AreDistinct}
use Rattle.coefficient_cache.specs.Caches.{Cache}
use Rattle.coefficient_cache.proofs.Keys.{key_from, key_exact}
use Rattle.coefficient_cache.proofs.Finds.{or_else, lookup-append}
use Rattle.coefficient_cache.proofs.Given.{found-needed}
use Rattle.chart_frames.specs.Frames.{Precedes}
use Rattle.view_keys.specs.Listed.{ComesBefore}
use Rattle.view_keys.proofs.Orders.{not_itself, before_on}
use Rattle.chart_client.specs.HeldNodes.{sent_for, held_told}
use Rattle.chart_client.specs.Looking.{Narrowed}

-- a coefficient that stands before another one
precedes_before : (a b : Key × Coef) → Precedes a b → ComesBefore a.0 b.0
precedes_before a b (inl lower) = inl lower
precedes_before a b (inr less) = inr (sym less.0, less.1)

pub same_or_apart : (a b : Key) → (ComesBefore a b → ⊥) → (ComesBefore b a → ⊥) → a ≡ b
same_or_apart a b forth back = elim (cases_lt b.level a.level) [
  | inl less ↦ absurd (forth (inl less))
  | inr low ↦ elim (cases_lt a.level b.level) [
    | inl less ↦ absurd (back (inl less))
    | inr high ↦
        (let levels : a.level ≡ b.level = omega (arith, low, high) in
        elim (cases_lt a.index b.index) [
          | inl less ↦ absurd (forth (inr (levels, less)))
          | inr few ↦ elim (cases_lt b.index a.index) [
            | inl less ↦ absurd (back (inr (sym levels, less)))
            | inr many ↦ same_key a b levels (omega (arith, few, many))
          ]
        ])
  ]
]

-- no two keys of a list in order are the same
pub distinct_in_order : (list : List (Key × Coef)) → AllPairs Precedes list → AreDistinct list
distinct_in_order list order i j d less within = λ same.
    not_itself (get_or list j d).0 (subst (λ (k : Key). ComesBefore k (get_or list j d).0) same
    (precedes_before (get_or list i d) (get_or list j d) (order i j d less within)))

abbrev pub no_entry : Key × Coef
no_entry = (record { level = 0; index = 0 }, record { left = false; right = false; dmin = pos 0; dmax = pos 0 })

pub not_both : (b : Bool) → b ≡ true → b ≡ false → ⊥
not_both b is is_not = let e : true ≡ false = sym is ∙ is_not in cc

-- where nothing was compared yet
pub narrowed_none : (list : List (Key × Coef)) (key : Key) → Narrowed list key 0 (length list)
narrowed_none list key = record {
  order = omega arith;
  within = omega arith;
  before = λ i d low. absurd (omega (arith, low));
  behind = λ i d more within. absurd (omega (arith, more, within));
}

pub narrowed_up : (list : List (Key × Coef)) (key : Key) (from to middle next : ℕ) (x : Key × Coef) → AllPairs Precedes list
    → Narrowed list key from to
    → middle < to → next ≡ middle + 1 → x ≡ get_or list middle x → ComesBefore x.0 key → Narrowed list key next to
narrowed_up list key from to middle next x order h less is at before = record {
  order = omega (arith, less, is);
  within = h.within;
  before = λ i d low.
      let here : get_or list middle d ≡ x = get_or_default list middle d x (omega (arith, less, h.within)) ∙ sym at in
      let mid : ComesBefore (get_or list middle d).0 key = subst (λ (e : Key × Coef). ComesBefore e.0 key) (sym here) before in
      elim (cases_lt i middle) [
        | inl under ↦ before_on (get_or list i d).0 (get_or list middle d).0 key
            (precedes_before (get_or list i d) (get_or list middle d) (order i middle d under (omega (arith, less, h.within)))) mid
        | inr over ↦
            (let same : middle ≡ i = omega (arith, over, low, is) in
            subst (λ (j : ℕ). ComesBefore (get_or list j d).0 key) same mid)
      ];
  behind = h.behind;
}

pub narrowed_down : (list : List (Key × Coef)) (key : Key) (from to middle : ℕ) (x : Key × Coef) → AllPairs Precedes list
    → Narrowed list key from to
    → from ≤ middle → middle < to → x ≡ get_or list middle x → (ComesBefore x.0 key → ⊥) → Narrowed list key from middle
narrowed_down list key from to middle x order h low less at behind = record {
  order = low;
  within = omega (arith, less, h.within);
  before = h.before;
  behind = λ i d more within before.
      let here : get_or list middle d ≡ x = get_or_default list middle d x (omega (arith, less, h.within)) ∙ sym at in
      let mid : ComesBefore (get_or list middle d).0 key → ⊥ = subst (λ (e : Key × Coef). ComesBefore e.0 key → ⊥) (sym here) behind in
      elim (cases_lt middle i) [
        | inl under ↦ mid (before_on (get_or list middle d).0 (get_or list i d).0 key
            (precedes_before (get_or list middle d) (get_or list i d) (order middle i d under within)) before)
        | inr over ↦
            (let same : i ≡ middle = omega (arith, over, more) in
            mid (subst (λ (j : ℕ). ComesBefore (get_or list j d).0 key) same before))
      ];
}

-- an entry is the key's
pub entry_found : (series : ℕ) (list : List (Key × Coef)) (key : Key) (middle : ℕ) (x : Key × Coef) → AllPairs Precedes list
    → middle < length list
    → x ≡ get_or list middle x → (ComesBefore x.0 key → ⊥) → (ComesBefore key x.0 → ⊥) → Some x.1 ≡ sent_for series list key
entry_found series list key middle x order within at forth back =
    let same : x.0 ≡ key = same_or_apart x.0 key forth back in
    let found : sent_for series list (get_or list middle x).0 ≡ Some (get_or list middle x).1 =
    found-needed series list middle x (distinct_in_order list order) within in
    sym (subst (λ (k : Key). sent_for series list k ≡ Some x.1) same
    (subst (λ (e : Key × Coef). sent_for series list e.0 ≡ Some e.1) (sym at) found))

missed : (series : ℕ) (list : List (Key × Coef)) (key : Key) → ((i : ℕ) (d : Key × Coef) → i < length list → (get_or list i d).0 ≢ key)
    → sent_for series list key ≡ None
missed series [] key apart = refl
missed series (e ∷ es) key apart =
    let rest : sent_for series es key ≡ None = missed series es key (λ i d within. apart (suc i) d (omega (arith, within))) in
    let first : e.0 ≢ key = apart 0 e (omega arith) in
    elim (key_eq (series_key series key) (series_key series e.0)) as
    (λ (b : Bool). key_eq (series_key series key) (series_key series e.0) ≡ b → cond b (Some e.1) (sent_for series es key) ≡ None) [
      | true ↦ λ same. absurd (first (sym (key_from series key e.0 (key_exact (series_key series key) (series_key series e.0) same))))
      | false ↦ λ other. rest
    ] refl

-- no entry is the key's where all come before it
pub none_left : (series : ℕ) (list : List (Key × Coef)) (key : Key) (from to : ℕ) → Narrowed list key from to → from ≡ length list
    → None ≡ sent_for series list key
none_left series list key from to h all =
    sym (missed series list key (λ i d within. λ same.
    not_itself key (subst (λ (k : Key). ComesBefore k key) same (h.before i d (omega (arith, within, all))))))

-- no entry is the key's where the first one that doesn't come before it is behind it
pub none_found : (series : ℕ) (list : List (Key × Coef)) (key : Key) (from to : ℕ) (x : Key × Coef) → AllPairs Precedes list
    → Narrowed list key from to
    → from < length list → x ≡ get_or list from x → ComesBefore key x.0 → None ≡ sent_for series list key
none_found series list key from to x order h inside at behind =
    sym (missed series list key (λ i d within. λ same.
    let here : get_or list from d ≡ x = get_or_default list from d x inside ∙ sym at in
    let mid : ComesBefore key (get_or list from d).0 = subst (λ (e : Key × Coef). ComesBefore key e.0) (sym here) behind in
    elim (cases_lt i from) [
      | inl low ↦ not_itself key (subst (λ (k : Key). ComesBefore k key) same (h.before i d low))
      | inr high ↦ elim (cases_lt from i) [
        | inl under ↦ not_itself key (subst (λ (k : Key). ComesBefore key k) same
            (before_on key (get_or list from d).0 (get_or list i d).0 mid
            (precedes_before (get_or list from d) (get_or list i d) (order from i d under within))))
        | inr over ↦
            (let at_it : from ≡ i = omega (arith, over, high) in
            not_itself key (subst (λ (k : Key). ComesBefore key k) same (subst (λ (j : ℕ). ComesBefore key (get_or list j d).0) at_it mid)))
      ]
    ]))

either_same : (o p : Option Coef) → option_or o p ≡ or_else o p
either_same None p = refl
either_same (Some c) p = refl

-- what is sent comes before what is held
pub told_either : (series : ℕ) (sent : List (Key × Coef)) (cache : Cache) (key : Key) (o p r : Option Coef) → r ≡ option_or o p
    → o ≡ sent_for series sent key → p ≡ coefficient_at cache.pairs (series_key series key) → r ≡ held_told series sent cache key
told_either series sent cache key o p r is sent_is held_is =
    is ∙ ap₂ (λ (x y : Option Coef). option_or x y) sent_is held_is
    ∙ either_same (sent_for series sent key) (coefficient_at cache.pairs (series_key series key))
    ∙ sym (lookup-append (key_eq (series_key series key)) (in_series series sent) cache.pairs)
