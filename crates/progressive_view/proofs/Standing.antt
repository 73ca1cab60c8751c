-- Where a key stands in a list in order.
use Rattle.std.proofs.Common.{ℕ, zero, suc, ◌≡◌, ◌+◌, ◌<◌, ◌≤◌, inl, inr, Bool, true, false, cond, List, [], ◌∷◌, length, get_or, sym, ap}
use Rattle.std.proofs.Common.{◌∙◌, subst, arith}
use Rattle.std.proofs.lemmas.Bool.{cases_lt}
use Rattle.std.proofs.lemmas.Bool.Decides.{nat_tests}
use Rattle.std.proofs.lemmas.List.{get_or_default}
use Rattle.std.specs.Prelude.{AllPairs}
use Rattle.om3_coeff.specs.declared.key.Key.{Key}
use Rattle.om3_coeff.specs.declared.coef.Coef.{Coef}
use Rattle.chart_frames.specs.Frames.{Precedes}
use Rattle.view_keys.specs.Listed.{ComesBefore}
use Rattle.view_keys.proofs.Orders.{before_on}
use Rattle.progressive_view.specs.Places.{IsPlace, precedes, place_in}

-- an entry that stands before another one comes before it
pub in-order : (a b : Key × Coef) → Precedes a b → ComesBefore a.0 b.0
in-order a b (inl lower) = inl lower
in-order a b (inr less) = inr (sym less.0, less.1)

-- a search among the entries has come so far
pub record Narrowed (list : List (Key × Coef)) (key : Key) (from to : ℕ) : Type 0 where
  pub order : from ≤ to
  pub within : to ≤ length list
  pub before : (i : ℕ) (d : Key × Coef) → i < from → ComesBefore (get_or list i d).0 key
  pub behind : (i : ℕ) (d : Key × Coef) → to ≤ i → i < length list → ComesBefore (get_or list i d).0 key → ⊥

pub narrowed-up : (list : List (Key × Coef)) (key : Key) (from to middle next : ℕ) (x : Key × Coef) → AllPairs Precedes list
    → Narrowed list key from to
    → middle < to → next ≡ middle + 1 → x ≡ get_or list middle x → ComesBefore x.0 key → Narrowed list key next to
narrowed-up list key from to middle next x order h less is at before = record {
  order = omega (arith, less, is);
  within = h.within;
  before = λ i d low.
      let here : get_or list middle d ≡ x = get_or_default list middle d x (omega (arith, less, h.within)) ∙ sym at in
      let mid : ComesBefore (get_or list middle d).0 key = subst (λ (e : Key × Coef). ComesBefore e.0 key) (sym here) before in
      elim (cases_lt i middle) [
        | inl under ↦ before_on (get_or list i d).0 (get_or list middle d).0 key
            (in-order (get_or list i d) (get_or list middle d) (order i middle d under (omega (arith, less, h.within)))) mid
        | inr over ↦
            (let same : middle ≡ i = omega (arith, over, low, is) in
            subst (λ (j : ℕ). ComesBefore (get_or list j d).0 key) same mid)
      ];
  behind = h.behind;
}

pub narrowed-down : (list : List (Key × Coef)) (key : Key) (from to middle : ℕ) (x : Key × Coef) → AllPairs Precedes list
    → Narrowed list key from to
    → from ≤ middle → middle < to → x ≡ get_or list middle x → (ComesBefore x.0 key → ⊥) → Narrowed list key from middle
narrowed-down list key from to middle x order h low less at not = record {
  order = low;
  within = omega (arith, less, h.within);
  before = h.before;
  behind = λ i d more within before.
      let here : get_or list middle d ≡ x = get_or_default list middle d x (omega (arith, less, h.within)) ∙ sym at in
      let mid : ComesBefore (get_or list middle d).0 key = elim (cases_lt middle i) [
        | inl under ↦ before_on (get_or list middle d).0 (get_or list i d).0 key
            (in-order (get_or list middle d) (get_or list i d) (order middle i d under within)) before
        | inr over ↦
            (let same : i ≡ middle = omega (arith, over, more) in
            subst (λ (j : ℕ). ComesBefore (get_or list j d).0 key) same before)
      ] in
      not (subst (λ (e : Key × Coef). ComesBefore e.0 key) here mid);
}

pub narrowed-done : (list : List (Key × Coef)) (key : Key) (from to : ℕ) → Narrowed list key from to → to ≤ from → IsPlace list key from
narrowed-done list key from to h done = record {
  within = omega (arith, done, h.order, h.within);
  before = h.before;
  behind = λ i d more within. h.behind i d (omega (arith, done, more)) within;
}

-- the place as it is computed
lower-is : (a b : Key) → b.level < a.level → precedes a b ≡ true
unfolding precedes
lower-is a b h = grind (arith, nat_tests, h)

less-is : (a b : Key) → a.level ≡ b.level → a.index < b.index → precedes a b ≡ true
unfolding precedes
less-is a b e h = grind (arith, nat_tests, e, h)

higher-not : (a b : Key) → a.level < b.level → precedes a b ≡ false
unfolding precedes
higher-not a b h = grind (arith, nat_tests, h)

more-not : (a b : Key) → a.level ≡ b.level → b.index ≤ a.index → precedes a b ≡ false
unfolding precedes
more-not a b e h = grind (arith, nat_tests, e, h)

pub precedes-is : (a b : Key) → ComesBefore a b → precedes a b ≡ true
precedes-is a b (inl lower) = lower-is a b lower
precedes-is a b (inr less) = less-is a b less.0 less.1

pub precedes-not : (a b : Key) → (ComesBefore a b → ⊥) → precedes a b ≡ false
precedes-not a b not =
    elim (cases_lt b.level a.level) [
      | inl lower ↦ absurd (not (inl lower))
      | inr low ↦ elim (cases_lt a.level b.level) [
        | inl higher ↦ higher-not a b higher
        | inr high ↦
            (let same : a.level ≡ b.level = omega (arith, low, high) in
            elim (cases_lt a.index b.index) [
              | inl less ↦ absurd (not (inr (same, less)))
              | inr more ↦ more-not a b same more
            ])
      ]
    ]

pub cond-true : (b : Bool) (x y : ℕ) → b ≡ true → cond b x y ≡ x
cond-true b x y is = ap (λ (c : Bool). cond c x y) is

pub cond-false : (b : Bool) (x y : ℕ) → b ≡ false → cond b x y ≡ y
cond-false b x y is = ap (λ (c : Bool). cond c x y) is

pub place-is : (list : List (Key × Coef)) (k : Key) (p : ℕ) → IsPlace list k p → p ≡ place_in list k
place-is [] k p h = omega (arith, h.within)
place-is (e ∷ es) k zero h =
    sym (cond-false (precedes e.0 k) (suc (place_in es k)) 0 (precedes-not e.0 k (h.behind 0 e (omega arith) (omega arith))))
place-is (e ∷ es) k (suc p) h =
    let rest : p ≡ place_in es k = place-is es k p (record {
      within = omega (arith, h.within);
      before = λ i d low. h.before (suc i) d (omega (arith, low));
      behind = λ i d more within. h.behind (suc i) d (omega (arith, more)) (omega (arith, within));
    }) in
    ap suc rest ∙ sym (cond-true (precedes e.0 k) (suc (place_in es k)) 0 (precedes-is e.0 k (h.before 0 e (omega arith))))
