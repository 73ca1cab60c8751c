-- The order of keys, and that ordered lists of the same keys and coefficients are one.
use Rattle.std.proofs.Common.{zero, suc, ◌≡◌, ◌⊎◌, inl, inr, List, [], ◌∷◌, All, Contains, Option, Some, refl, sym, ap, ◌∙◌, subst, arith}
use Rattle.std.proofs.lemmas.List.Elements.{All-head, All-tail}
use Rattle.om3_coeff.specs.declared.key.Key.{Key}
use Rattle.om3_coeff.specs.declared.coef.Coef.{Coef}
use Rattle.view_keys.specs.Listed.{ComesBefore, AreInOrder, keys_of, IsListOf}

-- no key comes before itself, and no two come before one another
pub not_itself : (k : Key) → ComesBefore k k → ⊥
not_itself k (inl h) = absurd (omega (arith, h))
not_itself k (inr h) = absurd (omega (arith, h.1))

neither : (a b : Key) → ComesBefore a b → ComesBefore b a → ⊥
neither a b (inl h) (inl g) = absurd (omega (arith, h, g))
neither a b (inl h) (inr g) = absurd (omega (arith, h, g.0))
neither a b (inr h) (inl g) = absurd (omega (arith, h.0, g))
neither a b (inr h) (inr g) = absurd (omega (arith, h.1, g.1))

pub before_on : (a b c : Key) → ComesBefore a b → ComesBefore b c → ComesBefore a c
before_on a b c (inl x) (inl y) = inl (omega (arith, x, y))
before_on a b c (inl x) (inr y) = inl (omega (arith, x, y.0))
before_on a b c (inr x) (inl y) = inl (omega (arith, x.0, y))
before_on a b c (inr x) (inr y) = inr (omega (arith, x.0, y.0), omega (arith, x.1, y.1))

-- an element of a list is its head or among its tail
head_or_tail : (x k : Key) (xs : List Key) → Contains (x ∷ xs) k → (x ≡ k) ⊎ Contains xs k
head_or_tail x k xs (zero, low, is) = inl is
head_or_tail x k xs (suc i, low, is) = inr (i, omega (arith, low), is)

at_head : (x : Key) (xs : List Key) → Contains (x ∷ xs) x
at_head x xs = (0, omega arith, refl)

in_tail : (x k : Key) (xs : List Key) → Contains xs k → Contains (x ∷ xs) k
in_tail x k xs (i, low, is) = (suc i, omega (arith, low), is)

-- all later keys come behind
behind : (e : Key × Coef) (es : List (Key × Coef)) (k : Key) → AreInOrder (e ∷ es) → Contains (keys_of es) k → ComesBefore e.0 k
behind e [] k order among = absurd (omega (arith, among.1))
behind e (f ∷ fs) k order among =
    elim (head_or_tail f.0 k (keys_of fs) among) [
      | inl is ↦ subst (λ (j : Key). ComesBefore e.0 j) is (All-head (λ later. ComesBefore e.0 later.0) f fs order.0)
      | inr later ↦ behind e fs k (All-tail (λ later. ComesBefore e.0 later.0) f fs order.0, order.1.1) later
    ]

abbrev SameKeys : List (Key × Coef) → List (Key × Coef) → Type 0
SameKeys a b = (k : Key) → (Contains (keys_of a) k → Contains (keys_of b) k) × (Contains (keys_of b) k → Contains (keys_of a) k)

heads : (x y : Key × Coef) (xs ys : List (Key × Coef)) → AreInOrder (x ∷ xs) → AreInOrder (y ∷ ys) → SameKeys (x ∷ xs) (y ∷ ys) → x.0 ≡ y.0
heads x y xs ys ox oy same =
    elim (head_or_tail y.0 x.0 (keys_of ys) ((same x.0).0 (at_head x.0 (keys_of xs)))) [
      | inl is ↦ sym is
      | inr later ↦ elim (head_or_tail x.0 y.0 (keys_of xs) ((same y.0).1 (at_head y.0 (keys_of ys)))) [
        | inl is ↦ is
        | inr behind_x ↦ absurd (neither x.0 y.0 (behind x xs y.0 ox behind_x) (behind y ys x.0 oy later))
      ]
    ]

some_one : {a b : Coef} → ◌≡◌ {A = Option Coef} (Some a) (Some b) → a ≡ b
some_one h = cc

-- the tails of two lists with one head have the same keys
tail_keys : (x y : Key × Coef) (xs ys : List (Key × Coef)) → AreInOrder (x ∷ xs) → x.0 ≡ y.0
    → ((k : Key) → Contains (keys_of (x ∷ xs)) k → Contains (keys_of (y ∷ ys)) k)
    → (k : Key) → Contains (keys_of xs) k → Contains (keys_of ys) k
tail_keys x y xs ys ox is same k among =
    elim (head_or_tail y.0 k (keys_of ys) (same k (in_tail x.0 k (keys_of xs) among))) [
      | inr later ↦ later
      | inl head ↦ absurd (not_itself x.0 (subst (λ (j : Key). ComesBefore x.0 j) (sym (is ∙ head)) (behind x xs k ox among)))
    ]

pair_same : (x y : Key × Coef) → x.0 ≡ y.0 → x.1 ≡ y.1 → x ≡ y
pair_same x y k c = ap (λ j. (j, x.1)) k ∙ ap (λ d. (y.0, d)) c

told_same : (f : Key → Option Coef) (x y : Key × Coef) → x.0 ≡ y.0 → f x.0 ≡ Some x.1 → f y.0 ≡ Some y.1 → x.1 ≡ y.1
told_same f x y is fx fy = some_one (sym fx ∙ ap f is ∙ fy)

-- ordered lists of the same keys, each with the coefficient that f tells, are one
same_lists : (f : Key → Option Coef) (a b : List (Key × Coef)) → AreInOrder a → AreInOrder b → SameKeys a b
    → All (λ e. f e.0 ≡ Some e.1) a → All (λ e. f e.0 ≡ Some e.1) b → a ≡ b
same_lists f [] [] oa ob same fa fb = refl
same_lists f [] (y ∷ ys) oa ob same fa fb = absurd (omega (arith, ((same y.0).1 (at_head y.0 (keys_of ys))).1))
same_lists f (x ∷ xs) [] oa ob same fa fb = absurd (omega (arith, ((same x.0).0 (at_head x.0 (keys_of xs))).1))
same_lists f (x ∷ xs) (y ∷ ys) oa ob same fa fb =
    let P : Key × Coef → Type 0 = λ e. f e.0 ≡ Some e.1 in
    let is : x.0 ≡ y.0 = heads x y xs ys oa ob same in
    let head : x ≡ y = pair_same x y is (told_same f x y is (All-head P x xs fa) (All-head P y ys fb)) in
    let tail : xs ≡ ys = same_lists f xs ys oa.1 ob.1
    (λ k. (tail_keys x y xs ys oa is (λ j. (same j).0) k, tail_keys y x ys xs ob (sym is) (λ j. (same j).1) k))
    (All-tail P x xs fa) (All-tail P y ys fb) in
    ap (λ e. e ∷ xs) head ∙ ap (λ es. y ∷ es) tail

-- a key of a kind is among its list, and what is among it is of the kind
of_kind : (Kind : Key → Type 0) (es : List (Key × Coef)) (k : Key) → All (λ e. Kind e.0) es → Contains (keys_of es) k → Kind k
of_kind Kind [] k all among = absurd (omega (arith, among.1))
of_kind Kind (e ∷ es) k all among =
    elim (head_or_tail e.0 k (keys_of es) among) [
      | inl is ↦ subst Kind is (All-head (λ e. Kind e.0) e es all)
      | inr later ↦ of_kind Kind es k (All-tail (λ e. Kind e.0) e es all) later
    ]

-- two lists of all keys of a kind, with the coefficients that are told of them, are one
pub one_list : (Kind : Key → Type 0) (f : Key → Option Coef) (a b : List (Key × Coef)) → IsListOf Kind f a → IsListOf Kind f b → a ≡ b
one_list Kind f a b la lb =
    same_lists f a b la.order lb.order
    (λ k. (λ among. lb.all k (of_kind Kind a k la.each among), λ among. la.all k (of_kind Kind b k lb.each among)))
    la.coefs lb.coefs

-- what is told of the keys of a list
pub told_among : (f : Key → Option Coef) (es : List (Key × Coef)) (k : Key) (P : Key → Option Coef → Type 0)
    → All (λ e. f e.0 ≡ Some e.1) es → All (λ e. P e.0 (Some e.1)) es → Contains (keys_of es) k → P k (f k)
told_among f [] k P told all among = absurd (omega (arith, among.1))
told_among f (e ∷ es) k P told all among =
    elim (head_or_tail e.0 k (keys_of es) among) [
      | inl is ↦ subst (λ (j : Key). P j (f j)) is
          (subst (λ (o : Option Coef). P e.0 o) (sym (All-head (λ e. f e.0 ≡ Some e.1) e es told))
          (All-head (λ e. P e.0 (Some e.1)) e es all))
      | inr later ↦ told_among f es k P (All-tail (λ e. f e.0 ≡ Some e.1) e es told) (All-tail (λ e. P e.0 (Some e.1)) e es all) later
    ]

-- the lists of two kinds that are one, with coefficients that are told alike, are one
pub kinds_one : (A B : Key → Type 0) (f g : Key → Option Coef) (a b : List (Key × Coef)) → ((k : Key) → A k → B k) → ((k : Key) → B k → A k)
    → ((k : Key) → A k → g k ≡ f k) → IsListOf A f a → IsListOf B g b → a ≡ b
kinds_one A B f g a b to from alike la lb =
    same_lists f a b la.order lb.order
    (λ k. (λ among. lb.all k (to k (of_kind A a k la.each among)), λ among. la.all k (from k (of_kind B b k lb.each among))))
    la.coefs
    (λ i d low. sym (alike _ (from _ (lb.each i d low))) ∙ lb.coefs i d low)
