-- The list of the sums.
use Rattle.std.proofs.Common.{◌≡◌, ℕ, zero, suc, ℤ, pos, negsuc, ◌+◌, ◌+ℤ◌, ◌*ℤ◌, List, [], ◌∷◌, length, Option, None, Some, arith, refl}
use Rattle.std.proofs.Common.{sym, ◌∙◌, ap, ap₂, subst}
use Rattle.std.specs.Prelude.{slice_get, unwrap_or}
use Rattle.std.specs.Option.{option_map}
use Rattle.std.proofs.lemmas.Option.{same_Some}
use Rattle.om3_coeff.specs.Spans.{Holds}
use Rattle.derived_chart.specs.declared.sum.Sum.{Sum}
use Rattle.derived_chart.specs.Lists.{value_at, sum_at, sums_from, sums_of}
use Rattle.derived_chart.specs.Sums.{HoldsAt, Adds, AreSums}

-- what stands at a place
flat : (o : Option (Option ℤ)) (v : ℤ) → unwrap_or o None ≡ Some v → o ≡ Some (Some v)
flat None v h = absurd (cc)
flat (Some x) v h = ap (λ z. Some z) h

at_place : (list : List (Option ℤ)) (place v : ℤ) → value_at list place ≡ Some v → HoldsAt list place v
at_place list (pos i) v h = record { slot = i; here = refl; holds = flat (slice_get list i) v h }
at_place list (negsuc i) v h = absurd (cc)

place_at : (list : List (Option ℤ)) (place v : ℤ) → HoldsAt list place v → value_at list place ≡ Some v
place_at list place v h =
    let P : ℤ → Type 0 = λ z. value_at list z ≡ Some v in
    let here : value_at list (pos h.slot) ≡ Some v = ap (λ o. unwrap_or o None) h.holds in
    subst P h.here here

-- a number that was added is the one number
mapped : (f : ℤ → ℤ) (o : Option ℤ) (v : ℤ) → option_map f o ≡ Some v → (y : ℤ) × (o ≡ Some y) × (v ≡ f y)
mapped f None v h = absurd (cc)
mapped f (Some y) v h = (y, refl, sym (same_Some (f y) v h))

adds_here : (sum : Sum) (xs ys : List (Option ℤ)) (i : ℕ) (v : ℤ) (o : Option ℤ) → slice_get xs i ≡ Some o → sum_at sum ys i o ≡ Some v
    → Adds sum xs ys i v
adds_here sum xs ys i v None there is = absurd (cc)
adds_here sum xs ys i v (Some x) there is =
    let found = mapped (λ y. sum.a *ℤ x +ℤ sum.b *ℤ y) (value_at ys (pos i +ℤ sum.shift)) v is in
    record {
      x = x;
      y = found.0;
      first = there;
      second = at_place ys (pos i +ℤ sum.shift) found.0 found.1;
      is = found.2;
    }

here_adds : (sum : Sum) (xs ys : List (Option ℤ)) (i : ℕ) (v : ℤ) (adds : Adds sum xs ys i v) → sum_at sum ys i (Some adds.x) ≡ Some v
here_adds sum xs ys i v adds =
    ap (option_map (λ y. sum.a *ℤ adds.x +ℤ sum.b *ℤ y)) (place_at ys (pos i +ℤ sum.shift) adds.y adds.second)
    ∙ ap (λ z. Some z) (sym adds.is)

-- the slots of the list of sums
length_from : (sum : Sum) (ys : List (Option ℤ)) (n : ℕ) (xs : List (Option ℤ)) → length (sums_from sum ys n xs) ≡ length xs
unfolding sums_from
length_from sum ys n [] = refl
length_from sum ys n (x ∷ xs) = ap suc (length_from sum ys (n + 1) xs)

slot_from : (sum : Sum) (ys : List (Option ℤ)) (n : ℕ) (xs : List (Option ℤ)) (i : ℕ)
    → slice_get (sums_from sum ys n xs) i ≡ option_map (sum_at sum ys (n + i)) (slice_get xs i)
unfolding sums_from
slot_from sum ys n [] i = refl
slot_from sum ys n (x ∷ xs) zero = let e : n ≡ n + 0 = omega arith in ap (λ m. Some (sum_at sum ys m x)) e
slot_from sum ys n (x ∷ xs) (suc i) =
    let e : (n + 1) + i ≡ n + suc i = omega arith in
    slot_from sum ys (n + 1) xs i ∙ ap (λ m. option_map (sum_at sum ys m) (slice_get xs i)) e

found_at : {A B : Type 0} (f : A → B) (o : Option A) (v : B) → option_map f o ≡ Some v → (x : A) × (o ≡ Some x) × (f x ≡ v)
found_at f None v h = absurd (cc)
found_at f (Some x) v h = (x, refl, same_Some (f x) v h)

zero_add : (i : ℕ) → 0 + i ≡ i
zero_add i = omega arith

forth : (sum : Sum) (xs ys : List (Option ℤ)) (i : ℕ) (v : ℤ) → Holds (sums_of sum xs ys) i v → Adds sum xs ys i v
forth sum xs ys i v holds =
    let found = found_at (sum_at sum ys (0 + i)) (slice_get xs i) (Some v) (sym (slot_from sum ys 0 xs i) ∙ holds) in
    adds_here sum xs ys i v found.0 found.1 (ap (λ m. sum_at sum ys m found.0) (sym (zero_add i)) ∙ found.2)

back : (sum : Sum) (xs ys : List (Option ℤ)) (i : ℕ) (v : ℤ) → Adds sum xs ys i v → Holds (sums_of sum xs ys) i v
back sum xs ys i v adds =
    slot_from sum ys 0 xs i ∙ ap (option_map (sum_at sum ys (0 + i))) adds.first
    ∙ ap (λ m. Some (sum_at sum ys m (Some adds.x))) (zero_add i) ∙ ap (λ z. Some z) (here_adds sum xs ys i v adds)

pub sums_are : (sum : Sum) (xs ys : List (Option ℤ)) → AreSums sum xs ys (sums_of sum xs ys)
sums_are sum xs ys = record { same = length_from sum ys 0 xs; each = λ i v. (forth sum xs ys i v, back sum xs ys i v) }

-- lists of one length that hold the same are the same
same_slot : (o p : Option ℤ) → ((v : ℤ) → o ≡ Some v → p ≡ Some v) → ((v : ℤ) → p ≡ Some v → o ≡ Some v) → o ≡ p
same_slot None None to from = refl
same_slot None (Some v) to from = from v refl
same_slot (Some v) p to from = sym (to v refl)

same_list : (vs ws : List (Option ℤ)) → length vs ≡ length ws → ((i : ℕ) (v : ℤ) → Holds vs i v → Holds ws i v)
    → ((i : ℕ) (v : ℤ) → Holds ws i v → Holds vs i v) → vs ≡ ws
same_list [] [] len to from = refl
same_list [] (w ∷ ws) len to from = absurd (omega (arith, len))
same_list (v ∷ vs) [] len to from = absurd (omega (arith, len))
same_list (v ∷ vs) (w ∷ ws) len to from =
    ap₂ (λ h t. h ∷ t)
    (same_slot v w (λ x is. same_Some w (Some x) (to 0 x (ap (λ z. Some z) is)))
    (λ x is. same_Some v (Some x) (from 0 x (ap (λ z. Some z) is))))
    (same_list vs ws (omega (arith, len)) (λ i x. to (suc i) x) (λ i x. from (suc i) x))

pub sums_same : (sum : Sum) (xs ys sums : List (Option ℤ)) → AreSums sum xs ys sums → sums ≡ sums_of sum xs ys
sums_same sum xs ys sums are =
    let is = sums_are sum xs ys in
    same_list sums (sums_of sum xs ys) (are.same ∙ sym is.same) (λ i v holds. (is.each i v).1 ((are.each i v).0 holds))
    (λ i v holds. (are.each i v).1 ((is.each i v).0 holds))
