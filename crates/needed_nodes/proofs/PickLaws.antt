use Rattle.std.proofs.Common.{ℕ, zero, suc, ℤ, ◌≡◌, ◌+◌, ◌-◌, ◌<◌, ◌⊎◌, inl, inr, Bool, true, false, cond, List, [], ◌∷◌, length, refl, sym}
use Rattle.std.proofs.Common.{◌∙◌, ap, subst, arith}
use Rattle.std.proofs.lemmas.Option.{same_Some}
use Rattle.std.proofs.lemmas.List.Elements.{All-nil, All-cons, Contains-append_right}
use Rattle.std.specs.Prelude.{Option, Some, None, All, Contains, slice_get}
use Rattle.om3_coeff.specs.Spans.{Holds}

-- the stored values of those slots that pass a test, where the first slot of the list is slot n
abbrev pub picked : (ℕ → Bool) → ℕ → List (Option ℤ) → List ℤ
picked p n [] = []
picked p n (None ∷ xs) = picked p (n + 1) xs
picked p n (Some v ∷ xs) = cond (p n) (v ∷ picked p (n + 1) xs) (picked p (n + 1) xs)

pub bool_cases : (b : Bool) → (b ≡ true) ⊎ (b ≡ false)
bool_cases true = inl refl
bool_cases false = inr refl

-- the first slot, and the others
at_first : (p : ℕ → Bool) (n : ℕ) → p (n + 0) ≡ true → p n ≡ true
at_first p n h = let e : n ≡ n + 0 = omega arith in ap p e ∙ h

at_later : (p : ℕ → Bool) (n i : ℕ) → p (n + suc i) ≡ true → p ((n + 1) + i) ≡ true
at_later p n i h = let e : (n + 1) + i ≡ n + suc i = omega arith in ap p e ∙ h

later_at : (p : ℕ → Bool) (n i : ℕ) → p ((n + 1) + i) ≡ true → p (n + suc i) ≡ true
later_at p n i h = let e : n + suc i ≡ (n + 1) + i = omega arith in ap p e ∙ h

first_at : (p : ℕ → Bool) (n : ℕ) → p n ≡ true → p (n + 0) ≡ true
first_at p n h = let e : n + 0 ≡ n = omega arith in ap p e ∙ h

same_value : (u v : ℤ) → Some (Some u) ≡ Some (Some v) → u ≡ v
same_value u v e = same_Some u v (same_Some (Some u) (Some v) e)

-- what holds of each value in such a slot
pub picked_all : (Q : ℤ → Type 0) (p : ℕ → Bool) (n : ℕ) (xs : List (Option ℤ)) → ((i : ℕ) (v : ℤ) → Holds xs i v → p (n + i) ≡ true → Q v)
    → All Q (picked p n xs)
picked_all Q p n [] each = All-nil Q
picked_all Q p n (None ∷ xs) each = picked_all Q p (n + 1) xs (λ i v holds on. each (suc i) v holds (later_at p n i on))
picked_all Q p n (Some u ∷ xs) each =
    let rest : All Q (picked p (n + 1) xs) = picked_all Q p (n + 1) xs (λ i v holds on. each (suc i) v holds (later_at p n i on)) in
    let P : Bool → Type 0 = λ b. All Q (cond b (u ∷ picked p (n + 1) xs) (picked p (n + 1) xs)) in
    elim (bool_cases (p n)) [
      | inl on ↦ subst P (sym on) (All-cons Q u (picked p (n + 1) xs) (each 0 u refl (first_at p n on)) rest)
      | inr off ↦ subst P (sym off) rest
    ]

-- a value in such a slot is among them
pub picked_among : (p : ℕ → Bool) (n : ℕ) (xs : List (Option ℤ)) (i : ℕ) (v : ℤ) → Holds xs i v → p (n + i) ≡ true
    → Contains (picked p n xs) v
picked_among p n [] i v holds on = absurd (cc)
picked_among p n (None ∷ xs) zero v holds on = absurd (cc)
picked_among p n (None ∷ xs) (suc i) v holds on = picked_among p (n + 1) xs i v holds (at_later p n i on)
picked_among p n (Some u ∷ xs) zero v holds on =
    let P : Bool → Type 0 = λ b. Contains (cond b (u ∷ picked p (n + 1) xs) (picked p (n + 1) xs)) v in
    let Q : ℤ → Type 0 = λ z. Contains (u ∷ picked p (n + 1) xs) z in
    let here : Contains (u ∷ picked p (n + 1) xs) u = (0, omega arith, refl) in
    subst P (sym (at_first p n on)) (subst Q (same_value u v holds) here)
picked_among p n (Some u ∷ xs) (suc i) v holds on =
    let rest : Contains (picked p (n + 1) xs) v = picked_among p (n + 1) xs i v holds (at_later p n i on) in
    let P : Bool → Type 0 = λ b. Contains (cond b (u ∷ picked p (n + 1) xs) (picked p (n + 1) xs)) v in
    elim (bool_cases (p n)) [
      | inl set ↦ subst P (sym set) (Contains-append_right (u ∷ []) (picked p (n + 1) xs) v rest)
      | inr unset ↦ subst P (sym unset) rest
    ]

pub picked_none : (p : ℕ → Bool) (n : ℕ) (xs : List (Option ℤ)) → ((i : ℕ) (v : ℤ) → Holds xs i v → p (n + i) ≡ true → ⊥)
    → picked p n xs ≡ []
picked_none p n [] none = refl
picked_none p n (None ∷ xs) none = picked_none p (n + 1) xs (λ i v holds on. none (suc i) v holds (later_at p n i on))
picked_none p n (Some u ∷ xs) none =
    let rest : picked p (n + 1) xs ≡ [] = picked_none p (n + 1) xs (λ i v holds on. none (suc i) v holds (later_at p n i on)) in
    elim (bool_cases (p n)) [
      | inl on ↦ absurd (none 0 u refl (first_at p n on))
      | inr off ↦ ap (λ b. cond b (u ∷ picked p (n + 1) xs) (picked p (n + 1) xs)) off ∙ rest
    ]

-- the first of them
pub picked_first : (p : ℕ → Bool) (n : ℕ) (xs : List (Option ℤ)) (i : ℕ) (v : ℤ) → Holds xs i v → p (n + i) ≡ true
    → ((j : ℕ) (u : ℤ) → j < i → Holds xs j u → p (n + j) ≡ true → ⊥) → slice_get (picked p n xs) 0 ≡ Some v
picked_first p n [] i v holds on none = absurd (cc)
picked_first p n (None ∷ xs) zero v holds on none = absurd (cc)
picked_first p n (None ∷ xs) (suc i) v holds on none =
    picked_first p (n + 1) xs i v holds (at_later p n i on)
    (λ j u before there set. none (suc j) u (omega arith) there (later_at p n j set))
picked_first p n (Some u ∷ xs) zero v holds on none =
    ap (λ b. slice_get (cond b (u ∷ picked p (n + 1) xs) (picked p (n + 1) xs)) 0) (at_first p n on)
    ∙ ap (λ z. Some z) (same_value u v holds)
picked_first p n (Some u ∷ xs) (suc i) v holds on none =
    let rest : slice_get (picked p (n + 1) xs) 0 ≡ Some v =
    picked_first p (n + 1) xs i v holds (at_later p n i on)
    (λ j w before there set. none (suc j) w (omega arith) there (later_at p n j set)) in
    elim (bool_cases (p n)) [
      | inl set ↦ absurd (none 0 u (omega arith) refl (first_at p n set))
      | inr unset ↦ ap (λ b. slice_get (cond b (u ∷ picked p (n + 1) xs) (picked p (n + 1) xs)) 0) unset ∙ rest
    ]

-- the last of them
last_more : (u v : ℤ) (ys : List ℤ) → slice_get ys (length ys - 1) ≡ Some v → slice_get (u ∷ ys) (length (u ∷ ys) - 1) ≡ Some v
last_more u v [] h = absurd (cc)
last_more u v (y ∷ ys) h =
    let outer : length (u ∷ y ∷ ys) - 1 ≡ suc (length ys) = omega arith in
    let inner : length ys ≡ length (y ∷ ys) - 1 = omega arith in
    ap (slice_get (u ∷ y ∷ ys)) outer ∙ ap (slice_get (y ∷ ys)) inner ∙ h

last_one : (u v : ℤ) (ys : List ℤ) → ys ≡ [] → u ≡ v → slice_get (u ∷ ys) (length (u ∷ ys) - 1) ≡ Some v
last_one u v ys none same =
    let one : length (u ∷ []) - 1 ≡ 0 = omega arith in
    ap (λ zs. slice_get (u ∷ zs) (length (u ∷ zs) - 1)) none ∙ ap (slice_get (u ∷ [])) one ∙ ap (λ z. Some z) same

pub picked_last : (p : ℕ → Bool) (n : ℕ) (xs : List (Option ℤ)) (i : ℕ) (v : ℤ) → Holds xs i v → p (n + i) ≡ true
    → ((j : ℕ) (u : ℤ) → i < j → Holds xs j u → p (n + j) ≡ true → ⊥) → slice_get (picked p n xs) (length (picked p n xs) - 1) ≡ Some v
picked_last p n [] i v holds on none = absurd (cc)
picked_last p n (None ∷ xs) zero v holds on none = absurd (cc)
picked_last p n (None ∷ xs) (suc i) v holds on none =
    picked_last p (n + 1) xs i v holds (at_later p n i on) (λ j u behind there set. none (suc j) u (omega arith) there (later_at p n j set))
picked_last p n (Some u ∷ xs) zero v holds on none =
    let rest : picked p (n + 1) xs ≡ [] = picked_none p (n + 1) xs
    (λ j w there set. none (suc j) w (omega arith) there (later_at p n j set)) in
    let P : Bool → Type 0 = λ b. slice_get (cond b (u ∷ picked p (n + 1) xs) (picked p (n + 1) xs))
    (length (cond b (u ∷ picked p (n + 1) xs) (picked p (n + 1) xs)) - 1) ≡ Some v in
    subst P (sym (at_first p n on)) (last_one u v (picked p (n + 1) xs) rest (same_value u v holds))
picked_last p n (Some u ∷ xs) (suc i) v holds on none =
    let rest : slice_get (picked p (n + 1) xs) (length (picked p (n + 1) xs) - 1) ≡ Some v =
    picked_last p (n + 1) xs i v holds (at_later p n i on)
    (λ j w behind there set. none (suc j) w (omega arith) there (later_at p n j set)) in
    let P : Bool → Type 0 = λ b. slice_get (cond b (u ∷ picked p (n + 1) xs) (picked p (n + 1) xs))
    (length (cond b (u ∷ picked p (n + 1) xs) (picked p (n + 1) xs)) - 1) ≡ Some v in
    elim (bool_cases (p n)) [
      | inl set ↦ subst P (sym set) (last_more u v (picked p (n + 1) xs) rest)
      | inr unset ↦ subst P (sym unset) rest
    ]
