-- How often a number stands in a list.
use Rattle.std.proofs.Common.{◌≡◌, ◌≢◌, ℕ, zero, suc, ◌+◌, ◌<◌, ◌≤◌, Bool, true, false, cond, eqb, ltb, leb, ◌&&◌, List, [], ◌∷◌, ◌++◌}
use Rattle.std.proofs.Common.{length, refl, sym, ap, arith, inl, inr, ◌∙◌}
use Rattle.std.proofs.lemmas.Bool.{cases_lt, lt-ltb, le-ltb, le-leb, lt-leb, eq-eqb, ne_eqb}
use Rattle.std.proofs.lemmas.Bool.Decides.{eqb_tells}
use Rattle.page_space.specs.Layout.{IsGiven}
use Rattle.page_space.specs.Spaces.{times, once}

pub times_here : (p q : ℕ) (qs : List ℕ) → p ≡ q → times p (q ∷ qs) ≡ suc (times p qs)
times_here p q qs same = ap (λ b. cond b (suc (times p qs)) (times p qs)) (eq-eqb p q same)

pub times_other : (p q : ℕ) (qs : List ℕ) → p ≢ q → times p (q ∷ qs) ≡ times p qs
times_other p q qs other = ap (λ b. cond b (suc (times p qs)) (times p qs)) (ne_eqb p q other)

pub times_more : (p q : ℕ) (qs : List ℕ) → times p qs ≤ times p (q ∷ qs)
times_more p q qs = elim (eqb_tells p q) [
  | inl is ↦ omega (arith, times_here p q qs is.1)
  | inr is ↦ omega (arith, times_other p q qs is.1)
]

-- one of two lists has a number more, the other one less
pub times_shift : (p q : ℕ) (xs ys : List ℕ) → times p (q ∷ xs) + times p ys ≡ times p xs + times p (q ∷ ys)
times_shift p q xs ys = elim (eqb_tells p q) [
  | inl is ↦ omega (arith, times_here p q xs is.1, times_here p q ys is.1)
  | inr is ↦ omega (arith, times_other p q xs is.1, times_other p q ys is.1)
]

pub times_append : (p : ℕ) (xs ys : List ℕ) → times p (xs ++ ys) ≡ times p xs + times p ys
times_append p [] ys = omega arith
times_append p (q ∷ xs) ys = elim (eqb_tells p q) [
  | inl is ↦ omega (arith, times_here p q (xs ++ ys) is.1, times_here p q xs is.1, times_append p xs ys)
  | inr is ↦ omega (arith, times_other p q (xs ++ ys) is.1, times_other p q xs is.1, times_append p xs ys)
]

-- the pages that were ever in use
pub once_in : (fresh p : ℕ) → 17 ≤ p → p < fresh → once fresh p ≡ 1
once_in fresh p low high = ap (λ b. cond (b && ltb p fresh) 1 0) (le-leb 17 p low) ∙ ap (λ b. cond b 1 0) (lt-ltb p fresh high)

pub once_low : (fresh p : ℕ) → p < 17 → once fresh p ≡ 0
once_low fresh p low = ap (λ b. cond (b && ltb p fresh) 1 0) (lt-leb 17 p low)

pub once_high : (fresh p : ℕ) → fresh ≤ p → once fresh p ≡ 0
once_high fresh p high = ap (λ b. cond (leb 17 p && b) 1 0) (le-ltb p fresh high) ∙ by (leb 17 p)
  where
    by : (b : Bool) → ◌≡◌ {A = ℕ} (cond (b && false) 1 0) 0
    by true = refl
    by false = refl

pub once_given : (fresh p : ℕ) → 0 < once fresh p → IsGiven fresh p
once_given fresh p some = elim (cases_lt p 17) [
  | inl low ↦ absurd (omega (arith, some, once_low fresh p low))
  | inr high ↦ elim (cases_lt p fresh) [
    | inl below ↦ (high, below)
    | inr above ↦ absurd (omega (arith, some, once_high fresh p above))
  ]
]

pub once_most : (fresh p : ℕ) → once fresh p ≤ 1
once_most fresh p = elim (cases_lt p 17) [
  | inl low ↦ omega (arith, once_low fresh p low)
  | inr high ↦ elim (cases_lt p fresh) [
    | inl below ↦ omega (arith, once_in fresh p high below)
    | inr above ↦ omega (arith, once_high fresh p above)
  ]
]

-- one more page was in use
pub once_step : (fresh p : ℕ) → p ≢ fresh → once (fresh + 1) p ≡ once fresh p
once_step fresh p other = elim (cases_lt p 17) [
  | inl low ↦ once_low (fresh + 1) p low ∙ sym (once_low fresh p low)
  | inr high ↦ elim (cases_lt p fresh) [
    | inl below ↦ once_in (fresh + 1) p high (omega (arith, below)) ∙ sym (once_in fresh p high below)
    | inr above ↦ elim (cases_lt fresh p) [
      | inl past ↦ once_high (fresh + 1) p (omega (arith, past)) ∙ sym (once_high fresh p above)
      | inr at ↦ absurd (other (omega (arith, above, at)))
    ]
  ]
]

-- a list with a number once less
abbrev drop_one : ℕ → List ℕ → List ℕ
drop_one p [] = []
drop_one p (q ∷ qs) = cond (eqb p q) qs (q ∷ drop_one p qs)

drop_here : (p q : ℕ) (qs : List ℕ) → p ≡ q → drop_one p (q ∷ qs) ≡ qs
drop_here p q qs same = ap (λ b. cond b qs (q ∷ drop_one p qs)) (eq-eqb p q same)

drop_later : (p q : ℕ) (qs : List ℕ) → p ≢ q → drop_one p (q ∷ qs) ≡ q ∷ drop_one p qs
drop_later p q qs other = ap (λ b. cond b qs (q ∷ drop_one p qs)) (ne_eqb p q other)

one_shorter : (p : ℕ) (xs : List ℕ) → 0 < times p xs → suc (length (drop_one p xs)) ≡ length xs
one_shorter p [] some = absurd (omega (arith, some))
one_shorter p (q ∷ xs) some = elim (eqb_tells p q) [
  | inl is ↦ ap (λ l. suc (length l)) (drop_here p q xs is.1)
  | inr is ↦
      ap (λ l. suc (length l)) (drop_later p q xs is.1)
      ∙ ap (λ n. suc n) (one_shorter p xs (omega (arith, some, times_other p q xs is.1)))
]

once_less : (p : ℕ) (xs : List ℕ) → 0 < times p xs → suc (times p (drop_one p xs)) ≡ times p xs
once_less p [] some = absurd (omega (arith, some))
once_less p (q ∷ xs) some = elim (eqb_tells p q) [
  | inl is ↦ ap (λ l. suc (times p l)) (drop_here p q xs is.1) ∙ sym (times_here p q xs is.1)
  | inr is ↦
      let rest = once_less p xs (omega (arith, some, times_other p q xs is.1)) in
      ap (λ l. suc (times p l)) (drop_later p q xs is.1)
      ∙ omega (arith, times_other p q (drop_one p xs) is.1, rest, times_other p q xs is.1)
]

others_stay : (p r : ℕ) (xs : List ℕ) → r ≢ p → times r (drop_one p xs) ≡ times r xs
others_stay p r [] other = refl
others_stay p r (q ∷ xs) other = elim (eqb_tells p q) [
  | inl is ↦ ap (λ l. times r l) (drop_here p q xs is.1) ∙ sym (times_other r q xs (λ same. other (same ∙ sym is.1)))
  | inr is ↦ ap (λ l. times r l) (drop_later p q xs is.1) ∙ elim (eqb_tells r q) [
    | inl here ↦ omega (arith, times_here r q (drop_one p xs) here.1, times_here r q xs here.1, others_stay p r xs other)
    | inr later ↦ omega (arith, times_other r q (drop_one p xs) later.1, times_other r q xs later.1, others_stay p r xs other)
  ]
]

-- as many pages were in use as there are numbers from 17 on
pub count_given : (n : ℕ) (xs : List ℕ) → ((p : ℕ) → times p xs ≡ once (17 + n) p) → length xs ≡ n
count_given zero [] each = refl
count_given zero (p ∷ xs) each = absurd (elim (cases_lt p 17) [
  | inl low ↦ omega (arith, each p, once_low (17 + 0) p low, times_here p p xs refl)
  | inr high ↦ omega (arith, each p, once_high (17 + 0) p high, times_here p p xs refl)
])
count_given (suc n) xs each =
    let top = 17 + n in
    let there : times top xs ≡ 1 = each top ∙ once_in (17 + suc n) top (omega arith) (omega arith) in
    let some : 0 < times top xs = omega (arith, there) in
    let rest = count_given n (drop_one top xs) (λ p. elim (eqb_tells p top) [
      | inl is ↦
          ap (λ q. times q (drop_one top xs)) is.1
          ∙ omega (arith, once_less top xs some, there, once_high (17 + n) p (omega (arith, is.1)))
      | inr is ↦
          let next : 17 + suc n ≡ top + 1 = omega arith in
          others_stay top p xs is.1 ∙ each p ∙ ap (λ f. once f p) next ∙ once_step top p is.1
    ]) in
    omega (arith, one_shorter top xs some, rest)
