-- Sums and lists over the numbers below another.
use Rattle.std.proofs.Common.{◌≡◌, ◌≢◌, ℕ, zero, suc, ◌+◌, ◌<◌, ◌≤◌, List, [], ◌++◌, length, refl, sym, ap, subst, arith, inl, inr, ◌∙◌}
use Rattle.std.proofs.lemmas.Bool.{cases_lt}
use Rattle.std.proofs.lemmas.List.{length-append}
use Rattle.page_space.specs.Spaces.{times}
use Rattle.page_space.proofs.Counting.{times_append}
use Rattle.path_repair.specs.Sums.{sum_below, join_below}

pub sum_same : (f g : ℕ → ℕ) (n : ℕ) → ((c : ℕ) → c < n → f c ≡ g c) → sum_below f n ≡ sum_below g n
unfolding sum_below
sum_same f g zero same = refl
sum_same f g (suc n) same = omega (arith, sum_same f g n (λ c low. same c (omega (arith, low))), same n (omega arith))

pub sum_le : (f g : ℕ → ℕ) (n : ℕ) → ((c : ℕ) → c < n → f c ≤ g c) → sum_below f n ≤ sum_below g n
unfolding sum_below
sum_le f g zero less = omega arith
sum_le f g (suc n) less = omega (arith, sum_le f g n (λ c low. less c (omega (arith, low))), less n (omega arith))

-- the term at i comes after those before it
pub sum_upto : (f : ℕ → ℕ) (i n : ℕ) → i < n → sum_below f i + f i ≤ sum_below f n
unfolding sum_below
sum_upto f i zero low = absurd (omega (arith, low))
sum_upto f i (suc n) low = elim (cases_lt i n) [
  | inl below ↦ omega (arith, sum_upto f i n below)
  | inr past ↦
      let P : ℕ → Type 0 = λ m. sum_below f m + f m ≤ sum_below f n + f n in
      let same : n ≡ i = omega (arith, low, past) in
      subst P same (omega arith)
]

pub sum_suc : (f : ℕ → ℕ) (n : ℕ) → sum_below f (suc n) ≡ sum_below f n + f n
unfolding sum_below
sum_suc f n = refl

pub sum_none : (f : ℕ → ℕ) → sum_below f 0 ≡ 0
unfolding sum_below
sum_none f = refl

-- two sums whose terms differ at i alone
pub sum_swap : (f g : ℕ → ℕ) (i n : ℕ) → i < n → ((c : ℕ) → c < n → c ≢ i → g c ≡ f c) → sum_below f n + g i ≡ sum_below g n + f i
unfolding sum_below
sum_swap f g i zero low same = absurd (omega (arith, low))
sum_swap f g i (suc n) low same = elim (cases_lt i n) [
  | inl below ↦ omega (
    arith,
    sum_swap f g i n below (λ c within other. same c (omega (arith, within)) other),
    same n (omega arith) (λ is. omega (arith, is, below)),
  )
  | inr past ↦
      let at : n ≡ i = omega (arith, low, past) in
      let rest = sum_same f g n (λ c within. sym (same c (omega (arith, within)) (λ is. omega (arith, is, within, at)))) in
      omega (arith, rest, ap f at, ap g at)
]

pub times_join : (p : ℕ) (f : ℕ → List ℕ) (n : ℕ) → times p (join_below f n) ≡ sum_below (λ c. times p (f c)) n
unfolding sum_below join_below
times_join p f zero = refl
times_join p f (suc n) = omega (arith, times_append p (join_below f n) (f n), times_join p f n)

pub length_join : (f : ℕ → List ℕ) (n : ℕ) → length (join_below f n) ≡ sum_below (λ c. length (f c)) n
unfolding sum_below join_below
length_join f zero = refl
length_join f (suc n) = omega (arith, length-append (join_below f n) (f n), length_join f n)

pub join_same : (f g : ℕ → List ℕ) (n : ℕ) → ((c : ℕ) → c < n → f c ≡ g c) → join_below f n ≡ join_below g n
unfolding join_below
join_same f g zero same = refl
join_same f g (suc n) same =
    ap (λ l. l ++ f n) (join_same f g n (λ c low. same c (omega (arith, low)))) ∙ ap (λ l. join_below g n ++ l) (same n (omega arith))

-- what stands in one of them stands in all
pub times_in_join : (p : ℕ) (f : ℕ → List ℕ) (i n : ℕ) → i < n → times p (f i) ≤ times p (join_below f n)
times_in_join p f i n low = omega (arith, times_join p f n, sum_upto (λ c. times p (f c)) i n low)

-- two lists that differ at i alone
pub times_swap : (p : ℕ) (f g : ℕ → List ℕ) (i n : ℕ) → i < n → ((c : ℕ) → c < n → c ≢ i → g c ≡ f c)
    → times p (join_below f n) + times p (g i) ≡ times p (join_below g n) + times p (f i)
times_swap p f g i n low same =
    let swap = sum_swap (λ c. times p (f c)) (λ c. times p (g c)) i n low (λ c within other. ap (λ l. times p l) (same c within other)) in
    omega (arith, swap, times_join p f n, times_join p g n)

pub join_none : (f : ℕ → List ℕ) (n : ℕ) → ((c : ℕ) → c < n → f c ≡ []) → join_below f n ≡ []
unfolding join_below
join_none f zero none = refl
join_none f (suc n) none = ap (λ l. l ++ f n) (join_none f n (λ c low. none c (omega (arith, low)))) ∙ none n (omega arith)

-- what holds of the numbers below n, and of n
pub below_next : (P : ℕ → Type 0) (n : ℕ) → ((c : ℕ) → c < n → P c) → P n → (c : ℕ) → c < n + 1 → P c
below_next P n before here c low = elim (cases_lt c n) [
  | inl less ↦ before c less
  | inr high ↦
      let same : n ≡ c = omega (arith, low, high) in
      subst P same here
]
