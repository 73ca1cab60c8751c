-- Numbers in rising order stay so.
use Rattle.std.proofs.Common.{◌≡◌, ℕ, suc, ◌+◌, ◌<◌, ◌≤◌, Bool, true, not, List, [], ◌∷◌, ◌++◌, length, sym, subst, arith}
use Rattle.std.specs.Prelude.{All, AllPairs, filter, nat_lt, ◌==◌, slice_index_or, remove}
use Rattle.std.specs.List.Sorted.{IsStrictlyIncreasing}
use Rattle.std.proofs.lemmas.Bool.Decides.{nat_tests}
use Rattle.std.proofs.lemmas.List.Kept.{AllPairs-cons, AllPairs-filter, AllPairs-from_increasing, IsStrictlyIncreasing-filter}
use Rattle.std.proofs.lemmas.List.Elements.{All-cons, All-append, All-weaker, All-filter, filter_passes}
use Rattle.std.proofs.lemmas.List.Sums.{length-filter, count_by-le-length}
use Rattle.live_view.specs.Numbers.{with_number, without_number}

abbrev IsBelow : ℕ → ℕ → Type 0
IsBelow a b = a < b

-- each pair of the one list, of the other, and of both
AllPairs-append : {X : Type 0} (R : X → X → Type 0) (xs ys : List X) → AllPairs R xs → AllPairs R ys → All (λ x. All (R x) ys) xs
    → AllPairs R (xs ++ ys)
AllPairs-append R [] ys left right across = right
AllPairs-append R (x ∷ xs) ys left right across =
    AllPairs-cons R x (xs ++ ys)
    (All-append (R x) xs ys (λ k d below. left 0 (suc k) d (omega arith) (omega (arith, below))) (across 0 x (omega arith)))
    (AllPairs-append R xs ys (λ i j d before below. left (suc i) (suc j) d (omega (arith, before)) (omega (arith, below))) right
    (λ k d below. across (suc k) d (omega (arith, below))))

-- numbers each of which is below all later ones rise
rise : (xs : List ℕ) → AllPairs IsBelow xs → IsStrictlyIncreasing xs
rise xs pairs = λ k below. pairs k (k + 1) 0 (omega arith) below

below_so : (n m : ℕ) → nat_lt m n ≡ true → m < n
below_so n m test = grind (arith, nat_tests)

above_so : (n m : ℕ) → nat_lt n m ≡ true → n < m
above_so n m test = grind (arith, nat_tests)

-- one more
pub with-rises : (n : ℕ) (xs : List ℕ) → IsStrictlyIncreasing xs → IsStrictlyIncreasing (with_number n xs)
with-rises n xs rising =
    let pairs : AllPairs IsBelow xs = AllPairs-from_increasing xs rising in
    let low : List ℕ = filter (λ m. nat_lt m n) xs in
    let high : List ℕ = filter (λ m. nat_lt n m) xs in
    let lows : All (λ m. m < n) low = All-weaker (λ m. nat_lt m n ≡ true) (λ m. m < n) (below_so n) low
    (filter_passes (λ m. nat_lt m n) xs) in
    let highs : All (λ m. n < m) high = All-weaker (λ m. nat_lt n m ≡ true) (λ m. n < m) (above_so n) high
    (filter_passes (λ m. nat_lt n m) xs) in
    rise (with_number n xs) (AllPairs-append IsBelow low (n ∷ high) (AllPairs-filter IsBelow (λ m. nat_lt m n) xs pairs)
    (AllPairs-cons IsBelow n high highs (AllPairs-filter IsBelow (λ m. nat_lt n m) xs pairs))
    (All-weaker (λ m. m < n) (λ m. All (IsBelow m) (n ∷ high))
    (λ m low_so. All-cons (IsBelow m) n high low_so
    (All-weaker (λ k. n < k) (IsBelow m) (λ k high_so. omega (arith, low_so, high_so)) high highs)) low lows))

-- what holds of all numbers and of one more holds of all with it
pub with-all : (P : ℕ → Type 0) (n : ℕ) (xs : List ℕ) → P n → All P xs → All P (with_number n xs)
with-all P n xs one all =
    All-append P (filter (λ m. nat_lt m n) xs) (n ∷ filter (λ m. nat_lt n m) xs) (All-filter (λ m. nat_lt m n) P xs all)
    (All-cons P n (filter (λ m. nat_lt n m) xs) one (All-filter (λ m. nat_lt n m) P xs all))

-- what holds of all numbers holds of all but the first
pub rest-all : (P : ℕ → Type 0) (n : ℕ) (xs rest : List ℕ) → xs ≡ n ∷ rest → All P xs → All P rest
rest-all P n xs rest is all = λ k d below. let A : List ℕ → Type 0 = λ l. All P l in subst A is all (suc k) d (omega (arith, below))

-- and of the first
pub first-of-all : (P : ℕ → Type 0) (n : ℕ) (xs rest : List ℕ) → xs ≡ n ∷ rest → All P xs → P n
first-of-all P n xs rest is all = let A : List ℕ → Type 0 = λ l. All P l in subst A is all 0 n (omega arith)

-- one less
pub without-rises : (n : ℕ) (xs : List ℕ) → IsStrictlyIncreasing xs → IsStrictlyIncreasing (without_number n xs)
without-rises n xs rising = IsStrictlyIncreasing-filter (λ m. not (m == n)) xs rising

-- what holds of a list holds of an equal one
pub so-too : (P : List ℕ → Type 0) (xs ys : List ℕ) → ys ≡ xs → P xs → P ys
so-too P xs ys is holds = subst P (sym is) holds

-- some of the numbers
pub some-few : (p : ℕ → Bool) (xs : List ℕ) → length xs ≤ 16 → length (filter p xs) ≤ 16
some-few p xs few = omega (arith, length-filter p xs, count_by-le-length p xs, few)

-- numbers but the first
pub rest-rises : (n : ℕ) (xs rest : List ℕ) → xs ≡ n ∷ rest → IsStrictlyIncreasing xs → IsStrictlyIncreasing rest
rest-rises n xs rest is rising =
    let P : List ℕ → Type 0 = λ l. IsStrictlyIncreasing l in
    let pairs : AllPairs IsBelow (n ∷ rest) = AllPairs-from_increasing (n ∷ rest) (subst P is rising) in
    rise rest (λ i j d before below. pairs (suc i) (suc j) d (omega (arith, before)) (omega (arith, below)))

-- what is removed at the front is the first
pub first_of : (xs rest : List ℕ) (n : ℕ) → 0 < length xs → n ≡ slice_index_or xs 0 n → rest ≡ remove xs 0 → xs ≡ n ∷ rest
first_of [] rest n some value items = absurd (omega (arith, some))
first_of (x ∷ xs) rest n some value items = cc
